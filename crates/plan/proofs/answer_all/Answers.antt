-- Each turn feeds the lines of a chunk and passes their answers on, and the run goes one round further.
use Rattle.std.proofs.Common.{refl, arith, rules, sym, ◌∙◌}
use Rattle.stream.proofs.LoopLaws.{standing_start, opened, standing_again}
use Rattle.stream.proofs.Rounds.{history_start, history_again}
use Rattle.plan.proofs.answer_all.Goals as goal

pub loop-chunk-init : goal.loop-chunk-init
loop-chunk-init g c =
    record {
      standing = standing_start _ _ c.start-source.ensures;
      history = λ u. history_start _ _ _ c.start-source.ensures u;
      few = omega arith;
      line-long = refl;
      out-long = refl;
      input-long = search rules;
    }

pub feed-stage-requires : goal.feed-stage-requires
feed-stage-requires g c = omega (arith, c.loop-chunk.invariant.few, c.loop-chunk.invariant.line-long)

pub shared_ref_as_front-pass_on : goal.shared_ref_as_front-pass_on
shared_ref_as_front-pass_on g c = omega (arith, c.feed-stage.ensures.within, c.loop-chunk.invariant.out-long, c.told-out)

pub loop-chunk-preserved : goal.loop-chunk-preserved
loop-chunk-preserved g c =
    let inv = c.loop-chunk.invariant in
    let chunk = opened _ _ _ c.if-chunk.false _ _ inv.standing c.more-chunk.ensures in
    record {
      standing = standing_again _ _ _ _ _ _ _ _ _ _ c.args.line.now chunk inv.few (omega (arith, c.told-line)) (search rules) (search rules) c.feed-stage.ensures c.pass_on-source.ensures;
      history = λ u. history_again _ _ _ _ _ _ _ inv.history c.more-chunk.ensures _ _ _ _ _ chunk.some c.feed-stage.ensures c.pass_on-source.ensures u;
      few = omega (arith, c.feed-stage.ensures.few, inv.line-long);
      line-long = c.feed-stage.array_long ∙ sym c.told-line;
      out-long = c.feed-stage.array_long2 ∙ sym c.told-out;
      input-long = search rules;
    }
