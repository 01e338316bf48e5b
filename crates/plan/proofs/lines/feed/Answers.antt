-- A byte adds at most one line, so the first line is always taken.
use Rattle.std.proofs.Common.{ℕ, refl, arith, sym, ◌∙◌, length-append, length-take, length-drop}
use Rattle.stream.proofs.LineLaws.{fed_none, fed_more}
use Rattle.plan.proofs.LineLaws.{fed_rest_of}
use Rattle.plan.proofs.lines.feed.Goals as goal

pub loop-stage-init : goal.loop-stage-init
loop-stage-init c =
    record { few = c.requires; within = omega arith; taken = omega arith; slow = omega arith; line_long = refl; out_long = refl; fed = λ l h. fed_none l _ _ _ _ h }

pub loop-stage-preserved : goal.loop-stage-preserved
loop-stage-preserved c =
    let took = c.next-step.ensures in
    let inv = c.loop-stage.invariant in
    let long = inv.out_long ∙ c.told-out in
    record {
      few = omega (arith, took.few, inv.line_long);
      within = omega (arith, took.within, c.told-out, c.if-stage-ge-LINE_ROOM.true);
      taken = omega (arith, took.taken, length-take {A = ℕ}, length-drop {A = ℕ});
      slow = omega (arith, took.within, took.some, inv.slow);
      line_long = c.next-step.array_long ∙ sym c.told-line;
      out_long = omega (arith, length-append {A = ℕ}, length-take {A = ℕ}, length-drop {A = ℕ}, c.next-step.auto.out, c.told-out, long);
      fed = λ l h. fed_more l _ _ _ _ _ _ _ c.loop-stage.stage.taken _ _ _ _ _ (omega arith) (inv.fed l h) (λ k g. fed_rest_of _ k c.args.chunk.now _ _ _ c.loop-stage.stage.taken c.next-step.result.taken _ _ _ long (omega arith) (took.took k g));
    }
