use Rattle.std.proofs.Common.{◌∙◌, sym}
use Rattle.sums.proofs.Sum.{put_other}
use Rattle.sums.proofs.SumLoops.{sum_none, put_fits, sum_more}
use Rattle.layout.proofs.AheadLaws.{sum_skipped}
use Rattle.layout.proofs.before.sum_before.Goals as goal
use Rattle.layout.proofs.before.sum_before.Goals.{then-k-skip, else-k-skip}

pub loop-k-init : goal.loop-k-init
loop-k-init g c = λ f h. sum_none _

pub overflow_add-sum : goal.overflow_add-sum
overflow_add-sum g c =
    let w = c.requires in
    put_fits w.units c.args.skip _ _ _ _ (c.loop-k.invariant w.units w.read) (w.read.given _ _ c.unit-sum.ensures ∙ sym (put_other c.args.skip 0 w.units c.loop-k.k c.if-k-skip.true)) c.loop-k-test.true w.small

pub loop-k-preserved : goal.loop-k-preserved
loop-k-preserved g c =
    λ f h. elim c.if-k-skip.branch [
      | then-k-skip w ↦
          w.sum-is ∙ sum_more _ _ _ _ (c.loop-k.invariant f h) (h.given _ _ w.unit-sum.ensures ∙ sym (put_other c.args.skip 0 f c.loop-k.k w.if-k-skip.true))
      | else-k-skip w ↦ w.sum-is ∙ sum_skipped f _ _ _ (c.loop-k.invariant f h) w.if-k-skip.false
    ]
