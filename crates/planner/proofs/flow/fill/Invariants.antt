-- Each search that does not end leaves less lacking.
use Rattle.planner.specs.Fill.{Filling, demanded, lack}
use Rattle.planner.proofs.flow.fill.Given as goal

abbrev pub invariant-loop-hit : goal.invariant-loop-hit
invariant-loop-hit l = Filling (demanded l.asked) l.stock

abbrev pub decreases-loop-hit : goal.decreases-loop-hit
decreases-loop-hit l = lack (demanded l.asked) l.stock
