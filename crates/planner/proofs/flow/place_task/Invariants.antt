use Rattle.planner.specs.Fill.{Filling, demanded}
use Rattle.planner.proofs.flow.place_task.Given as goal

abbrev pub invariant-loop-j : goal.invariant-loop-j
invariant-loop-j l = Filling (demanded l.asked) l.stock
