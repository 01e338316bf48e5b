use Rattle.planner.specs.Fill.{Filling, demanded}
use Rattle.planner.proofs.flow.place_first.Given as goal

abbrev pub invariant-loop-t : goal.invariant-loop-t
invariant-loop-t l = Filling (demanded l.asked) l.stock
