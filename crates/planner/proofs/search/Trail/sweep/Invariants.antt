-- The loop finds one task after the other.
use Rattle.planner.specs.Search.{Swept, known}
use Rattle.planner.proofs.search.Trail.sweep.Given as goal

abbrev pub invariant-loop-t : goal.invariant-loop-t
invariant-loop-t g l = Swept l.asked.cores l.asked.masks.now (goal.W-post g l.weight) l.p l.t (known l.initial.self) (known l.self)
