-- Each step keeps whatever demand is being filled, and comes to an earlier place.
use Rattle.planner.specs.Search.{known}
use Rattle.planner.specs.Filled.{Underway}
use Rattle.planner.proofs.flow.go_back.Given as goal

abbrev pub invariant-loop-stock : goal.invariant-loop-stock
invariant-loop-stock l = Underway l.initial.stock (known l.trail) l.hit l.stock l.p

abbrev pub decreases-loop-stock : goal.decreases-loop-stock
decreases-loop-stock l = l.p
