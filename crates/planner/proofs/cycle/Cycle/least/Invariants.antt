-- The least of the places passed.
use Rattle.rules.specs.Plan.{at}
use Rattle.stretches.specs.Cell.{cell}
use Rattle.forest.specs.Ring.{Least}
use Rattle.planner.proofs.cycle.Cycle.least.Given as goal

abbrev pub invariant-loop-i : goal.invariant-loop-i
invariant-loop-i l =
    Least (cell l.units) (at l.self.tasks) (at l.self.cores) l.self.lo l.i l.d
