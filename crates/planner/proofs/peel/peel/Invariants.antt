-- The invariant: what is gone was loose when it went. The measure counts what is still there.
use Rattle.std.proofs.Common.{◌+◌}
use Rattle.rules.specs.Sum.{sum_to}
use Rattle.stretches.specs.Cell.{cell}
use Rattle.forest.specs.Stripping.{there}
use Rattle.planner.specs.Seeking.{Stripped}
use Rattle.planner.proofs.peel.peel.Given as goal

abbrev pub invariant-loop-t : goal.invariant-loop-t
invariant-loop-t l =
    Stripped l.grid.tasks l.grid.cores (cell l.grid.units.now) l.gone

abbrev pub decreases-loop-t : goal.decreases-loop-t
decreases-loop-t l =
    sum_to l.grid.tasks (there l.gone.tasks) + sum_to l.grid.cores (there l.gone.cores)
