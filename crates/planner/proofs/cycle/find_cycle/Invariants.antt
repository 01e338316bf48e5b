-- The way goes on while every vertex on it is new.
use Rattle.std.proofs.Common.{◌≡◌, ◌≤◌, ◌-◌, length}
use Rattle.rules.specs.Plan.{at}
use Rattle.stretches.specs.Cell.{cell}
use Rattle.forest.specs.Path.{Way}
use Rattle.planner.specs.Seeking.{Came}
use Rattle.planner.proofs.cycle.find_cycle.Given as goal

abbrev pub invariant-loop-a : goal.invariant-loop-a
invariant-loop-a l =
    (l.k ≤ 16) × (length l.tasks ≡ 18) × (length l.cores ≡ 18) × Way l.grid.tasks l.grid.cores (cell l.grid.units.now) l.gone.tasks l.gone.cores (at l.tasks) (at l.cores) l.k × Came (at l.cores) l.k l.from

abbrev pub decreases-loop-a : goal.decreases-loop-a
decreases-loop-a l =
    17 - l.k
