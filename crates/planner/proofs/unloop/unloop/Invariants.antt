-- All sums are kept, and what is gone stays gone. The measure is the number of edges.
use Rattle.std.proofs.Common.{◌≡◌, length}
use Rattle.stretches.specs.Cell.{cell}
use Rattle.forest.specs.Ring.{Kept, edges}
use Rattle.planner.specs.Seeking.{Stripped}
use Rattle.planner.proofs.unloop.unloop.Given as goal

abbrev pub invariant-loop-start : goal.invariant-loop-start
invariant-loop-start l =
    (length l.units ≡ 1024) × Kept l.tasks l.cores (cell l.initial.units) (cell l.units) × Stripped l.tasks l.cores (cell l.units) l.gone

abbrev pub decreases-loop-start : goal.decreases-loop-start
decreases-loop-start l =
    edges l.tasks l.cores (cell l.units)
