-- The loop meets one task after the other.
use Rattle.rules.specs.Layout.{meet}
use Rattle.stretches.specs.Cell.{cell}
use Rattle.layout.specs.Walking.{walk_of, Kept}
use Rattle.layout.proofs.walking.Walked.visit_core.Given as goal

abbrev pub invariant-loop-t : goal.invariant-loop-t
invariant-loop-t l =
    Kept (meet l.grid.tasks l.grid.cores (cell l.grid.units.now) l.core l.t (walk_of l.initial.self)) l.self
