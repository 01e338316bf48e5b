-- `walking::walk` meets its contract: the loop visits one core after the other.
use Rattle.rules.specs.Layout.{visits}
use Rattle.stretches.specs.Cell.{cell}
use Rattle.layout.specs.Walking.{Kept}
use Rattle.layout.proofs.walking.walk.Given as goal

abbrev pub invariant-loop-c : goal.invariant-loop-c
invariant-loop-c l =
    Kept (visits l.grid.tasks l.grid.cores (cell l.grid.units.now) l.c) l.walked
