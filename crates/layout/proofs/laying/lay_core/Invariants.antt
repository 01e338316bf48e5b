-- `laying::lay_core` meets its contract: the loop lays one task after the other.
use Rattle.layout.proofs.LayLaws.{LaidTo}
use Rattle.layout.proofs.laying.lay_core.Given as goal

abbrev pub invariant-loop-t : goal.invariant-loop-t
invariant-loop-t l =
    LaidTo l.frame l.grid.tasks l.grid.units.now l.on l.initial.table l.t l.count l.table
