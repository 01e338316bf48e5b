-- `laying::lay_cores` meets its contract: the loop lays one core after the other.
use Rattle.layout.proofs.LayLaws.{CoresTo}
use Rattle.layout.proofs.laying.lay_cores.Given as goal

abbrev pub invariant-loop-j : goal.invariant-loop-j
invariant-loop-j l =
    CoresTo l.frame l.grid.tasks l.grid.cores l.grid.units.now l.walked l.initial.table l.j l.count l.table
