-- `fitting::test_rows` meets its contract: the loop holds one row after the other against the frame.
use Rattle.stretches.specs.Cell.{cell}
use Rattle.fitting.specs.Fitting.{Counted}
use Rattle.fitting.proofs.test_rows.Given as goal

abbrev pub invariant-loop-t : goal.invariant-loop-t
invariant-loop-t l =
    Counted l.frame l.t l.grid.cores (cell l.grid.units.now) l.used
