-- `fitting::row_of` meets its contract.
use Rattle.std.proofs.Common.{◌≡◌, ◌≤◌, ◌*◌, ◌^◌}
use Rattle.rules.specs.Sum.{sum_to, positive}
use Rattle.stretches.specs.Cell.{cell}
use Rattle.fitting.proofs.row_of.Given as goal

abbrev pub invariant-loop-unit : goal.invariant-loop-unit
invariant-loop-unit l =
    (l.row.sum ≡ sum_to l.unit-index (cell l.grid.units.now l.task))
    × (l.row.used ≡ sum_to l.unit-index (λ k. positive (cell l.grid.units.now l.task k)))
    × (l.row.sum ≤ l.unit-index * 2 ^ 32)
    × (l.row.used ≤ l.unit-index)
