use Rattle.std.proofs.Common.{rules, arith, ◌∙◌}
use Rattle.rules.specs.Sum.{positive}
use Rattle.stretches.specs.Cell.{cell}
use Rattle.sums.proofs.SumLoops.{sum_none, sum_more}
use Rattle.fitting.proofs.FittingLaws.{row_get, used_as_number, used_below}
use Rattle.fitting.proofs.row_of.Goals as goal

pub loop-unit-init : goal.loop-unit-init
loop-unit-init c = search (sum_none, rules)

pub loop-unit-preserved : goal.loop-unit-preserved
loop-unit-preserved c =
    let unit = row_get _ _ _ _ c.loop-unit-test.true in (
      sum_more (cell c.args.grid.units.now c.args.task) _ _ _ c.loop-unit.invariant.0 (c.from.ensures ∙ unit),
      sum_more (λ k. positive (cell c.args.grid.units.now c.args.task k)) _ _ _ c.loop-unit.invariant.1 (used_as_number c.from-in-loop-unit.ensures unit),
      omega arith,
      omega (arith, used_below _ c.from-in-loop-unit.ensures),
    )
