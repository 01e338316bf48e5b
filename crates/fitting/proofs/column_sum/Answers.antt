-- `fitting::column_sum` meets its contract: the sum over a range is the sum to its end.
use Rattle.std.proofs.Common.{rules, arith, ◌∙◌}
use Rattle.std.proofs.lemmas.Iterator.{YieldsList-from_range, YieldsList-from_map}
use Rattle.std.proofs.lemmas.Iterator.Adapters.{fits_from_length, at_most_from_yields_List}
use Rattle.std.proofs.lemmas.Iterator.Consumers.{sum_by_from_yields_List}
use Rattle.std.proofs.lemmas.List.FromFn.{length-range_with_len}
use borrow.Author.Tests.{tests}
use Rattle.stretches.specs.Cell.{cell}
use Rattle.fitting.proofs.FittingLaws.{sum_by_range}
use Rattle.fitting.proofs.column_sum.Goals as goal

pub sum-requires-clause-fits : goal.sum-requires-clause-fits
sum-requires-clause-fits c =
    fits_from_length _ _ 64 _ (at_most_from_yields_List (YieldsList-from_range 0 c.args.grid.tasks c.args.grid.tasks c.map.ensures.source (omega arith)) (omega (arith, length-range_with_len 0 c.args.grid.tasks)))
    c.map.ensures.closure (omega arith) (λ x r q k. search (rules, tests))

pub returns : goal.returns
returns c =
    sum_by_from_yields_List _ _ _ _ c.sum.ensures.ran
    (YieldsList-from_map _ (λ i. cell c.args.grid.units.now i c.args.core) (YieldsList-from_range 0 c.args.grid.tasks c.args.grid.tasks c.map.ensures.source (omega arith)) c.map.ensures.closure (λ x r q k. search rules))
    ∙ sum_by_range _ _
