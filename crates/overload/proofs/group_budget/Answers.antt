-- The chain gives the budgets of the group among the first 64, each with its task: their sum fits, and is the sum of the rules.
use Rattle.std.proofs.Common.{◌∙◌, ◌^◌, refl, rules, arith}
use Rattle.std.specs.Iterator.Adapters.{take_count}
use Rattle.std.proofs.lemmas.Iterator.{YieldsList-from_slice, YieldsList-from_take, YieldsList-from_map}
use Rattle.std.proofs.lemmas.Iterator.Consumers.{YieldsList-at, YieldsList-from_enumerate, YieldsList-from_filter, sum_by_from_yields_List, fits_by_from_yields_list}
use Rattle.overload.proofs.GroupSum.{named, named_is, group_budgets, group_sum, group_sum_fits}
use Rattle.overload.proofs.group_budget.Goals as goal

pub sum-requires-clause-fits : goal.sum-requires-clause-fits
sum-requires-clause-fits c =
    fits_by_from_yields_list (λ p. p.1) (group_budgets (take_count c.take.result) c.args.budgets.now c.args.group) c.map.result (2 ^ 64)
    (YieldsList-from_map _ (λ p. p.1)
    (YieldsList-at c.map.ensures.source
    (YieldsList-from_filter _ (named c.args.group)
    (YieldsList-at c.filter.ensures.source
    (YieldsList-from_enumerate (YieldsList-at c.enumerate.ensures.source (YieldsList-from_take _ (YieldsList-at c.take.ensures.source (YieldsList-from_slice c.args.budgets.now c.iter.ensures.rest)) refl)) c.enumerate.ensures.count))
    c.filter.ensures.closure (λ x b q k. search (rules, named_is))))
    c.map.ensures.closure (λ x r q k. search rules))
    (group_sum_fits (take_count c.take.result) c.args.budgets.now c.args.group (omega (arith, c.take.ensures.count)) (λ i. omega (arith, c.type_inv.budgets i)))

pub returns : goal.returns
returns c =
    sum_by_from_yields_List (λ p. p.1) (group_budgets (take_count c.take.result) c.args.budgets.now c.args.group) c.map.result c.sum.result c.sum.ensures.ran
    (YieldsList-from_map _ (λ p. p.1)
    (YieldsList-at c.map.ensures.source
    (YieldsList-from_filter _ (named c.args.group)
    (YieldsList-at c.filter.ensures.source
    (YieldsList-from_enumerate (YieldsList-at c.enumerate.ensures.source (YieldsList-from_take _ (YieldsList-at c.take.ensures.source (YieldsList-from_slice c.args.budgets.now c.iter.ensures.rest)) refl)) c.enumerate.ensures.count))
    c.filter.ensures.closure (λ x b q k. search (rules, named_is))))
    c.map.ensures.closure (λ x r q k. search rules))
    ∙ group_sum (take_count c.take.result) c.args.budgets.now c.args.group (rw c.take.ensures.count (omega (arith, c.ranges.group)))
