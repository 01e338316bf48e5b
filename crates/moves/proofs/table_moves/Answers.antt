-- The items of the chain are the moves of each task.
use Rattle.std.proofs.Common.{rules, refl, ◌∙◌}
use Rattle.std.proofs.lemmas.Iterator.{YieldsList-from_range, YieldsList-from_map}
use Rattle.std.proofs.lemmas.Iterator.Consumers.{sum_from_yields_List, fits_from_yields_list}
use Rattle.moves.proofs.Moves.{task_changes, moves_sum, moves_few}
use Rattle.moves.proofs.table_moves.Goals as goal

pub sum-requires-clause-fits : goal.sum-requires-clause-fits
sum-requires-clause-fits c =
    fits_from_yields_list c.map.result _
    (YieldsList-from_map _ (task_changes c.args.table.now) (YieldsList-from_range 0 64 64 c.map.ensures.source refl) c.map.ensures.closure (λ x r q k. search rules))
    (moves_few c.args.table.now c.requires)

pub returns : goal.returns
returns c =
    sum_from_yields_List c.map.result _ c.sum.ensures.ran
    (YieldsList-from_map _ (task_changes c.args.table.now) (YieldsList-from_range 0 64 64 c.map.ensures.source refl) c.map.ensures.closure (λ x r q k. search rules))
    ∙ moves_sum c.args.table.now
