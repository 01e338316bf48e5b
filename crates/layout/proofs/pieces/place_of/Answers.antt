-- `pieces::place_of` meets its contract: the first place that is found, or the end.
use Rattle.std.proofs.Common.{rules, ◌<◌, ◌≤◌, ◌+◌, ◌*◌, get_or}
use Rattle.std.proofs.lemmas.Iterator.{first_from_Range}
use borrow.Author.Tests.{tests}
use Rattle.layout.proofs.GapLaws.{placed_by}
use Rattle.layout.proofs.pieces.place_of.Goals as goal

pub returns : goal.returns
returns c =
    rw c.unwrap_or.ensures
    (placed_by _ _ _ _ c.find.result c.requires.0
    (first_from_Range _ _ _ c.find.result (λ k. c.args.start < get_or c.args.table.now (4 * k + 2) 0) (λ k. get_or c.args.table.now (4 * k + 2) 0 ≤ c.args.start) c.find.ensures.ran (λ x q k. search (rules, tests)) (λ x q k. search (rules, tests))))
