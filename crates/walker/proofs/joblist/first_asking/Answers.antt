use Rattle.std.proofs.Common.{rules, ◌∙◌, not, nat_eq}
use Rattle.std.proofs.lemmas.Iterator.{YieldsList-from_slice}
use Rattle.std.proofs.lemmas.Iterator.Search.{position_from_yields_List}
use borrow.Author.Tests.{tests}
use Rattle.walker.proofs.Jobs.{place_asking}
use Rattle.walker.proofs.joblist.first_asking.Goals as goal

pub returns : goal.returns
returns c =
    position_from_yields_List (λ u. not (nat_eq u 0)) _ _ _ c.position.ensures.ran (YieldsList-from_slice c.args.units.now cc) (λ x b q k. search (rules, tests))
    ∙ place_asking c.args.units.now
