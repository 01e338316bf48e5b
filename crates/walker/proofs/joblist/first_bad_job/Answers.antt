use Rattle.std.proofs.Common.{rules, ◌∙◌, refl, arith, length}
use Rattle.std.proofs.lemmas.Iterator.{YieldsList-from_range}
use Rattle.std.proofs.lemmas.Iterator.Search.{position_from_yields_List}
use borrow.Author.Tests.{tests}
use Rattle.walker.specs.Jobs.{is_bad}
use Rattle.walker.proofs.Jobs.{place_bad}
use Rattle.walker.proofs.joblist.first_bad_job.Goals as goal

pub returns : goal.returns
returns c =
    position_from_yields_List (is_bad c.args.releases.now c.args.units.now) _ _ _ c.position.ensures.ran
    (YieldsList-from_range 0 (length c.args.releases.now) (length c.args.releases.now) refl (omega arith)) (λ x b q k. search (rules, tests))
    ∙ place_bad c.args.releases.now c.args.units.now
