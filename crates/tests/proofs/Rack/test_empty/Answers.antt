use Rattle.std.proofs.Common.{arith}
use Rattle.std.proofs.lemmas.Grind.{common_steps}
use Rattle.rules.specs.Tests.{empty_mask, mask_tested}
use Rattle.rules.specs.declared.Answer.TheVariants.{EmptyMask}
use Rattle.tests.specs.Verdict.{tested_empty}
use Rattle.tests.proofs.ScanLaws.{first_refused}
use Rattle.tests.proofs.Rack.test_empty.Goals as goal

pub returns : goal.returns
unfolding tested_empty mask_tested
returns c = first_refused empty_mask (λ i x. EmptyMask i) c.args.masks.now
    (record { refuses = λ i x a k. grind (arith, common_steps); passes = λ i x k. grind (arith, common_steps) }) c.test_each.ensures
