use Rattle.std.proofs.Common.{arith}
use Rattle.std.proofs.lemmas.Grind.{common_steps}
use Rattle.rules.specs.Tests.{past_cores, lowest_missing, mask_tested}
use Rattle.rules.specs.declared.Answer.TheVariants.{MissingCore}
use Rattle.tests.specs.Verdict.{tested_missing}
use Rattle.tests.proofs.ScanLaws.{first_refused, empty_names_none}
use Rattle.tests.proofs.Rack.test_missing.Goals as goal

pub returns : goal.returns
unfolding tested_missing mask_tested
returns c = first_refused (past_cores c.args.self.cores) (λ i x. MissingCore i (lowest_missing c.args.self.cores x)) c.args.masks.now
    (record { refuses = λ i x a k. grind (arith, common_steps); passes = λ i x k. grind (arith, common_steps, empty_names_none) }) c.test_each.ensures
