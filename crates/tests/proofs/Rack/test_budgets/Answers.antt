use Rattle.std.proofs.Common.{rules, tests}
use Rattle.rules.specs.Tests.{bad_budget}
use Rattle.rules.specs.declared.Answer.TheVariants.{Budget}
use Rattle.tests.specs.Verdict.{tested_budgets}
use Rattle.tests.proofs.ScanLaws.{first_refused}
use Rattle.tests.proofs.Rack.test_budgets.Goals as goal

pub returns : goal.returns
unfolding tested_budgets bad_budget
returns c = first_refused (bad_budget c.args.self.frame) (λ i x. Budget i) c.args.budgets.now (record { refuses = λ i x a k. search (rules, tests); passes = λ i x k. search (rules, tests) }) c.test_each.ensures
