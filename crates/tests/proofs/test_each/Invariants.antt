-- No test so far refused.
use Rattle.tests.specs.Verdict.{NoneRefused}
use Rattle.tests.proofs.test_each.Given as goal

abbrev pub invariant-loop-task : goal.invariant-loop-task
invariant-loop-task g l = NoneRefused (λ i x r. goal.F-post g l.test i x r) l.values l.task
