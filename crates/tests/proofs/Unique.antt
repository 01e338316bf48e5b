-- Any two answers that the contracts of `test_rack`, `test_set` and `test_plan` allow are equal.
-- Assumes nothing.
use mathlib.Core.Path.{◌≡◌, refl, sym, ◌∙◌, ap}
use mathlib.Core.List.{List}
use Prim.Native.Nat.{ℕ}
use Rattle.std.specs.Prelude.{Result, Ok, Err}
use Rattle.rules.specs.Tests.{Tested, refused, passed, tested_set, tested}
use Rattle.rules.specs.declared.Answer.{Answer}
use Rattle.tests.specs.Verdict.{verdict_of, tested_rack}

-- the answer that says what the tests of the rules say
answer_for : Tested → Result Unit Answer
answer_for (refused a) = Err a
answer_for passed = Ok tt

back : (r : Result Unit Answer) → answer_for (verdict_of r) ≡ r
unfolding answer_for
back (Err a) = refl
back (Ok tt) = refl

same_verdict : {r q : Result Unit Answer} → verdict_of r ≡ verdict_of q → r ≡ q
same_verdict {r} {q} e = sym (back r) ∙ ap answer_for e ∙ back q

pub test_rack_unique : (F m : ℕ) {r q : Result Unit Answer} → verdict_of r ≡ tested_rack F m → verdict_of q ≡ tested_rack F m → r ≡ q
test_rack_unique F m a b = same_verdict (a ∙ sym b)

pub test_set_unique : (F m : ℕ) (budgets masks : List ℕ) {r q : Result Unit Answer} → verdict_of r ≡ tested_set F m budgets masks → verdict_of q ≡ tested_set F m budgets masks → r ≡ q
test_set_unique F m budgets masks a b = same_verdict (a ∙ sym b)

pub test_plan_unique : (F m : ℕ) (budgets masks table : List ℕ) {r q : Result Unit Answer} → verdict_of r ≡ tested F m budgets masks table → verdict_of q ≡ tested F m budgets masks table → r ≡ q
test_plan_unique F m budgets masks table a b = same_verdict (a ∙ sym b)
