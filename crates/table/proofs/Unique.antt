-- Any two answers that a contract of this crate allows for one input are equal.
-- Assumes nothing.
use mathlib.Core.Path.{◌≡◌, refl, sym, ◌∙◌, ap}
use mathlib.Core.List.{List}
use Prim.Native.Nat.{ℕ}
use Rattle.rules.specs.Check.{check_answer}
use Rattle.rules.specs.Tests.{Tested, refused, passed}
use Rattle.rules.specs.declared.Answer.{Answer}
use Rattle.std.specs.Prelude.{Option, Result, Ok, Err}
use Rattle.tests.specs.Verdict.{verdict_of}
use Rattle.table.specs.Tested.{tested_table}
use Rattle.table.specs.Read.{stretch_get}
use Rattle.table.specs.declared.Stretch.{Stretch}

pub check_answer_unique : (F m : ℕ) (table : List ℕ) (a b : Answer) → a ≡ check_answer F m table → b ≡ check_answer F m table → a ≡ b
check_answer_unique F m table a b p q = p ∙ sym q

pub stretch_get_unique : (table : List ℕ) (k : ℕ) (a b : Option Stretch) → a ≡ stretch_get table k → b ≡ stretch_get table k → a ≡ b
stretch_get_unique table k a b p q = p ∙ sym q

-- the answer that says what the tests of the rules say
answer_for : Tested → Result Unit Answer
answer_for (refused a) = Err a
answer_for passed = Ok tt

back : (r : Result Unit Answer) → answer_for (verdict_of r) ≡ r
unfolding answer_for
back (Err a) = refl
back (Ok tt) = refl

pub test_table_unique : (F m : ℕ) (table : List ℕ) {r q : Result Unit Answer} → verdict_of r ≡ tested_table F m table → verdict_of q ≡ tested_table F m table → r ≡ q
test_table_unique F m table {r} {q} a b = sym (back r) ∙ ap answer_for (a ∙ sym b) ∙ back q
