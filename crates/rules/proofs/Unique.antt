-- Any two answers that a conversion of this crate allows are equal: a number of an answer, an answer of tests.
-- Assumes nothing.
use mathlib.Core.Path.{◌≡◌, sym, ◌∙◌}
use Prim.Native.Nat.{ℕ}
use Rattle.std.specs.Prelude.{Result}
use Rattle.rules.specs.Answer.{number_of, answer_of}
use Rattle.rules.specs.declared.Answer.{Answer}

pub number_unique : (a : Answer) (r s : ℕ) → r ≡ number_of a → s ≡ number_of a → r ≡ s
number_unique a r s p q = p ∙ sym q

pub answer_of_unique : (t : Result Unit Answer) (a b : Answer) → a ≡ answer_of t → b ≡ answer_of t → a ≡ b
answer_of_unique t a b p q = p ∙ sym q
