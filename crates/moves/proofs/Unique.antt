-- Any two answers that a contract of this crate allows for one input are equal.
-- Assumes nothing.
use mathlib.Core.Path.{◌≡◌, sym, ◌∙◌}
use mathlib.Core.List.{List}
use Prim.Native.Nat.{ℕ}
use Rattle.std.specs.Prelude.{Option}
use Rattle.rules.specs.Check.{moves_answer}
use Rattle.rules.specs.declared.Counted.{Counted}
use Rattle.moves.specs.Next.{next_piece}

pub count_answer_unique : (F m : ℕ) (table : List ℕ) (a b : Counted) → a ≡ moves_answer F m table → b ≡ moves_answer F m table → a ≡ b
count_answer_unique F m table a b p q = p ∙ sym q

pub next_answer_unique : (table : List ℕ) (task from : ℕ) (a b : Option ℕ) → a ≡ next_piece table task from → b ≡ next_piece table task from → a ≡ b
next_answer_unique table task from a b p q = p ∙ sym q
