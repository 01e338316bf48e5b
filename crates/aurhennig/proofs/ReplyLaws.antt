-- Laws on an answer as a reply, and on what the check, the count and the walk answered.
-- Assumes nothing.
use mathlib.Core.Path.{◌≡◌, refl, sym, ◌∙◌, ap}
use mathlib.Core.Bool.{cond}
use mathlib.Core.List.{List}
use Prim.Native.Nat.{ℕ}
use lib.Dec.{eqb}
use lib.ListN.{get_or}
use borrow.Author.Tests.{eq-eqb, ne_eqb}
use Rattle.rules.specs.Answer.{number_of, values_of}
use Rattle.rules.specs.Check.{check_answer, moves_answer}
use Rattle.rules.specs.Reply.{reply_of}
use Rattle.rules.specs.Replies.{check_reply, moves_reply}
use Rattle.rules.specs.declared.Answer.{Answer}
use Rattle.rules.specs.declared.Counted.{Counted}
use Rattle.rules.specs.declared.Reply.{Reply}

module _ (a : Answer) (count b n f s : ℕ) (byte : b ≡ number_of a) (wide : n ≡ b) (first : f ≡ get_or (values_of a) 0 0) (second : s ≡ get_or (values_of a) 1 0) where
  number : n ≡ number_of a
  number = wide ∙ byte

  counted : (c : ℕ) → c ≡ cond (eqb (number_of a) 0) count 0 → ◌≡◌ {A = Reply} (record { number = n; first = f; second = s; count = c }) (reply_of a count)
  unfolding reply_of
  counted c e = λ i. record { number = number i; first = first i; second = second i; count = e i }

  -- a refusal
  pub reply_refused : (n ≡ 0 → ⊥) → ◌≡◌ {A = Reply} (record { number = n; first = f; second = s; count = 0 }) (reply_of a count)
  reply_refused h = counted 0 (rw (ne_eqb (number_of a) 0 (λ e. h (number ∙ e))) refl)

  pub reply_accepted : n ≡ 0 → ◌≡◌ {A = Reply} (record { number = n; first = f; second = s; count = count }) (reply_of a count)
  reply_accepted h = counted count (rw (eq-eqb (number_of a) 0 (sym number ∙ h)) refl)

-- what the check, the count and the walk answered, as a reply
module _ (F m : ℕ) (table : List ℕ) where
  pub check_replied : (a : Answer) (r : Reply) → a ≡ check_answer F m table → r ≡ reply_of a 0 → r ≡ check_reply F m table
  unfolding check_reply
  check_replied a r e g = g ∙ ap (λ (b : Answer). reply_of b 0) e

  pub moves_replied : (a : Counted) (r : Reply) → a ≡ moves_answer F m table → r ≡ reply_of a.answer a.moves → r ≡ moves_reply F m table
  unfolding moves_reply
  moves_replied a r e g = g ∙ ap (λ (b : Counted). reply_of b.answer b.moves) e
