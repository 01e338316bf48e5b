-- Laws on digits: what the two ranges of a byte say of the rules' digit, the digit of a number, and a line of digits only.
-- Assumes nothing.
use mathlib.Core.Path.{◌≡◌, refl, sym, ◌∙◌, ap}
use mathlib.Core.Bool.{Bool, true, false, cond, ◌&&◌, ◌||◌}
use mathlib.Core.List.{List, ◌∷◌, []}
use Prim.Native.Nat.{ℕ, ◌+◌, ◌-◌, ◌≤◌, ◌<◌}
use native.Mathlib.Omega.{arith}
use lib.Dec.{leb, ltb}
use borrow.Author.Tests.{lt-ltb, le-ltb, le-leb, lt-leb, leb-true, ltb-true}
use Rattle.rules.specs.Line.{is_decimal, is_letter, is_digit, digit_value, digit_of, all_digits}
use Rattle.std.specs.Prelude.{Option, Some, None, is_some}
use Rattle.std.specs.Option.{unwrap_or}
use Rattle.std.specs.List.{list_all}
use Rattle.fields.specs.Digits.{read_digit}

pub decimal : (b : ℕ) → 48 ≤ b → b < 58 → Some (b - 48) ≡ read_digit b
unfolding read_digit is_digit digit_value is_decimal is_letter
decimal b l h = simp (le-leb 48 b l, lt-ltb b 58 h)

pub letter : (b : ℕ) → 97 ≤ b → b < 103 → Some (b - 87) ≡ read_digit b
unfolding read_digit is_digit digit_value is_decimal is_letter
letter b l h = simp (le-ltb b 58 (omega arith), le-leb 48 b (omega arith), le-leb 97 b l, lt-ltb b 103 h)

-- the rest: below `0`, between `9` and `a`, and past `f`
pub below_decimal : (b : ℕ) → b < 48 → None ≡ read_digit b
unfolding read_digit is_digit digit_value is_decimal is_letter
below_decimal b h = simp (lt-leb 48 b h, lt-leb 97 b (omega arith))

pub below_letter : (b : ℕ) → 58 ≤ b → b < 97 → None ≡ read_digit b
unfolding read_digit is_digit digit_value is_decimal is_letter
below_letter b l h = simp (le-leb 48 b (omega arith), le-ltb b 58 l, lt-leb 97 b h)

pub above_letter : (b : ℕ) → 103 ≤ b → None ≡ read_digit b
unfolding read_digit is_digit digit_value is_decimal is_letter
above_letter b l = simp (le-leb 48 b (omega arith), le-ltb b 58 (omega arith), le-leb 97 b (omega arith), le-ltb b 103 l)

-- what a byte is, by the range that it stands in
pub ruleset byte_cases = (decimal, letter, below_decimal, below_letter, above_letter)

-- a digit's value is below 16
pub value_below : (b : ℕ) → digit_value b < 16
unfolding digit_value is_decimal is_letter
value_below b = decided (leb 48 b) (ltb b 58) (leb 97 b) (ltb b 103) (leb-true 48 b) (ltb-true b 58) (leb-true 97 b) (ltb-true b 103)
  where
    decided : (p q r s : Bool) → (p ≡ true → 48 ≤ b) → (q ≡ true → b < 58) → (r ≡ true → 97 ≤ b) → (s ≡ true → b < 103) → cond (p && q) (b - 48) (cond (r && s) (b - 87) 0) < 16
    decided true true r s hp hq hr hs = omega (arith, hp refl, hq refl)
    decided true false true true hp hq hr hs = omega (arith, hr refl, hs refl)
    decided false q true true hp hq hr hs = omega (arith, hr refl, hs refl)
    decided true false true false hp hq hr hs = omega arith
    decided true false false s hp hq hr hs = omega arith
    decided false q true false hp hq hr hs = omega arith
    decided false q false s hp hq hr hs = omega arith

-- what an answer of read_digit says
module _ (b : ℕ) where
  is_of : is_some (read_digit b) ≡ is_digit b
  unfolding read_digit
  is_of = of (is_digit b)
    where
      of : (t : Bool) → is_some (cond t (Some (digit_value b)) None) ≡ t
      of true = refl
      of false = refl

  value_none : is_digit b ≡ false → digit_value b ≡ 0
  unfolding digit_value is_digit
  value_none e = none (is_decimal b) (is_letter b) e
    where
      none : (s t : Bool) → s || t ≡ false → cond s (b - 48) (cond t (b - 87) 0) ≡ 0
      none false false e = refl
      none true t e = cc
      none false true e = cc

  value_of : unwrap_or (read_digit b) 0 ≡ digit_value b
  unfolding read_digit
  value_of = of (is_digit b) refl
    where
      of : (t : Bool) → t ≡ is_digit b → unwrap_or (cond t (Some (digit_value b)) None) 0 ≡ digit_value b
      of true e = refl
      of false e = sym (value_none (sym e))

  module _ (d : Option ℕ) (read : d ≡ read_digit b) where
    pub digit_read : (r : Bool) → r ≡ is_some d → r ≡ is_digit b
    digit_read r e = e ∙ ap is_some read ∙ is_of

    pub value_read : (v : ℕ) → v ≡ unwrap_or d 0 → (v ≡ digit_value b) × (v < 16)
    value_read v e = let h : v ≡ digit_value b = e ∙ ap (λ (o : Option ℕ). unwrap_or o 0) read ∙ value_of in (h, omega (arith, value_below b))

pub of_decimal : (v : ℕ) → v < 10 → 48 + v ≡ digit_of v
unfolding digit_of
of_decimal v h = simp (lt-ltb v 10 h)

pub of_letter : (v : ℕ) → 10 ≤ v → 87 + v ≡ digit_of v
unfolding digit_of
of_letter v h = simp (le-ltb v 10 h)

-- the rules' test of a line is the test of each byte
pub all_list : (l : List ℕ) → list_all is_digit l ≡ all_digits l
unfolding all_digits
all_list [] = refl
all_list (b ∷ l) = ap (λ (r : Bool). is_digit b && r) (all_list l)
