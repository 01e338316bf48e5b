-- Digits that were written are read back: one law over their count serves every width.
-- Assumes nothing.
use mathlib.Core.Path.{◌≡◌, refl, sym, ◌∙◌, ap}
use mathlib.Core.Bool.{Bool, true, false, ◌&&◌}
use mathlib.Core.List.{List, [], ◌∷◌, ◌++◌, append_assoc}
use Prim.Native.Nat.{ℕ, zero, suc, ◌+◌, ◌*◌, ◌/◌, ◌%◌, ◌^◌, ◌<◌}
use native.Mathlib.Nat.{div-add-mod', div-lt_iff_lt-mul, mod-lt, pow-suc}
use native.Mathlib.Decide.{dec_lt}
use native.Mathlib.Omega.{arith}
use lib.ListN.{length, get_or, length-append}
use lib.Seq.{get_or_at}
use borrow.Author.Tests.{lt-ltb, le-ltb, le-leb}
use Rattle.rules.specs.Line.{is_decimal, is_letter, is_digit, digit_value, digit_of, digits_at, field, digits, bytes, all_digits}
use Rattle.fields.proofs.PastedLaws.{length_digits}

-- a digit's value is the number it was made of
pub value_of_digit : (d : ℕ) → d < 16 → digit_value (digit_of d) ≡ d
unfolding digit_value digit_of is_decimal is_letter
value_of_digit d h =
    elim (dec_lt d 10) [
      | yes l ↦ simp (lt-ltb d 10 l, le-leb 48 (48 + d) (omega arith), lt-ltb (48 + d) 58 (omega arith)) (omega arith)
      | no nl ↦
          simp (le-ltb d 10 (omega arith), le-leb 48 (87 + d) (omega arith), le-ltb (87 + d) 58 (omega arith), le-leb 97 (87 + d) (omega arith), lt-ltb (87 + d) 103 (omega arith))
          (omega arith)
    ]

pub digit_is_digit : (d : ℕ) → d < 16 → is_digit (digit_of d) ≡ true
unfolding is_digit digit_of is_decimal is_letter
digit_is_digit d h =
    elim (dec_lt d 10) [
      | yes l ↦ simp (lt-ltb d 10 l, le-leb 48 (48 + d) (omega arith), lt-ltb (48 + d) 58 (omega arith))
      | no nl ↦ simp (le-ltb d 10 (omega arith), le-leb 48 (87 + d) (omega arith), le-ltb (87 + d) 58 (omega arith), le-leb 97 (87 + d) (omega arith), lt-ltb (87 + d) 103 (omega arith))
    ]

-- the c digits of v, wherever they stand
pub digits_read : (c v : ℕ) (xs ys : List ℕ) → v < 16 ^ c → digits_at (xs ++ (digits c v ++ ys)) (length xs) c ≡ v
unfolding digits_at digits
digits_read zero v xs ys h = omega arith
digits_read (suc c) v xs ys h =
    ap (λ (l : List ℕ). digits_at l (length xs) c * 16 + digit_value (get_or l (length xs + c) 0)) (ap (λ (l : List ℕ). xs ++ l) (append_assoc (digits c (v / 16)) (digit_of (v % 16) ∷ []) ys))
    ∙ simp (digits_read c (v / 16) xs (digit_of (v % 16) ∷ ys) ((div-lt_iff_lt-mul {k = 16} (omega arith)).1 (rw (pow-suc 16 c) at h)), last) (div-add-mod' v 16)
  where
    last : digit_value (get_or (xs ++ (digits c (v / 16) ++ (digit_of (v % 16) ∷ ys))) (length xs + c) 0) ≡ v % 16
    last =
        ap digit_value
        (ap (λ (l : List ℕ). get_or l (length xs + c) 0) (sym (append_assoc xs (digits c (v / 16)) (digit_of (v % 16) ∷ ys)))
        ∙ get_or_at (xs ++ digits c (v / 16)) (digit_of (v % 16)) ys 0 (length xs + c) (simp (length-append, length_digits))
        )
        ∙ value_of_digit (v % 16) (mod-lt v (omega arith))

-- a field of w bytes, where a line has it
pub field_read : (l xs ys : List ℕ) (p w v : ℕ) → l ≡ xs ++ (bytes w v ++ ys) → length xs ≡ 2 * p → v < 16 ^ (2 * w) → field l p w ≡ v
field_read l xs ys p w v e g h = simp (e, ← g) (digits_read (2 * w) v xs ys h)

pub all_append : (xs ys : List ℕ) → all_digits (xs ++ ys) ≡ all_digits xs && all_digits ys
unfolding all_digits
all_append [] ys = refl
all_append (a ∷ xs) ys = simp (all_append xs ys) (and_assoc (is_digit a) (all_digits xs) (all_digits ys))
  where
    and_assoc : (p q r : Bool) → p && (q && r) ≡ p && q && r
    and_assoc true q r = refl
    and_assoc false q r = refl

pub all_written : (c v : ℕ) → all_digits (digits c v) ≡ true
unfolding all_digits digits
all_written zero v = refl
all_written (suc c) v = simp (all_append, all_written c (v / 16), digit_is_digit (v % 16) (mod-lt v (omega arith)))
