-- Laws on fields: the number of a run of digits, its bound, a field that the line holds, and the byte past it. One law each, over the width.
-- Assumes nothing.
use mathlib.Core.Path.{◌≡◌, refl, sym, ◌∙◌, ap}
use mathlib.Core.Bool.{Bool, true, false, cond, ◌&&◌}
use mathlib.Core.List.{List}
use Prim.Native.Nat.{ℕ, zero, suc, ◌+◌, ◌-◌, ◌*◌, ◌/◌, ◌^◌, ◌≤◌, ◌<◌}
use native.Mathlib.Nat.{lt_of_lt_of_le, pow-le-pow_right, pow-suc, zero-add}
use native.Mathlib.Numerals.{add-one}
use native.Mathlib.Decide.{dec_le}
use native.Mathlib.Omega.{arith}
use lib.Dec.{leb}
use lib.ListN.{length, get_or}
use borrow.Author.Tests.{le-leb, lt-leb, leb-true, leb-false}
use Rattle.std.specs.Prelude.{Option, Some, None}
use Rattle.std.specs.Option.{unwrap_or}
use Rattle.std.specs.List.{between}
use Rattle.std.proofs.lemmas.List.Edits.{length-between, get_or-between}
use Rattle.rules.specs.Line.{digit_value, digits_at, field}
use Rattle.fields.specs.Held.{ends_by, holds_field, field_of, held_field, past_field}
use Rattle.fields.proofs.DigitLaws.{value_below}

-- c digits are below 16 ^ c
pub digits_below : (l : List ℕ) (p c : ℕ) → digits_at l p c < 16 ^ c
unfolding digits_at
digits_below l p zero = omega arith
digits_below l p (suc c) = rw (pow-suc 16 c) (more (digits_at l p c) (digit_value (get_or l (p + c) 0)) (16 ^ c) (digits_below l p c) (value_below (get_or l (p + c) 0)))
  where
    more : (a b k : ℕ) → a < k → b < 16 → a * 16 + b < k * 16
    more a b k h g = omega arith

-- a line's first digits, read one after another
module _ (l : List ℕ) (v i : ℕ) (passed : v ≡ digits_at l 0 i) where
  pub digits_more : (b w : ℕ) → b ≡ get_or l i 0 → w ≡ digit_value b → v * 16 + w ≡ digits_at l 0 (i + 1)
  unfolding digits_at
  digits_more b w e g = simp (add-one, zero-add, passed, g, e)

  -- before the sixteenth digit there is room for one more
  pub digits_room : i < 16 → v < 2 ^ 60
  digits_room h = rw passed (lt_of_lt_of_le (digits_below l 0 i) (pow-le-pow_right {n = 16} (omega arith) {i = i} {j = 15} (omega arith)))

-- n places from p on, and the end e
module _ (p n e : ℕ) where
  pub ends_room : n ≤ e → leb p (e - n) ≡ ends_by p n e
  unfolding ends_by
  ends_room h =
      elim (dec_le p (e - n)) [
        | yes g ↦ le-leb p (e - n) g ∙ sym (le-leb (p + n) e (omega arith))
        | no ng ↦ lt-leb p (e - n) (omega arith) ∙ sym (lt-leb (p + n) e (omega arith))
      ]

  pub ends_short : e < n → leb n e ≡ ends_by p n e
  unfolding ends_by
  ends_short h = lt-leb n e h ∙ sym (lt-leb (p + n) e (omega arith))

  -- what the test says
  module _ (r : Bool) (test : r ≡ ends_by p n e) where
    pub ends_told : r ≡ true → p + n ≤ e
    unfolding ends_by
    ends_told h = leb-true (p + n) e (sym test ∙ h)

    pub ends_denied : r ≡ false → e < p + n
    unfolding ends_by
    ends_denied h = leb-false (p + n) e (sym test ∙ h)

-- places in a line of n digits: a byte has two of them
halved : (a n : ℕ) → leb a (n / 2) ≡ leb (2 * a) n
halved a n =
    elim (dec_le a (n / 2)) [
      | yes h ↦ le-leb a (n / 2) h ∙ sym (le-leb (2 * a) n (omega arith))
      | no nh ↦ lt-leb a (n / 2) (omega arith) ∙ sym (lt-leb (2 * a) n (omega arith))
    ]

-- the digits of two places that hold the same
digits_same : (l m : List ℕ) (p q c : ℕ) → ((i : ℕ) → i < c → get_or l (p + i) 0 ≡ get_or m (q + i) 0) → digits_at l p c ≡ digits_at m q c
unfolding digits_at
digits_same l m p q zero same = refl
digits_same l m p q (suc c) same = simp (digits_same l m p q c (λ i h. same i (omega arith)), same c (omega arith))

width : (p w : ℕ) → 2 * (p + w) - 2 * p ≡ 2 * w
width p w = omega arith

-- whether a field is held
module _ (l : List ℕ) (p w : ℕ) where
  pub holds_wide : 8 < w → leb w 8 ≡ holds_field l p w
  unfolding holds_field
  holds_wide a = simp (lt-leb w 8 a)

  pub holds_ends : (r : Bool) → w ≤ 8 → r ≡ ends_by p w (length l / 2) → r ≡ holds_field l p w
  unfolding holds_field ends_by
  holds_ends r a e = e ∙ halved (p + w) (length l) ∙ simp (le-leb w 8 a)

  holds_here : w ≤ 8 → 2 * (p + w) ≤ length l → holds_field l p w ≡ true
  unfolding holds_field
  holds_here a b = simp (le-leb w 8 a, le-leb (2 * (p + w)) (length l) b)

  -- what a caller reads of a field that is held, and where the reader stands then
  pub held_field_lem : w ≤ 8 → 2 * (p + w) ≤ length l → held_field l p w ≡ field l p w
  unfolding held_field
  held_field_lem a b = simp (holds_here a b)

  pub held_past : w ≤ 8 → 2 * (p + w) ≤ length l → past_field l p w ≡ p + w
  unfolding past_field
  held_past a b = simp (holds_here a b)

  -- a field that is held, as its digits are read on their own
  digits_part : 2 * (p + w) ≤ length l → digits_at (between (2 * p) (2 * (p + w)) l) 0 (2 * w) ≡ field l p w
  digits_part h = digits_same (between (2 * p) (2 * (p + w)) l) l 0 (2 * p) (2 * w) (λ i g. simp (zero-add) (get_or-between l (2 * p) (2 * (p + w)) i 0 (omega arith)))

  -- the code's test decides
  module _ (r : Bool) (test : r ≡ holds_field l p w) where
    pub within : r ≡ true → (w ≤ 8) × (2 * (p + w) ≤ length l)
    unfolding holds_field
    within e = both (leb w 8) (leb (2 * (p + w)) (length l)) (leb-true w 8) (leb-true (2 * (p + w)) (length l)) (sym test ∙ e)
      where
        both : (a b : Bool) {P Q : Type 0} → (a ≡ true → P) → (b ≡ true → Q) → a && b ≡ true → P × Q
        both true b f g h = (f refl, g h)
        both false b f g h = (f h, g (cc))

    pub field_some : (v : ℕ) → r ≡ true → v ≡ digits_at (between (2 * p) (2 * (p + w)) l) 0 (length (between (2 * p) (2 * (p + w)) l)) → Some v ≡ field_of l p w
    unfolding field_of
    field_some v t e = simp (← test, t) (ap Some (e ∙ ap (digits_at (between (2 * p) (2 * (p + w)) l) 0) long ∙ digits_part (within t).1))
      where
        long : length (between (2 * p) (2 * (p + w)) l) ≡ 2 * w
        long = length-between l (2 * p) (2 * (p + w)) (within t).1 ∙ width p w

    pub field_none : r ≡ false → None ≡ field_of l p w
    unfolding field_of
    field_none t = simp (← test, t)

  -- what the field read says
  unwrapped : (t : Bool) (v : ℕ) → unwrap_or (cond t (Some v) None) 0 ≡ cond t v 0
  unwrapped true v = refl
  unwrapped false v = refl

  module _ (o : Option ℕ) (read : o ≡ field_of l p w) where
    pub field_or_zero : (r : ℕ) → r ≡ unwrap_or o 0 → r ≡ held_field l p w
    unfolding field_of held_field
    field_or_zero r e = e ∙ ap (λ (x : Option ℕ). unwrap_or x 0) read ∙ unwrapped (holds_field l p w) (field l p w)

    -- the reader's two ways on
    pub field_read : (v : ℕ) → o ≡ Some v → (w ≤ 8) × (2 * (p + w) ≤ length l) × (v ≡ held_field l p w) × (p + w ≡ past_field l p w)
    unfolding field_of held_field past_field
    field_read v e = some (holds_field l p w) refl (sym e ∙ read)
      where
        some : (t : Bool) → t ≡ holds_field l p w → Some v ≡ cond t (Some (field l p w)) None
            → (w ≤ 8) × (2 * (p + w) ≤ length l) × (v ≡ cond t (field l p w) 0) × (p + w ≡ cond t (p + w) p)
        some true h g = ((within true h refl).0, (within true h refl).1, cc, refl)
        some false h g = cc

    pub field_missing : o ≡ None → (0 ≡ held_field l p w) × (p ≡ past_field l p w)
    unfolding field_of held_field past_field
    field_missing e = none (holds_field l p w) (sym e ∙ read)
      where
        none : (t : Bool) → None ≡ cond t (Some (field l p w)) None → (0 ≡ cond t (field l p w) 0) × (p ≡ cond t (p + w) p)
        none true g = cc
        none false g = (refl, refl)
