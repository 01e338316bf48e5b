-- Laws on bytes written into an output: digits from the last to the first, one run of bytes after another, and a field.
-- Assumes nothing.
use mathlib.Core.Path.{◌≡◌, refl, sym, ◌∙◌, ap}
use mathlib.Core.List.{List, [], ◌∷◌, ◌++◌, append_assoc, append-nil}
use Prim.Native.Nat.{ℕ, zero, suc, ◌+◌, ◌-◌, ◌*◌, ◌/◌, ◌%◌, ◌≤◌, ◌<◌}
use native.Mathlib.Numerals.{unary_clauses}
use native.Mathlib.Nat.{add_assoc, zero-add}
use native.Mathlib.Omega.{arith}
use lib.ListN.{length, take, drop, set, length-set, length-append, length-take, take-append-drop}
use lib.Seq.{drop-cons, drop-set-lt, get_or-set_same, drop-append-add, drop-drop, drop-length, take_at}
use borrow.Author.Tests.{le-leb, lt-leb}
use borrow.Rule.Slice.PartMut.{put_mid}
use Rattle.std.specs.List.{between}
use Rattle.std.proofs.lemmas.List.Edits.{length-between}
use Rattle.rules.specs.Line.{digit_of, digits, bytes}
use Rattle.fields.specs.Pasted.{pasted, has_room, put_field}

pub length_digits : (c v : ℕ) → length (digits c v) ≡ c
unfolding digits
length_digits zero v = refl
length_digits (suc c) v = simp (length-append, length_digits c (v / 16), unary_clauses)

-- the places o, whose first c are still to be filled with the digits of v
unfoldable pub filled : List ℕ → ℕ → ℕ → List ℕ
filled o c v = digits c v ++ drop c o

-- the last of i + 1 digits is written first
filled_step : (o : List ℕ) (i v d : ℕ) → i < length o → d ≡ digit_of (v % 16) → filled (set o i d) i (v / 16) ≡ filled o (suc i) v
unfolding filled digits
filled_step o i v d h e = simp (rest, append_assoc, ← e)
  where
    rest : drop i (set o i d) ≡ d ∷ drop (suc i) o
    rest = drop-cons (set o i d) i 0 (simp length-set h) ∙ simp (get_or-set_same o i d 0 h, drop-set-lt (suc i) o i d (omega arith))

pub filled_more : (o w : List ℕ) (i v d : ℕ) → filled o i v ≡ w → 0 < i → i ≤ length o → d ≡ digit_of (v % 16) → filled (set o (i - 1) d) (i - 1) (v / 16) ≡ w
filled_more o w i v d same h g e = filled_step o (i - 1) v d (omega arith) e ∙ ap (λ (k : ℕ). filled o k v) (back h) ∙ same
  where
    back : 0 < i → suc (i - 1) ≡ i
    back h = omega arith

pub filled_first : (o : List ℕ) (v : ℕ) → filled o (length o) v ≡ digits (length o) v
unfolding filled
filled_first o v = simp (drop-length, append-nil)

pub filled_last : (o w : List ℕ) (i v : ℕ) → filled o i v ≡ w → i ≤ 0 → o ≡ w
unfolding filled digits
filled_last o w i v e h = ap (λ (k : ℕ). digits k v ++ drop k o) (none h) ∙ e
  where
    none : i ≤ 0 → 0 ≡ i
    none h = omega arith

-- one run of bytes after another
split_front : (x r b : List ℕ) (k : ℕ) → length x ≡ k → take k (x ++ r) ++ (b ++ drop (k + length b) (x ++ r)) ≡ x ++ (b ++ drop (length b) r)
split_front x r b k e = simp (take_at x r k e, rest)
  where
    rest : drop (k + length b) (x ++ r) ≡ drop (length b) r
    rest = ap (λ (n : ℕ). drop (n + length b) (x ++ r)) (sym e) ∙ drop-append-add x r (length b)

pub pasted_twice : (o : List ℕ) (p : ℕ) (a : List ℕ) (k : ℕ) (b : List ℕ) → k ≡ p + length a → k ≤ length o → pasted (pasted o p a) k b ≡ pasted o p (a ++ b)
unfolding pasted
pasted_twice o p a k b e h =
    ap (λ (x : List ℕ). take k x ++ (b ++ drop (k + length b) x)) (sym (append_assoc (take p o) a (drop (p + length a) o)))
    ∙ split_front (take p o ++ a) (drop (p + length a) o) b k (long e h)
    ∙ simp (append_assoc, drop-drop, length-append, add_assoc)
  where
    long : k ≡ p + length a → k ≤ length o → length (take p o ++ a) ≡ k
    long e h = simp (length-append, length-take) (omega arith)

pub pasted_none : (o : List ℕ) (p : ℕ) → pasted o p [] ≡ o
unfolding pasted
pasted_none o p = simp unary_clauses (take-append-drop p o)

-- at the front: the bytes, and the rest as it was
pub pasted_front : (o l : List ℕ) → pasted o 0 l ≡ l ++ drop (length l) o
unfolding pasted
pasted_front o l = ap (λ (n : ℕ). l ++ drop n o) (zero-add (length l))

pasted_bytes : (o : List ℕ) (p w v : ℕ) → pasted o p (bytes w v) ≡ take p o ++ (digits (2 * w) v ++ drop (p + 2 * w) o)
unfolding pasted
pasted_bytes o p w v = simp length_digits

-- a field, where there is room for it and where there is none
module _ (o : List ℕ) (p w v : ℕ) where
  pub put_wide : 8 < w → o ≡ put_field o p w v
  unfolding put_field has_room
  put_wide a = simp (lt-leb w 8 a)

  pub put_out : w ≤ 8 → length o < p + 2 * w → o ≡ put_field o p w v
  unfolding put_field has_room
  put_out a b = simp (le-leb w 8 a, lt-leb (p + 2 * w) (length o) b)

  pub put_fits : w ≤ 8 → p + 2 * w ≤ length o → put_field o p w v ≡ pasted o p (bytes w v)
  unfolding put_field has_room
  put_fits a b = simp (le-leb w 8 a, le-leb (p + 2 * w) (length o) b)

  -- the part that the field's digits fill
  pub put_part : (ys : List ℕ) → w ≤ 8 → p + 2 * w ≤ length o → ys ≡ digits (length (between p (p + 2 * w) o)) v → put_mid p (p + 2 * w - p) o ys ≡ put_field o p w v
  put_part ys a b e =
      ap (λ (z : List ℕ). take p o ++ (z ++ drop (p + 2 * w - p) (drop p o))) (e ∙ ap (λ (n : ℕ). digits n v) (length-between o p (p + 2 * w) b ∙ part p (2 * w)))
      ∙ simp (put_fits a b, drop-drop, part p (2 * w)) (sym (pasted_bytes o p w v))
    where
      part : (p n : ℕ) → p + n - p ≡ n
      part p n = omega arith
