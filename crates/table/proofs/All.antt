-- Laws on a test at every place below a number, and the frame table's definition as such tests.
-- Assumes nothing.
use mathlib.Core.Path.{◌≡◌, refl, sym, ◌∙◌, ap, ap₂}
use mathlib.Core.Bool.{Bool, true, false, ◌&&◌, and-true, and_assoc}
use mathlib.Core.List.{List, [], ◌∷◌, ◌++◌}
use Prim.Native.Nat.{ℕ, zero, suc, ◌%◌, ◌<◌}
use native.Mathlib.Nat.{not-suc-le-zero}
use native.Mathlib.Decide.{ℕ_discrete}
use native.Mathlib.Numerals.{add-one}
use native.Mathlib.Omega.{arith}
use lib.Dec.{eqb, leb}
use lib.ListN.{length}
use Rattle.rules.specs.Piece.{Piece, piece_at, first_pieces, whole_pieces}
use Rattle.rules.specs.FrameTable.{every, every_two, frame_pieces, frame_table}
use Rattle.std.specs.List.{list_all, range_with_len}
use Rattle.std.specs.Prelude.{map}
use Rattle.std.proofs.lemmas.List.Folds.{list_all-map, list_all-append}
use Rattle.std.proofs.lemmas.List.FromFn.{map-range_with_len_more}
use Rattle.sums.proofs.Both.{and_left, and_right, and_both}
use Rattle.rules.proofs.Numbers.{length_first}
use Rattle.table.specs.All.{all_to}
use Rattle.table.specs.Read.{together, follows, passes}

-- two tests that are true of the same are equal
pub same_test : (a b : Bool) → (a ≡ true → b ≡ true) → (b ≡ true → a ≡ true) → a ≡ b
same_test true true f g = refl
same_test true false f g = sym (f refl)
same_test false true f g = g refl
same_test false false f g = refl

-- what a test says, at each place
pub all_true : (n : ℕ) (f : ℕ → Bool) → all_to n f ≡ true → (k : ℕ) → k < n → f k ≡ true
unfolding all_to
all_true zero f e k h = absurd (not-suc-le-zero h)
all_true (suc n) f e k h =
    elim (ℕ_discrete k n) [
      | yes d ↦ ap f d ∙ and_right (all_to n f) (f n) e
      | no d ↦ all_true n f (and_left (all_to n f) (f n) e) k (omega arith)
    ]

pub true_all : (n : ℕ) (f : ℕ → Bool) → ((k : ℕ) → k < n → f k ≡ true) → all_to n f ≡ true
unfolding all_to
true_all zero f h = refl
true_all (suc n) f h = and_both (true_all n f (λ k l. h k (omega arith))) (h n (omega arith))

-- the library's test over a range is such a test
pub all_range : (n : ℕ) (f : ℕ → Bool) → list_all f (range_with_len 0 n) ≡ all_to n f
unfolding all_to
all_range zero f = refl
all_range (suc n) f =
    sym (list_all-map (λ (b : Bool). b) f (range_with_len 0 (suc n))) ∙ ap (list_all (λ (b : Bool). b)) (rw add-one at (map-range_with_len_more f 0 n n (omega arith)))
    ∙ list_all-append (λ (b : Bool). b) (map f (range_with_len 0 n)) (f n ∷ [])
    ∙ ap₂ ◌&&◌ (list_all-map (λ (b : Bool). b) f (range_with_len 0 n) ∙ all_range n f) (and-true (f n))

pub all_and : (n : ℕ) (f g : ℕ → Bool) → all_to n (λ k. f k && g k) ≡ (all_to n f && all_to n g)
all_and n f g =
    same_test _ _
    (λ e. and_both (true_all n f (λ k h. and_left (f k) (g k) (all_true n _ e k h))) (true_all n g (λ k h. and_right (f k) (g k) (all_true n _ e k h))))
    (λ e. true_all n _ (λ k h. and_both (all_true n f (and_left (all_to n f) (all_to n g) e) k h) (all_true n g (and_right (all_to n f) (all_to n g) e) k h)))

-- the definition's tests at the end of a list
pub every_snoc : (p : Piece → Bool) (l : List Piece) (a : Piece) → every p (l ++ (a ∷ [])) ≡ (every p l && p a)
unfolding every
every_snoc p [] a = and-true (p a)
every_snoc p (b ∷ l) a = ap (λ (t : Bool). p b && t) (every_snoc p l a) ∙ sym (and_assoc (p b) (every p l) (p a))

pub every_two_snoc : (r : Piece → Piece → Bool) (l : List Piece) (a : Piece) → every_two r (l ++ (a ∷ [])) ≡ (every_two r l && every (λ b. r b a) l)
unfolding every every_two
every_two_snoc r [] a = refl
every_two_snoc r (b ∷ l) a =
    ap₂ ◌&&◌ (every_snoc (r b) l a) (every_two_snoc r l a) ∙ four (every (r b) l) (r b a) (every_two r l) (every (λ c. r c a) l)
  where
    four : (a b c d : Bool) → ((a && b) && (c && d)) ≡ ((a && c) && (b && d))
    four true true c d = refl
    four true false true d = refl
    four true false false d = refl
    four false b c d = refl

module _ (l : List ℕ) where
  pub every_first : (p : Piece → Bool) (c : ℕ) → every p (first_pieces l c) ≡ all_to c (λ k. p (piece_at l k))
  unfolding every first_pieces all_to
  every_first p zero = refl
  every_first p (suc c) = every_snoc p (first_pieces l c) (piece_at l c) ∙ ap (λ (t : Bool). t && p (piece_at l c)) (every_first p c)

  pub every_two_first : (r : Piece → Piece → Bool) (c : ℕ) → every_two r (first_pieces l c) ≡ all_to c (λ k. all_to k (λ j. r (piece_at l j) (piece_at l k)))
  unfolding every_two first_pieces all_to
  every_two_first r zero = refl
  every_two_first r (suc c) =
      every_two_snoc r (first_pieces l c) (piece_at l c) ∙ ap₂ ◌&&◌ (every_two_first r c) (every_first (λ b. r b (piece_at l c)) c)

  -- the frame table, as the code tests it
  pub frame_table_passes : (F m : ℕ) → frame_table F m l ≡ (eqb (length l % 4) 0 && (leb (whole_pieces l) 95 && passes F m l (whole_pieces l)))
  unfolding frame_table frame_pieces passes follows together
  frame_table_passes F m =
      ap (λ (t : Bool). eqb (length l % 4) 0 && t)
      (simp (length_first, every_first, every_two_first, all_and, and_assoc))
