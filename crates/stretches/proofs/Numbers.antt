-- A list of pieces written out as numbers is read back as it was.
-- Assumes nothing.
use mathlib.Core.Path.{◌≡◌, refl, sym, ◌∙◌, ap, ap₂}
use mathlib.Core.List.{List, [], ◌∷◌, ◌++◌, append-nil}
use Prim.Native.Nat.{ℕ, zero, suc, ◌+◌, ◌*◌, ◌/◌, ◌%◌, ◌≤◌}
use native.Mathlib.Nat.{le_refl, mul-div_cancel_left, mul-mod_right}
use native.Mathlib.Omega.{arith}
use lib.ListN.{length, take}
use lib.Seq.{length-take-le, get_or-take}
use Rattle.rules.specs.Piece.{Piece, piece_at, first_pieces, pieces_of, numbers_of}
use Rattle.rules.proofs.Numbers.{length_numbers}

pub numbers_append : (a b : List Piece) → numbers_of (a ++ b) ≡ numbers_of a ++ numbers_of b
numbers_append [] b = refl
numbers_append (p ∷ a) b = ap (λ (l : List ℕ). p.core ∷ p.task ∷ p.start ∷ p.len ∷ l) (numbers_append a b)

four_more : (k : ℕ) → 4 * suc k ≡ suc (suc (suc (suc (4 * k))))
four_more k = omega arith

four_more_and : (k r : ℕ) → 4 * suc k + r ≡ suc (suc (suc (suc (4 * k + r))))
four_more_and k r = omega arith

-- a piece written out before any numbers
abbrev Before : Piece → List ℕ → List ℕ
Before p l = p.core ∷ p.task ∷ p.start ∷ p.len ∷ l

piece_later : (p : Piece) (l : List ℕ) (k : ℕ) → piece_at (Before p l) (suc k) ≡ piece_at l k
piece_later p l k = rw (four_more_and k 1, four_more_and k 2, four_more_and k 3, four_more k)

pieces_first : (p : Piece) (l : List ℕ) (c : ℕ) → first_pieces (Before p l) (suc c) ≡ p ∷ first_pieces l c
unfolding first_pieces
pieces_first p l zero = refl
pieces_first p l (suc c) = ap₂ ◌++◌ (pieces_first p l c) (ap (λ (q : Piece). q ∷ []) (piece_later p l c))

-- whatever stands after them
pub first_front : (ps : List Piece) (l : List ℕ) → first_pieces (numbers_of ps ++ l) (length ps) ≡ ps
unfolding first_pieces
first_front [] l = refl
first_front (p ∷ ps) l = pieces_first p (numbers_of ps ++ l) (length ps) ∙ ap (λ (qs : List Piece). p ∷ qs) (first_front ps l)

pub first_numbers : (ps : List Piece) → first_pieces (numbers_of ps) (length ps) ≡ ps
first_numbers ps = ap (λ (l : List ℕ). first_pieces l (length ps)) (sym (append-nil (numbers_of ps))) ∙ first_front ps []

front_alone : (l : List ℕ) (c k : ℕ) → k ≤ c → first_pieces (take (4 * c) l) k ≡ first_pieces l k
unfolding first_pieces
front_alone l c zero h = refl
front_alone l c (suc k) h =
    ap₂ ◌++◌ (front_alone l c k (omega arith))
    (rw (get_or-take (4 * c) l (4 * k) 0 (omega arith), get_or-take (4 * c) l (4 * k + 1) 0 (omega arith), get_or-take (4 * c) l (4 * k + 2) 0 (omega arith), get_or-take (4 * c) l (4 * k + 3) 0 (omega arith)) refl)

pub pieces_of_numbers : (ps : List Piece) → pieces_of (numbers_of ps) ≡ ps
pieces_of_numbers ps = ap (first_pieces (numbers_of ps)) (ap (λ (k : ℕ). k / 4) (length_numbers ps) ∙ mul-div_cancel_left (length ps) (omega arith)) ∙ first_numbers ps

pub numbers_whole : (ps : List Piece) → length (numbers_of ps) % 4 ≡ 0
numbers_whole ps = ap (λ (k : ℕ). k % 4) (length_numbers ps) ∙ mul-mod_right 4 (length ps)

-- the pieces at the front of a lent list, read from the whole list or from its front alone
pub pieces_of_front : (l : List ℕ) (c : ℕ) → 4 * c ≤ length l → pieces_of (take (4 * c) l) ≡ first_pieces l c
pieces_of_front l c h =
    ap (first_pieces (take (4 * c) l)) (ap (λ (k : ℕ). k / 4) (length-take-le (4 * c) l h) ∙ mul-div_cancel_left c (omega arith)) ∙ front_alone l c c (le_refl c)
