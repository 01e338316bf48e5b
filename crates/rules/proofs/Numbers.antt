-- A list of pieces is lent as four numbers a piece.
-- Assumes nothing.
use mathlib.Core.Path.{◌≡◌, refl}
use mathlib.Core.List.{List, [], ◌∷◌}
use Prim.Native.Nat.{ℕ, zero, suc, ◌*◌}
use native.Mathlib.Numerals.{unary_clauses}
use native.Mathlib.Omega.{arith}
use lib.ListN.{length, length-append}
use Rattle.rules.specs.Piece.{Piece, first_pieces, numbers_of}

pub length_numbers : (ps : List Piece) → length (numbers_of ps) ≡ 4 * length ps
length_numbers [] = refl
length_numbers (p ∷ ps) = omega (arith, length_numbers ps)

pub length_first : (l : List ℕ) (c : ℕ) → length (first_pieces l c) ≡ c
unfolding first_pieces
length_first l zero = refl
length_first l (suc c) = simp (length-append, length_first l c, unary_clauses)
