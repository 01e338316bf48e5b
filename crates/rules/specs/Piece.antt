-- Document 01, "Sizes": "A table: at most 95 pieces, each (core, task, start, length)". A table is lent as one flat list of numbers,
-- four a piece in that order; here it is read as a list of pieces, and a list of pieces is written out.
-- Assumes nothing.
use Rattle.std.specs.Prelude.{ℕ, zero, suc, ◌+◌, ◌*◌, ◌/◌, List, [], ◌∷◌, ◌++◌, length, get_or}

pub record Piece : Type 0 where
  pub core : ℕ
  pub task : ℕ
  pub start : ℕ
  pub len : ℕ

-- the k-th piece of a lent list
abbrev pub piece_at : List ℕ → ℕ → Piece
piece_at l k = record { core = get_or l (4 * k) 0; task = get_or l (4 * k + 1) 0; start = get_or l (4 * k + 2) 0; len = get_or l (4 * k + 3) 0 }

-- the first c pieces of a lent list
unfoldable pub first_pieces : List ℕ → ℕ → List Piece
first_pieces l zero = []
first_pieces l (suc c) = first_pieces l c ++ (piece_at l c ∷ [])

-- "the whole pieces that fit"
abbrev pub whole_pieces : List ℕ → ℕ
whole_pieces l = length l / 4

-- the pieces of a lent list
abbrev pub pieces_of : List ℕ → List Piece
pieces_of l = first_pieces l (whole_pieces l)

-- the numbers of a list of pieces, as they are lent
abbrev pub numbers_of : List Piece → List ℕ
numbers_of [] = []
numbers_of (p ∷ ps) = p.core ∷ p.task ∷ p.start ∷ p.len ∷ numbers_of ps
