-- The next piece of a task within the frame: of its pieces that start at an instant or later, the one that starts first.
-- Assumes nothing.
use Rattle.std.specs.Prelude.{ℕ, zero, suc, Bool, true, cond, ◌&&◌, List, eqb, leb, ltb, Option, None, Some}
use Rattle.rules.specs.Piece.{piece_at, whole_pieces}

-- this start lies before that of the best so far, unless there is none yet
abbrev pub before_best : List ℕ → ℕ → Option ℕ → Bool
before_best l start None = true
before_best l start (Some b) = ltb start (piece_at l b).start

-- piece k is one of the task's that starts at `from` or later, and before the best so far
unfoldable pub sooner : List ℕ → ℕ → ℕ → Option ℕ → ℕ → Bool
sooner l task from best k = eqb (piece_at l k).task task && (leb from (piece_at l k).start && before_best l (piece_at l k).start best)

-- among the first c pieces
unfoldable pub next_to : List ℕ → ℕ → ℕ → ℕ → Option ℕ
next_to l task from zero = None
next_to l task from (suc c) = cond (sooner l task from (next_to l task from c) c) (Some c) (next_to l task from c)

-- the number of that piece, where there is one
unfoldable pub next_piece : List ℕ → ℕ → ℕ → Option ℕ
next_piece l task from = next_to l task from (whole_pieces l)
