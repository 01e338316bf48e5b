-- A piece that was read from a lent table, and the tests on pieces that the check runs.
-- Assumes nothing.
use Rattle.std.specs.Prelude.{ℕ, ◌+◌, ◌*◌, Bool, ◌&&◌, List, get_or, cond, ltb, Option, None, Some}
use Rattle.rules.specs.Piece.{Piece, piece_at, whole_pieces}
use Rattle.rules.specs.FrameTable.{sound, ordered, core_apart, task_apart}
use Rattle.table.specs.All.{all_to}
use Rattle.table.specs.declared.Stretch.{Stretch}

-- the struct of the code is a piece of the rules
abbrev pub piece_of : Stretch → Piece
piece_of s = record { core = s.core; task = s.task; start = s.start; len = s.len }

-- the k-th piece of a lent list, as the code reads it
abbrev pub stretch_at : List ℕ → ℕ → Stretch
stretch_at l k = record { core = get_or l (4 * k) 0; task = get_or l (4 * k + 1) 0; start = get_or l (4 * k + 2) 0; len = get_or l (4 * k + 3) 0 }

-- .. where the list has so many
abbrev pub stretch_get : List ℕ → ℕ → Option Stretch
stretch_get l k = cond (ltb k (whole_pieces l)) (Some (stretch_at l k)) None

-- the earlier piece p and the later piece q may stand in one table
unfoldable pub together : Piece → Piece → Bool
together p q = ordered p q && (core_apart p q && task_apart p q)

-- the k-th piece may stand after each piece before it
unfoldable pub follows : List ℕ → ℕ → Bool
follows l k = all_to k (λ j. together (piece_at l j) (piece_at l k))

-- each of the first n pieces is sound and may stand after those before it
unfoldable pub passes : ℕ → ℕ → List ℕ → ℕ → Bool
passes F m l n = all_to n (λ k. sound F m (piece_at l k) && follows l k)
