-- Document 01, "What counts as a frame table", as a test that can be run.
-- Assumes nothing.
use Rattle.std.specs.Prelude.{ℕ, ◌+◌, ◌%◌, Bool, true, not, ◌&&◌, ◌||◌, List, [], ◌∷◌, eqb, leb, ltb, length}
use Rattle.rules.specs.Sizes.{max_pieces, max_tasks}
use Rattle.rules.specs.Piece.{Piece, pieces_of}

-- every piece passes
unfoldable pub every : (Piece → Bool) → List Piece → Bool
every p [] = true
every p (a ∷ l) = p a && every p l

-- every two pieces pass, the earlier first
unfoldable pub every_two : (Piece → Piece → Bool) → List Piece → Bool
every_two r [] = true
every_two r (a ∷ l) = every (r a) l && every_two r l

-- "each core below m, each task below 64, length at least 1, start + length at most F"
unfoldable pub sound : ℕ → ℕ → Piece → Bool
sound F m p = ltb p.core m && ltb p.task max_tasks && leb 1 p.len && leb (p.start + p.len) F

-- "in order of core and then start"
unfoldable pub ordered : Piece → Piece → Bool
ordered p q = ltb p.core q.core || (eqb p.core q.core && leb p.start q.start)

-- two pieces have an instant in common
unfoldable pub overlap : Piece → Piece → Bool
overlap p q = ltb p.start (q.start + q.len) && ltb q.start (p.start + p.len)

-- "no two pieces of one core overlap"
unfoldable pub core_apart : Piece → Piece → Bool
core_apart p q = not (eqb p.core q.core && overlap p q)

-- "no two pieces of one task overlap, on any cores"
unfoldable pub task_apart : Piece → Piece → Bool
task_apart p q = not (eqb p.task q.task && overlap p q)

-- the pieces of a frame table
unfoldable pub frame_pieces : ℕ → ℕ → List Piece → Bool
frame_pieces F m ps = leb (length ps) max_pieces && every (sound F m) ps && every_two ordered ps && every_two core_apart ps && every_two task_apart ps

-- a lent list that is a frame table; one "ending inside a piece" is none
unfoldable pub frame_table : ℕ → ℕ → List ℕ → Bool
frame_table F m l = eqb (length l % 4) 0 && frame_pieces F m (pieces_of l)
