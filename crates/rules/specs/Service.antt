-- Document 01, "The job walker": "The table repeats from instant 0. A task has unit t if some piece of it covers t modulo F."
-- Assumes nothing.
use Rattle.std.specs.Prelude.{ℕ, ◌+◌, ◌%◌, Bool, true, false, ◌&&◌, List, [], ◌∷◌, eqb, leb, ltb}
use Rattle.rules.specs.Sum.{sum_to}
use Rattle.rules.specs.Piece.{Piece}

-- the piece is one of the task's and covers the instant i of the frame
unfoldable pub covers : ℕ → ℕ → Piece → Bool
covers task i p = eqb p.task task && leb p.start i && ltb i (p.start + p.len)

-- 1 if some piece of the task covers the instant i of the frame, else 0
unfoldable pub covered : ℕ → ℕ → List Piece → ℕ
covered task i [] = 0
covered task i (p ∷ l) = elim (covers task i p) [ true ↦ 1 | false ↦ covered task i l ]

-- 1 if the task has unit t, else 0
abbrev pub unit : ℕ → List Piece → ℕ → ℕ → ℕ
unit F ps task t = covered task (t % F) ps

-- the units that the task has before the instant e
abbrev pub units : ℕ → List Piece → ℕ → ℕ → ℕ
units F ps task e = sum_to e (unit F ps task)
