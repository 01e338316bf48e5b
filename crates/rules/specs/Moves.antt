-- Document 01, "What counts as a frame table": "for each task, list its pieces by start within the frame; a move is a piece whose core
-- differs from the piece before it. The move count is the sum over tasks."
-- Assumes nothing.
use Rattle.std.specs.Prelude.{ℕ, ◌+◌, true, false, cond, List, [], ◌∷◌, eqb, leb}
use Rattle.rules.specs.Sizes.{max_tasks}
use Rattle.rules.specs.Sum.{sum_to}
use Rattle.rules.specs.Piece.{Piece}

-- p put into a list that goes by start, before the first piece that starts after it
unfoldable pub insert : Piece → List Piece → List Piece
insert p [] = p ∷ []
insert p (q ∷ l) = elim (leb q.start p.start) [ true ↦ q ∷ insert p l | false ↦ p ∷ q ∷ l ]

-- "list its pieces by start": the pieces of task t
unfoldable pub by_start : ℕ → List Piece → List Piece
by_start t [] = []
by_start t (p ∷ l) = elim (eqb p.task t) [ true ↦ insert p (by_start t l) | false ↦ by_start t l ]

-- "a piece whose core differs from the piece before it": how many there are after a piece on this core
unfoldable pub changes_after : ℕ → List Piece → ℕ
changes_after core [] = 0
changes_after core (p ∷ l) = cond (eqb core p.core) 0 1 + changes_after p.core l

-- the first piece has none before it
unfoldable pub changes : List Piece → ℕ
changes [] = 0
changes (p ∷ l) = changes_after p.core l

-- "the sum over tasks"
unfoldable pub moves : List Piece → ℕ
moves ps = sum_to max_tasks (λ t. changes (by_start t ps))
