-- Document 01, "Allocation and overload": "the extra assignments (for each task with a budget, its cores less one, summed)".
-- Assumes nothing.
use Rattle.std.specs.Prelude.{ℕ, ◌-◌, true, false, ◌&&◌, List, [], ◌∷◌, eqb}
use Rattle.rules.specs.Sum.{sum_to, positive}
use Rattle.rules.specs.Piece.{Piece}

-- on how many of the m cores task i has units
unfoldable pub cores_of : ℕ → (ℕ → ℕ → ℕ) → ℕ → ℕ
cores_of m x i = sum_to m (λ j. positive (x i j))

-- a task without a budget has no core, and 0 - 1 is 0: it adds nothing, as the sentence says; any other has a core at least
unfoldable pub extra : ℕ → ℕ → (ℕ → ℕ → ℕ) → ℕ
extra n m x = sum_to n (λ i. cores_of m x i - 1)

-- 1 if some piece of task i is on core j, else 0
unfoldable pub runs_on : List Piece → ℕ → ℕ → ℕ
runs_on [] i j = 0
runs_on (p ∷ l) i j = elim (eqb p.task i && eqb p.core j) [ true ↦ 1 | false ↦ runs_on l i j ]

-- the same counted off a table: a task's cores are those on which it has a piece
unfoldable pub extra_of : ℕ → ℕ → List Piece → ℕ
extra_of n m ps = extra n m (runs_on ps)
