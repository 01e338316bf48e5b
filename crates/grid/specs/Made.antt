-- When units have a grid: within the sizes of document 01, and then it is made of what was handed in.
-- Assumes nothing.
use Rattle.std.specs.Prelude.{◌≡◌, List, ℕ, ◌≤◌, Option, Some, None}
use Rattle.std.specs.Borrow.{Bor}
use Rattle.rules.specs.Sizes.{max_tasks, max_cores}
use Rattle.grid.specs.declared.Grid.{Grid}

abbrev pub Made : Bor (List ℕ) → ℕ → ℕ → Option Grid → Type 0
Made units n m (Some g) = (g.units ≡ units) × (g.tasks ≡ n) × (g.cores ≡ m)
Made units n m None = (n ≤ max_tasks) × (m ≤ max_cores) → ⊥
