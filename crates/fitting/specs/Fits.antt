-- When units may be laid out: what `units_fit` tells for every input.
-- Assumes nothing.
use Rattle.std.specs.Prelude.{◌≡◌, Bool, true, false, ℕ, ◌+◌, ◌≤◌, ◌<◌}
use Rattle.rules.specs.Sizes.{max_frame, max_tasks, max_cores}
use Rattle.rules.specs.Sum.{sum_to, positive}

-- the sizes are those of document 01, no task and no core has more units than a frame, and the lent table has room for `room` pieces: one
-- for each task on each core where it has units, and one more a core for a stretch that crosses the end
pub record Fits (F n m : ℕ) (x : ℕ → ℕ → ℕ) (room : ℕ) : Type 0 where
  pub frame_some : 1 ≤ F
  pub frame_most : F ≤ max_frame
  pub tasks_most : n ≤ max_tasks
  pub cores_some : 1 ≤ m
  pub cores_most : m ≤ max_cores
  pub rows : (t : ℕ) → t < n → sum_to m (x t) ≤ F
  pub cols : (j : ℕ) → j < m → sum_to n (λ i. x i j) ≤ F
  pub room_for : sum_to n (λ t. sum_to m (λ j. positive (x t j))) + m ≤ room

-- r says whether P holds
pub record Tells (P : Type 0) (r : Bool) : Type 0 where
  pub yes : r ≡ true → P
  pub no : r ≡ false → P → ⊥
