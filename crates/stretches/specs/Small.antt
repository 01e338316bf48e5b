-- What keeps the numbers of the walk small: sizes as document 01 has them, and no task and no core above the largest frame.
-- Assumes nothing.
use Rattle.std.specs.Prelude.{ℕ, ◌≤◌, ◌<◌}
use Rattle.rules.specs.Sum.{sum_to}
use Rattle.rules.specs.Layout.{Walk}
use Rattle.rules.specs.Sizes.{max_frame, max_tasks, max_cores}

pub record Small (n m : ℕ) (x : ℕ → ℕ → ℕ) : Type 0 where
  pub tasks : n ≤ max_tasks
  pub cores : m ≤ max_cores
  pub rows : (t : ℕ) → t < n → sum_to m (x t) ≤ max_frame
  pub cols : (j : ℕ) → j < m → sum_to n (λ i. x i j) ≤ max_frame

-- the starts are small, and cores were reached through tasks that there are
pub record Bounded (n b : ℕ) (w : Walk) : Type 0 where
  pub starts : (k : ℕ) → w.start k ≤ b
  pub firsts : (k : ℕ) → w.first k ≤ n
