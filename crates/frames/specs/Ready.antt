-- When an allocation may be laid out: sizes as document 01 has them, a graph that is a forest, and neither a task nor a core above F.
-- Assumes nothing.
use Rattle.std.specs.Prelude.{ℕ, ◌≤◌, ◌<◌}
use Rattle.rules.specs.Sum.{sum_to}
use Rattle.rules.specs.Sizes.{max_frame, max_tasks, max_cores}
use Rattle.forest.specs.Peeled.{Peeled}

pub record Ready (F n m : ℕ) (x : ℕ → ℕ → ℕ) : Type 0 where
  pub frame_some : 1 ≤ F
  pub frame_most : F ≤ max_frame
  pub tasks_most : n ≤ max_tasks
  pub cores_some : 1 ≤ m
  pub cores_most : m ≤ max_cores
  pub peeled : Peeled n m x
  pub rows : (t : ℕ) → t < n → sum_to m (x t) ≤ F
  pub cols : (j : ℕ) → j < m → sum_to n (λ i. x i j) ≤ F
