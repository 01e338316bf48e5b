-- Document 01, "Allocation and overload": "the graph that joins a task to each core where it has units has no cycle".
-- Assumes nothing.
use Rattle.std.specs.Prelude.{◌≡◌, ℕ, suc, ◌-◌, ◌≤◌, ◌<◌}

-- a cycle through k different tasks and k different cores, written out: task 0, core 0, task 1, core 1, .., core k - 1, and back to task 0;
-- there are units on each consecutive pair
pub record Cycle (n m : ℕ) (x : ℕ → ℕ → ℕ) : Type 0 where
  pub k : ℕ
  pub task : ℕ → ℕ
  pub core : ℕ → ℕ
  pub two : 2 ≤ k
  pub tasks_below : (i : ℕ) → i < k → task i < n
  pub cores_below : (i : ℕ) → i < k → core i < m
  pub tasks_differ : (i l : ℕ) → i < l → l < k → task i ≡ task l → ⊥
  pub cores_differ : (i l : ℕ) → i < l → l < k → core i ≡ core l → ⊥
  pub along : (i : ℕ) → i < k → 0 < x (task i) (core i)
  pub across : (i : ℕ) → suc i < k → 0 < x (task (suc i)) (core i)
  pub closed : 0 < x (task 0) (core (k - 1))

-- "has no cycle"
abbrev pub LoopFree : ℕ → ℕ → (ℕ → ℕ → ℕ) → Type 0
LoopFree n m x = Cycle n m x → ⊥
