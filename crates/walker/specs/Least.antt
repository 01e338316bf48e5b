-- The least instant at which a count of units stands at a goal, and a job's finish by such a count.
-- Assumes nothing.
use Rattle.std.specs.Prelude.{ℕ, ◌+◌, ◌^◌, ◌≤◌, ◌<◌}

-- e is the least instant before which there are `goal` units
pub record LeastAt (count : ℕ → ℕ) (goal e : ℕ) : Type 0 where
  pub enough : goal ≤ count e
  pub least : (d : ℕ) → goal ≤ count d → e ≤ d

-- the goal is reached by some instant that a 64-bit number holds
pub record Reached (count : ℕ → ℕ) (goal : ℕ) : Type 0 where
  pub by : ℕ
  pub small : by < 2 ^ 63
  pub there : goal ≤ count by

-- the rules' Finish, over a count of units
pub record FinishBy (count : ℕ → ℕ) (begin job e : ℕ) : Type 0 where
  pub not_before : begin ≤ e
  pub enough : count begin + job ≤ count e
  pub least : (d : ℕ) → begin ≤ d → count begin + job ≤ count d → e ≤ d
