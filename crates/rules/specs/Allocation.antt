-- Document 01, "Allocation and overload": what an allocation is, over a limit for each core.
-- n tasks, m cores; x i j is the number of units of task i on core j.
-- Assumes nothing.
use Rattle.std.specs.Prelude.{◌≡◌, ℕ, ◌≤◌, ◌<◌}
use Rattle.rules.specs.Sum.{sum_to}
use Rattle.rules.specs.Sets.{has}

-- "each core's units add up to at most F": core j may be given a whole frame
abbrev pub limit_of : ℕ → ℕ → ℕ
limit_of F j = F

pub record Allocation (n m : ℕ) (limit budget mask : ℕ → ℕ) (x : ℕ → ℕ → ℕ) : Type 0 where
  -- "none outside its mask"
  pub inside : (i : ℕ) → i < n → (j : ℕ) → j < m → has (mask i) j ≡ 0 → x i j ≡ 0
  -- "each task's units add up to its budget"
  pub exact : (i : ℕ) → i < n → sum_to m (x i) ≡ budget i
  -- "each core's units add up to at most F"
  pub within : (j : ℕ) → j < m → sum_to n (λ i. x i j) ≤ limit j
