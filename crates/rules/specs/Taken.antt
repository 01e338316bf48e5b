-- Document 02, (viii): "among all allocations take the one that gives task 0 the most units on core 0, then the most on core 1, and so on
-- through its cores, then task 1 likewise."
-- n tasks, m cores; x i j is the number of units of task i on core j. The places are task 0 core 0, task 0 core 1, .., task 1 core 0, ..
-- Assumes nothing.
use Rattle.std.specs.Prelude.{◌≡◌, ℕ, ◌≤◌, ◌<◌}
use Rattle.rules.specs.Allocation.{Allocation}

-- y has the units of x at all places before task i core j
pub record AgreesBefore (m : ℕ) (x y : ℕ → ℕ → ℕ) (i j : ℕ) : Type 0 where
  pub tasks : (t : ℕ) → t < i → (c : ℕ) → c < m → y t c ≡ x t c
  pub cores : (c : ℕ) → c < j → y i c ≡ x i c

-- x is the allocation taken: at each place no allocation that agrees with it at all earlier places has more units
pub record Taken (n m : ℕ) (limit budget mask : ℕ → ℕ) (x : ℕ → ℕ → ℕ) : Type 0 where
  pub allocation : Allocation n m limit budget mask x
  pub most : (i : ℕ) → i < n → (j : ℕ) → j < m →
      (y : ℕ → ℕ → ℕ) → Allocation n m limit budget mask y → AgreesBefore m x y i j → y i j ≤ x i j
