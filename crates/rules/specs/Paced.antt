-- Demand 3: when every finish is bounded, and by what. Jobs of a period T, each of at most c units, on a task of b units a frame.
-- Assumes nothing.
use Rattle.std.specs.Prelude.{◌≡◌, ℕ, suc, ◌+◌, ◌*◌, ◌≤◌, ◌<◌}

-- the premises: c × F is at most b × T, releases lie at least T apart, and no job asks more than c units
pub record Paced (F b T c count : ℕ) (release job : ℕ → ℕ) : Type 0 where
  pub enough : c * F ≤ b * T
  pub apart : (k : ℕ) → suc k < count → release k + T ≤ release (suc k)
  pub small : (k : ℕ) → k < count → job k ≤ c

-- "release + T + F", and "release + T where F divides T"
pub record Bounded (F T count : ℕ) (release finish : ℕ → ℕ) : Type 0 where
  pub by_frame : (k : ℕ) → k < count → finish k ≤ release k + T + F
  pub by_period : (q : ℕ) → T ≡ q * F → (k : ℕ) → k < count → finish k ≤ release k + T
