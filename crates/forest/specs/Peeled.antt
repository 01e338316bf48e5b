-- A forest is taken apart leaf by leaf: a certificate that makes the proofs easy and needs no belief. Tied to the rules by theorems of proofs/.
-- Assumes nothing.
use Rattle.std.specs.Prelude.{◌≡◌, ℕ, ◌<◌}

-- the moment at which each vertex of the graph of units is taken away: a task then has at most one core that is taken away later, a core
-- at most one such task
pub record Peeled (n m : ℕ) (x : ℕ → ℕ → ℕ) : Type 0 where
  pub task_rank : ℕ → ℕ
  pub core_rank : ℕ → ℕ
  pub apart : (i : ℕ) → i < n → (j : ℕ) → j < m → 0 < x i j → task_rank i ≡ core_rank j → ⊥
  pub task_one : (i : ℕ) → i < n → (j k : ℕ) → j < m → k < m → 0 < x i j → 0 < x i k → task_rank i < core_rank j → task_rank i < core_rank k → j ≡ k
  pub core_one : (j : ℕ) → j < m → (i h : ℕ) → i < n → h < n → 0 < x i j → 0 < x h j → core_rank j < task_rank i → core_rank j < task_rank h → i ≡ h
