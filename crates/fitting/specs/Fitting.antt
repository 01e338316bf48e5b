-- What the tests answer, each for a part of `Fits`.
-- These make the proofs easy and need no belief.
-- Assumes nothing.
use Rattle.std.specs.Prelude.{◌≡◌, ℕ, ◌*◌, ◌≤◌, ◌<◌, Option, Some, None}
use Rattle.rules.specs.Sizes.{max_cores}
use Rattle.rules.specs.Sum.{sum_to, positive}

-- no value of f below c is above F
abbrev pub AtMost : ℕ → ℕ → (ℕ → ℕ) → Type 0
AtMost F c f = (i : ℕ) → i < c → f i ≤ F

-- the units of a task, and of a core
abbrev pub row_of : ℕ → (ℕ → ℕ → ℕ) → ℕ → ℕ
row_of m x t = sum_to m (x t)

abbrev pub column_of : ℕ → (ℕ → ℕ → ℕ) → ℕ → ℕ
column_of n x j = sum_to n (λ i. x i j)

-- the number of cores where a task has units
abbrev pub used_of : ℕ → (ℕ → ℕ → ℕ) → ℕ → ℕ
used_of m x t = sum_to m (λ j. positive (x t j))

-- all rows fit, and u cells are used
pub record Counted (F n m : ℕ) (x : ℕ → ℕ → ℕ) (u : ℕ) : Type 0 where
  pub rows : AtMost F n (row_of m x)
  pub used : u ≡ sum_to n (used_of m x)
  pub few : u ≤ n * max_cores

-- what the rows hold: the number of used cells, or a row above the frame
abbrev pub RowsAnswer : ℕ → ℕ → ℕ → (ℕ → ℕ → ℕ) → Option ℕ → Type 0
RowsAnswer F n m x (Some u) = Counted F n m x u
RowsAnswer F n m x None = AtMost F n (row_of m x) → ⊥
