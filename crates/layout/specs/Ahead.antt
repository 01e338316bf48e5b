-- A row or a column of units as code reads it, and which of them is first.
-- These make the proofs easy and need no belief.
-- Assumes nothing.
use Rattle.std.specs.Prelude.{◌≡◌, ℕ, suc, ◌≤◌, ◌<◌, Option, Some, None}
use Rattle.rules.specs.Sizes.{max_frame}
use Rattle.rules.specs.Sum.{sum_to}

-- the one that is first as the rules number it: 0 for none, suc q for q
abbrev pub number_of : Option ℕ → ℕ
number_of None = 0
number_of (Some q) = suc q

-- what code gives for k is f k
pub record Gives (gives : ℕ → ℕ → Type 0) (f : ℕ → ℕ) : Type 0 where
  pub given : (k r : ℕ) → gives k r → r ≡ f k

-- code that may be asked for the first n units of a row or a column, which are no more than the largest frame together
pub record Line (may : ℕ → Type 0) (gives : ℕ → ℕ → Type 0) (n : ℕ) : Type 0 where
  pub units : ℕ → ℕ
  pub asked : (k : ℕ) → k < n → may k
  pub read : Gives gives units
  pub small : sum_to n units ≤ max_frame

-- the same of a whole row or column, with the i-th and the first
pub record Whole (may : ℕ → Type 0) (gives : ℕ → ℕ → Type 0) (first i : ℕ) : Type 0 where
  pub long : ℕ
  pub line : Line may gives long
  pub first_in : first ≤ long
  pub here : i < long
