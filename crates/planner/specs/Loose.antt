-- The lowest loose vertex, as the code seeks it.
-- Assumes nothing.
use Rattle.std.specs.Prelude.{◌≡◌, ℕ, ◌≤◌, ◌<◌, Option, Some, None}
use Rattle.rules.specs.Sets.{has}

-- those below i that are still there have two links at least
abbrev pub FastBelow : ℕ → (ℕ → ℕ) → ℕ → Type 0
FastBelow gone count i = (k : ℕ) → k < i → has gone k ≡ 0 → 2 ≤ count k

-- r is the lowest vertex below n that is still there and has at most one link
pub record LooseAt (n gone : ℕ) (count : ℕ → ℕ) (r : ℕ) : Type 0 where
  pub within : r < n
  pub there_still : has gone r ≡ 0
  pub loose : count r ≤ 1
  pub fast : FastBelow gone count r

-- that vertex, or none where each has two links at least
abbrev pub FirstLoose : ℕ → ℕ → (ℕ → ℕ) → Option ℕ → Type 0
FirstLoose n gone count (Some r) = LooseAt n gone count r
FirstLoose n gone count None = FastBelow gone count n
