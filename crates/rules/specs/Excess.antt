-- Document 01, "Allocation and overload": budget, cores and excess of a group, overload, and the group that answer 7 carries.
-- "excess": the sum of its budgets less F × the number of cores in the union of its masks, here less the sum of these cores' limits.
-- An excess may be below zero, so two of them are compared with each core term on the other side, and nothing is subtracted.
-- Assumes nothing.
use Rattle.std.specs.Prelude.{ℕ, ◌+◌, ◌*◌, ◌^◌, ◌≤◌, ◌<◌}
use Rattle.rules.specs.Sum.{sum_to}
use Rattle.rules.specs.Sets.{has, union}

-- "the sum of its budgets"
unfoldable pub group_budget : ℕ → (ℕ → ℕ) → ℕ → ℕ
group_budget n budget g = sum_to n (λ i. has g i * budget i)

-- the sum of the limits of the cores in c: F × their number where each limit is F
unfoldable pub capacity : ℕ → (ℕ → ℕ) → ℕ → ℕ
capacity m limit c = sum_to m (λ j. has c j * limit j)

module _ (n m : ℕ) (limit budget mask : ℕ → ℕ) where
  -- the capacity of "the union of its masks"
  unfoldable pub group_capacity : ℕ → ℕ
  group_capacity g = capacity m limit (union n mask g)

  -- the excess of h is at most that of g
  unfoldable pub NoMore : ℕ → ℕ → Type 0
  NoMore h g = group_budget n budget h + group_capacity g ≤ group_budget n budget g + group_capacity h

  -- "some group has excess above zero": this one has
  unfoldable pub Exceeds : ℕ → Type 0
  Exceeds g = group_capacity g < group_budget n budget g

  -- "Overload means that some group has excess above zero"
  abbrev pub Overload : Type 0
  Overload = (g : ℕ) × (g < 2 ^ n) × Exceeds g

  -- "the smallest among those of greatest excess": no group has a greater excess, and each one that has the same holds all its tasks
  pub record Smallest (g : ℕ) : Type 0 where
    pub tasks : g < 2 ^ n
    pub greatest : (h : ℕ) → h < 2 ^ n → NoMore h g
    pub smallest : (h : ℕ) → h < 2 ^ n → NoMore g h → (i : ℕ) → i < n → has g i ≤ has h i
