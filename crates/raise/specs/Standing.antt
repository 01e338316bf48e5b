-- What raising keeps: the units are an allocation, and beside them stand each core's room and the set of tasks that have units on it.
-- These make the proofs easy and need no belief.
-- Assumes nothing.
use mathlib.Core.Path.{◌≡◌}
use mathlib.Core.List.{List}
use Prim.Native.Nat.{ℕ, ◌+◌, ◌^◌, ◌<◌}
use lib.ListN.{length}
use Rattle.rules.specs.Sizes.{max_cores}
use Rattle.rules.specs.Sum.{sum_to, positive}
use Rattle.rules.specs.Sets.{has}
use Rattle.rules.specs.Allocation.{limit_of, Allocation}
use Rattle.rules.specs.Plan.{at}
use Rattle.rules.specs.Taken.{AgreesBefore}
use Rattle.stretches.specs.Cell.{cell}
use Rattle.tests.specs.Given.{Given}

-- sixteen numbers a task; by core what it has room for; by core the tasks with units on it
pub record Stock : Type 0 where
  pub units : List ℕ
  pub room : List ℕ
  pub held : List ℕ

abbrev pub stock : List ℕ → List ℕ → List ℕ → Stock
stock units room held = record { units = units; room = room; held = held }

-- the lists have their lengths
pub record Long (s : Stock) : Type 0 where
  pub units : length s.units ≡ 1024
  pub room : length s.room ≡ max_cores
  pub held : length s.held ≡ max_cores

-- the sets say which of n tasks have units on which of m cores
pub record Holding (n m : ℕ) (x : ℕ → ℕ → ℕ) (held : List ℕ) : Type 0 where
  pub each : (c : ℕ) → c < m → (t : ℕ) → t < n → has (at held c) t ≡ positive (x t c)
  pub within : (c : ℕ) → c < m → at held c < 2 ^ n

module _ (F m : ℕ) (budgets masks : List ℕ) where
  abbrev pub Allocates : (ℕ → ℕ → ℕ) → Type 0
  Allocates x = Allocation (length budgets) m (limit_of F) (at budgets) (at masks) x

  pub record Standing (s : Stock) : Type 0 where
    pub given : Given F m budgets masks
    pub long : Long s
    pub allocation : Allocates (cell s.units)
    pub spare : (c : ℕ) → c < m → sum_to (length budgets) (λ t. cell s.units t c) + at s.room c ≡ F
    pub holding : Holding (length budgets) m (cell s.units) s.held

-- places of no task or of no core keep what they held
pub record Outside (n m : ℕ) (before after : List ℕ) : Type 0 where
  pub long : length after ≡ length before
  pub kept : (t c : ℕ) → c < max_cores → (t < n → c < m → ⊥) → cell after t c ≡ cell before t c

-- task i has more units on core j, and all earlier places have what they had
pub record Lifted (m i j : ℕ) (x y : ℕ → ℕ → ℕ) : Type 0 where
  pub earlier : AgreesBefore m x y i j
  pub more : x i j < y i j
