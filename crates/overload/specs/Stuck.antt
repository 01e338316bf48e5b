-- The search for an allocation: what is kept at every moment, and what stands when nothing with room is left to reach.
-- These make the proofs easy and need no belief; proofs/NoRoom.antt ties them to the rules.
-- Assumes nothing.
use Rattle.std.specs.Prelude.{◌≡◌, ℕ, ◌+◌, ◌^◌, ◌<◌}
use Rattle.rules.specs.Sum.{sum_to}
use Rattle.rules.specs.Sets.{has}

-- x gives no task more than its budget and no core more than its limit: left and room are what lacks
pub record Partial (n m : ℕ) (limit budget mask : ℕ → ℕ) (x : ℕ → ℕ → ℕ) (left room : ℕ → ℕ) : Type 0 where
  pub inside : (i : ℕ) → i < n → (j : ℕ) → j < m → has (mask i) j ≡ 0 → x i j ≡ 0
  pub row : (i : ℕ) → i < n → sum_to m (x i) + left i ≡ budget i
  pub column : (j : ℕ) → j < m → sum_to n (λ i. x i j) + room j ≡ limit j

-- the tasks g and the cores c hold every task that lacks units, all cores of a task they hold, and all tasks of a core they hold
pub record Closed (n m : ℕ) (mask : ℕ → ℕ) (x : ℕ → ℕ → ℕ) (left : ℕ → ℕ) (g c : ℕ) : Type 0 where
  pub starts : (i : ℕ) → i < n → 0 < left i → has g i ≡ 1
  pub masks : (i : ℕ) → i < n → has g i ≡ 1 → (j : ℕ) → j < m → has (mask i) j ≡ 1 → has c j ≡ 1
  pub units : (j : ℕ) → j < m → has c j ≡ 1 → (i : ℕ) → i < n → 0 < x i j → has g i ≡ 1

-- the search found the tasks g and the cores c, and no core with room
pub record Stuck (n m : ℕ) (mask : ℕ → ℕ) (x : ℕ → ℕ → ℕ) (left room : ℕ → ℕ) (g c : ℕ) : Type 0 where
  pub tasks : g < 2 ^ n
  pub cores : c < 2 ^ m
  pub closed : Closed n m mask x left g c
  -- each core found is full, and was found through a task
  pub full : (j : ℕ) → j < m → has c j ≡ 1 → room j ≡ 0
  pub reached : (j : ℕ) → j < m → has c j ≡ 1 → (i : ℕ) × (i < n) × (has g i ≡ 1) × (has (mask i) j ≡ 1)
  -- each task found lacks units, or was found through a core
  pub touched : (i : ℕ) → i < n → has g i ≡ 1 → left i ≡ 0 → (j : ℕ) × (j < m) × (0 < x i j)
  -- everything closed holds what was found
  pub least : (h d : ℕ) → Closed n m mask x left h d → (i : ℕ) → i < n → has g i ≡ 1 → has h i ≡ 1
