-- Document 02, (ii), "Say which mask fault it is", as an operator reads it: the fault of which task, and which core the rack lacks. Said over tasks and bits.
-- Assumes nothing.
use Rattle.std.specs.Prelude.{◌≡◌, Bool, false, ◌||◌, List, ℕ, ◌≤◌, ◌<◌, eqb, length}
use Rattle.rules.specs.Sets.{has}
use Rattle.rules.specs.Tests.{bad_frame, bad_cores, bad_tasks}
use Rattle.rules.specs.Plan.{at}

-- 1, 2 and 3 come first: none of them refuses
pub record Sized (F m : ℕ) (budgets masks : List ℕ) : Type 0 where
  pub frame : bad_frame F ≡ false
  pub cores : bad_cores m ≡ false
  pub tasks : bad_tasks budgets masks ≡ false

-- core c is named and missing: "has a bit at or above m"
pub record Misses (m mask c : ℕ) : Type 0 where
  pub above : m ≤ c
  pub named : has mask c ≡ 1

-- 4: task i is the lowest with an empty mask
pub record EmptyAt (masks : List ℕ) (i : ℕ) : Type 0 where
  pub task : i < length masks
  pub empty : at masks i ≡ 0
  pub lowest : (k : ℕ) → k < i → at masks k ≡ 0 → ⊥

-- 13, "tested after 4 over all tasks": no mask is empty, task i is the lowest whose mask names a missing core, and c "the lowest such core"
pub record MissingAt (m : ℕ) (masks : List ℕ) (i c : ℕ) : Type 0 where
  pub none_empty : (k : ℕ) → k < length masks → at masks k ≡ 0 → ⊥
  pub task : i < length masks
  pub core : Misses m (at masks i) c
  pub lowest_core : (d : ℕ) → d < c → Misses m (at masks i) d → ⊥
  pub lowest_task : (k : ℕ) → k < i → (d : ℕ) → Misses m (at masks k) d → ⊥

-- neither fault
pub record GoodMasks (m : ℕ) (masks : List ℕ) : Type 0 where
  pub none_empty : (k : ℕ) → k < length masks → at masks k ≡ 0 → ⊥
  pub none_missing : (k : ℕ) → k < length masks → (d : ℕ) → Misses m (at masks k) d → ⊥

-- the answers that come after both, "before 5": 5, 6, 7 and 0
unfoldable pub after_masks : ℕ → Bool
after_masks number = eqb number 5 || eqb number 6 || eqb number 7 || eqb number 0
