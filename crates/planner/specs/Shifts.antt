-- What the shifts round a cycle ask, over the values that the code holds.
-- Assumes nothing.
use Rattle.std.specs.Prelude.{ℕ, ◌≤◌, ◌<◌}
use Rattle.rules.specs.Sizes.{max_tasks, max_cores, max_frame}
use Rattle.rules.specs.Sum.{sum_to}
use Rattle.rules.specs.Plan.{at}
use Rattle.forest.specs.Ring.{Ring, Least, Kept, edges}
use Rattle.planner.specs.declared.cycle.Cycle.{Cycle}

-- units within the sizes of document 01, no task with more than a frame
pub record Sound (n m : ℕ) (x : ℕ → ℕ → ℕ) : Type 0 where
  pub tasks : n ≤ max_tasks
  pub cores : m ≤ max_cores
  pub small : (a : ℕ) → a < n → sum_to m (x a) ≤ max_frame

-- what is known before the shifts
pub record ShiftReady (n m : ℕ) (x : ℕ → ℕ → ℕ) (c : Cycle) (d : ℕ) : Type 0 where
  pub sound : Sound n m x
  pub ring : Ring n m x (at c.tasks) (at c.cores) c.lo c.hi
  pub least : Least x (at c.tasks) (at c.cores) c.lo c.hi d

-- it is known of some tasks and cores
pub record Shiftable (x : ℕ → ℕ → ℕ) (c : Cycle) (d : ℕ) : Type 0 where
  pub tasks : ℕ
  pub cores : ℕ
  pub ready : ShiftReady tasks cores x c d

-- whatever tasks and cores it was known of: all sums are kept, and there is an edge less at least
pub record ShiftedAll (x y : ℕ → ℕ → ℕ) (c : Cycle) (d : ℕ) : Type 0 where
  pub kept : (n m : ℕ) → ShiftReady n m x c d → Kept n m x y
  pub fewer : (n m : ℕ) → ShiftReady n m x c d → edges n m y < edges n m x
