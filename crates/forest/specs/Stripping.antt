-- How far a graph of units is taken apart: the vertices that are gone, with the moments at which they went. What is still there has the
-- present moment s, so that "later" is one comparison for both kinds.
-- Assumes nothing.
use Rattle.std.specs.Prelude.{◌≡◌, ℕ, ◌-◌, ◌*◌, ◌≤◌, ◌<◌}
use Rattle.rules.specs.Sum.{sum_to, positive}
use Rattle.rules.specs.Sets.{has}

-- 1 for a vertex that is still there, else 0
abbrev pub there : ℕ → ℕ → ℕ
there gone i = 1 - has gone i

-- the number of cores that are still there and hold units of task i; for a core, x is read the other way round
unfoldable pub links : ℕ → ℕ → (ℕ → ℕ → ℕ) → ℕ → ℕ
links m gone x i = sum_to m (λ j. there gone j * positive (x i j))

pub record Stripping (n m : ℕ) (x : ℕ → ℕ → ℕ) (tasksGone coresGone : ℕ) : Type 0 where
  pub s : ℕ
  pub task_rank : ℕ → ℕ
  pub core_rank : ℕ → ℕ
  pub task_gone : (i : ℕ) → i < n → has tasksGone i ≡ 1 → task_rank i < s
  pub task_there : (i : ℕ) → i < n → has tasksGone i ≡ 0 → task_rank i ≡ s
  pub core_gone : (j : ℕ) → j < m → has coresGone j ≡ 1 → core_rank j < s
  pub core_there : (j : ℕ) → j < m → has coresGone j ≡ 0 → core_rank j ≡ s
  pub apart : (i : ℕ) → i < n → (j : ℕ) → j < m → task_rank i ≡ core_rank j → s ≤ task_rank i
  pub task_one : (i : ℕ) → i < n → (j k : ℕ) → j < m → k < m → 0 < x i j → 0 < x i k → task_rank i < core_rank j → task_rank i < core_rank k → j ≡ k
  pub core_one : (j : ℕ) → j < m → (i h : ℕ) → i < n → h < n → 0 < x i j → 0 < x h j → core_rank j < task_rank i → core_rank j < task_rank h → i ≡ h

-- nothing is loose any more
pub record Fast (n m : ℕ) (x : ℕ → ℕ → ℕ) (tasksGone coresGone : ℕ) : Type 0 where
  pub tasks_fast : (i : ℕ) → i < n → has tasksGone i ≡ 0 → 2 ≤ links m coresGone x i
  pub cores_fast : (j : ℕ) → j < m → has coresGone j ≡ 0 → 2 ≤ links n tasksGone (λ k i. x i k) j
