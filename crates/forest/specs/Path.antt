-- A way through a graph of units in which every vertex that is still there has two links: task 0, core 0, task 1, .., task k, each vertex
-- new. It goes on until a vertex comes again, and that closes a cycle.
-- Assumes nothing.
use Rattle.std.specs.Prelude.{◌≡◌, ℕ, suc, ◌≤◌, ◌<◌}
use Rattle.rules.specs.Sets.{has}

pub record Way (n m : ℕ) (x : ℕ → ℕ → ℕ) (tasksGone coresGone : ℕ) (task core : ℕ → ℕ) (k : ℕ) : Type 0 where
  pub tasks_below : (i : ℕ) → i ≤ k → task i < n
  pub tasks_there : (i : ℕ) → i ≤ k → has tasksGone (task i) ≡ 0
  pub cores_below : (i : ℕ) → i < k → core i < m
  pub cores_there : (i : ℕ) → i < k → has coresGone (core i) ≡ 0
  pub tasks_differ : (i l : ℕ) → i < l → l ≤ k → task i ≡ task l → ⊥
  pub cores_differ : (i l : ℕ) → i < l → l < k → core i ≡ core l → ⊥
  pub along : (i : ℕ) → i < k → 0 < x (task i) (core i)
  pub across : (i : ℕ) → i < k → 0 < x (task (suc i)) (core i)

-- r is a neighbour that is still there, f saying where there are units, and not the one we came from
pub record Other (n gone : ℕ) (f : ℕ → ℕ) (from r : ℕ) : Type 0 where
  pub below : r < n
  pub still : has gone r ≡ 0
  pub units : 0 < f r
  pub new : r ≡ from → ⊥

-- r is the first place of v among the first c, or c where it does not stand there
pub record Place (list : ℕ → ℕ) (c v r : ℕ) : Type 0 where
  pub within : r ≤ c
  pub before : (i : ℕ) → i < r → list i ≡ v → ⊥
  pub found : r < c → list r ≡ v

-- r is the lowest vertex below n that is still there, or n where all are gone
pub record FirstThere (n gone r : ℕ) : Type 0 where
  pub within : r ≤ n
  pub still : r < n → has gone r ≡ 0
  pub before : (i : ℕ) → i < r → has gone i ≡ 1
