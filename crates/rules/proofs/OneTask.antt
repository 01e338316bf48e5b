-- An allocation in which at most one task has units on two cores has no cycle: a cycle has two such tasks.
-- Assumes nothing.
use mathlib.Core.Path.{◌≡◌}
use Prim.Native.Nat.{ℕ, ◌-◌, ◌<◌}
use native.Mathlib.Omega.{arith}
use Rattle.rules.specs.Loops.{Cycle, LoopFree}

-- every task but t has units on one core at most
abbrev pub OneTask : ℕ → ℕ → ℕ → (ℕ → ℕ → ℕ) → Type 0
OneTask n m t x = (i : ℕ) → i < n → (i ≡ t → ⊥) → (j k : ℕ) → j < m → k < m → 0 < x i j → 0 < x i k → j ≡ k

module _ (n m t : ℕ) (x : ℕ → ℕ → ℕ) (one : OneTask n m t x) (c : Cycle n m x) where
  task_zero : (c.task 0 ≡ t → ⊥) → ⊥
  task_zero ne =
      c.cores_differ 0 (c.k - 1) (omega (arith, c.two)) (omega (arith, c.two))
      (one (c.task 0) (c.tasks_below 0 (omega (arith, c.two))) ne (c.core 0) (c.core (c.k - 1))
      (c.cores_below 0 (omega (arith, c.two))) (c.cores_below (c.k - 1) (omega (arith, c.two)))
      (c.along 0 (omega (arith, c.two))) c.closed)

  task_one : (c.task 1 ≡ t → ⊥) → ⊥
  task_one ne =
      c.cores_differ 0 1 (omega arith) (omega (arith, c.two))
      (one (c.task 1) (c.tasks_below 1 (omega (arith, c.two))) ne (c.core 0) (c.core 1)
      (c.cores_below 0 (omega (arith, c.two))) (c.cores_below 1 (omega (arith, c.two)))
      (c.across 0 (omega (arith, c.two))) (c.along 1 (omega (arith, c.two))))

  both : c.task 0 ≡ t → c.task 1 ≡ t → ⊥
  both e f = c.tasks_differ 0 1 (omega arith) (omega (arith, c.two)) (omega arith)

pub one_task_no_loop : (n m t : ℕ) (x : ℕ → ℕ → ℕ) → OneTask n m t x → LoopFree n m x
one_task_no_loop n m t x one c = task_zero n m t x one c (λ e. task_one n m t x one c (λ f. both n m t x one c e f))
