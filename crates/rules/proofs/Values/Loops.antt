-- Cycles of tasks and cores, worked out by hand: two that are cycles, and graphs that lack one edge, one task or one core for it.
-- Assumes nothing.
use mathlib.Core.Path.{◌≡◌}
use mathlib.Core.Bool.{Bool, cond, not}
use mathlib.Core.List.{[], ◌∷◌}
use Prim.Native.Nat.{ℕ, suc, ◌-◌, ◌≤◌, ◌<◌}
use native.Mathlib.Omega.{arith}
use lib.Dec.{T, eqb, leb, ltb, leb→le, ltb→lt}
use borrow.Author.Tests.{eq-eqb}
use Rattle.rules.specs.Loops.{Cycle, LoopFree}
use Rattle.rules.specs.Table.{cell_at}
use Rattle.rules.specs.Plan.{at}
use Rattle.rules.proofs.Below.{all_below, each_below}
use Rattle.rules.proofs.Computed.{one_test, loop_free_computed}

unlike : (a b : ℕ) → T (not (eqb a b)) → a ≡ b → ⊥
unlike a b t e = rw (eq-eqb a b e) at t

-- no two of the first k are the same
abbrev differ_test : ℕ → (ℕ → ℕ) → Bool
differ_test k f = all_below k (λ l. all_below l (λ i. not (eqb (f i) (f l))))

differ : (k : ℕ) (f : ℕ → ℕ) → T (differ_test k f) → (i l : ℕ) → i < l → l < k → f i ≡ f l → ⊥
differ k f t i l p q =
    unlike (f i) (f l) (each_below l (λ i. not (eqb (f i) (f l))) (each_below k (λ l. all_below l (λ i. not (eqb (f i) (f l)))) t l q) i p)

-- what a cycle wants, each by one test that antt computes; the cycle has suc k tasks
module _ (n m k : ℕ) (x : ℕ → ℕ → ℕ) (task core : ℕ → ℕ) where
  cycle_computed : T (leb 1 k) → T (all_below (suc k) (λ i. ltb (task i) n)) → T (all_below (suc k) (λ i. ltb (core i) m))
      → T (differ_test (suc k) task) → T (differ_test (suc k) core)
      → T (all_below (suc k) (λ i. ltb 0 (x (task i) (core i)))) → T (all_below k (λ i. ltb 0 (x (task (suc i)) (core i)))) → T (ltb 0 (x (task 0) (core (suc k - 1))))
      → Cycle n m x
  cycle_computed more tasks cores tasks-unlike cores-unlike along across closed =
      record {
        k = suc k;
        task = task;
        core = core;
        two = up (leb→le 1 k more);
        tasks_below = λ i l. ltb→lt _ _ (each_below (suc k) (λ i. ltb (task i) n) tasks i l);
        cores_below = λ i l. ltb→lt _ _ (each_below (suc k) (λ i. ltb (core i) m) cores i l);
        tasks_differ = differ (suc k) task tasks-unlike;
        cores_differ = differ (suc k) core cores-unlike;
        along = λ i l. ltb→lt _ _ (each_below (suc k) (λ i. ltb 0 (x (task i) (core i))) along i l);
        across = λ i l. ltb→lt _ _ (each_below k (λ i. ltb 0 (x (task (suc i)) (core i))) across i (down l));
        closed = ltb→lt _ _ closed;
      }
    where
      up : {k : ℕ} → 1 ≤ k → 2 ≤ suc k
      up l = omega arith

      down : {i k : ℕ} → suc i < suc k → i < k
      down l = omega arith

-- two tasks on two cores: task 0, core 0, task 1, core 1. What stands past the second, here 9, is no part of the cycle.
pub square : Cycle 2 2 (cell_at 2 (1 ∷ 1 ∷ 1 ∷ 1 ∷ []))
square = cycle_computed 2 2 1 (cell_at 2 (1 ∷ 1 ∷ 1 ∷ 1 ∷ [])) (λ i. cond (ltb i 2) i 9) (λ i. cond (ltb i 2) i 9) tt tt tt tt tt tt tt tt

-- three tasks on the cores 1, 2 and 3: task 0 on 1 and 3, task 1 on 1 and 2, task 2 on 2 and 3. What stands past the third, here 0, is no part of it.
hexagon : Cycle 3 4 (cell_at 4 (0 ∷ 1 ∷ 0 ∷ 1 ∷ 0 ∷ 1 ∷ 1 ∷ 0 ∷ 0 ∷ 0 ∷ 1 ∷ 1 ∷ []))
hexagon =
    cycle_computed 3 4 2 (cell_at 4 (0 ∷ 1 ∷ 0 ∷ 1 ∷ 0 ∷ 1 ∷ 1 ∷ 0 ∷ 0 ∷ 0 ∷ 1 ∷ 1 ∷ [])) (at (0 ∷ 1 ∷ 2 ∷ [])) (at (1 ∷ 2 ∷ 3 ∷ []))
    tt tt tt tt tt tt tt tt

-- one edge of the square is missing
three_edges : LoopFree 2 2 (cell_at 2 (1 ∷ 1 ∷ 1 ∷ 0 ∷ []))
unfolding one_test
three_edges = loop_free_computed 2 2 0 _ tt

-- one task alone, though the next would close the square
one_task : LoopFree 1 2 (λ i j. 1)
unfolding one_test
one_task = loop_free_computed 1 2 0 _ tt

-- one core alone, though the next would close the square
one_core : LoopFree 2 1 (λ i j. 1)
unfolding one_test
one_core = loop_free_computed 2 1 0 _ tt

-- there and back over one edge is no cycle
one_edge : LoopFree 1 1 (λ i j. 1)
unfolding one_test
one_edge = loop_free_computed 1 1 0 _ tt
