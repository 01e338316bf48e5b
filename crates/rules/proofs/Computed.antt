-- An allocation, its freedom from loops and a group's place among all groups, each by one test that antt computes.
-- Assumes nothing.
use mathlib.Core.Path.{◌≡◌}
use mathlib.Core.Bool.{Bool, true, false, not, ◌||◌}
use Prim.Native.Nat.{ℕ, ◌+◌, ◌^◌, ◌≤◌, ◌<◌}
use native.Mathlib.Omega.{arith}
use lib.Dec.{T, leb, ltb, eqb, leb→le, eqb→eq, le→leb, lt→ltb}
use borrow.Author.Tests.{eq-eqb}
use Rattle.rules.specs.Sum.{sum_to}
use Rattle.rules.specs.Sets.{has}
use Rattle.rules.specs.Allocation.{Allocation}
use Rattle.rules.specs.Excess.{group_budget, group_capacity, NoMore, Exceeds, Smallest}
use Rattle.rules.specs.Loops.{LoopFree}
use Rattle.rules.proofs.Below.{all_below, each_below, below_each}
use Rattle.rules.proofs.OneTask.{OneTask, one_task_no_loop}

-- from a test that says "not this or that" and this, that
pub or_right : (a b : Bool) → T (not a || b) → T a → T b
or_right true b t p = t
or_right false b t p = absurd p

module _ (n m : ℕ) (limit budget mask : ℕ → ℕ) (x : ℕ → ℕ → ℕ) where
  abbrev inside_at : ℕ → ℕ → Bool
  inside_at i j = not (eqb (has (mask i) j) 0) || eqb (x i j) 0

  unfoldable pub inside_test : Bool
  inside_test = all_below n (λ i. all_below m (inside_at i))

  unfoldable pub exact_test : Bool
  exact_test = all_below n (λ i. eqb (sum_to m (x i)) (budget i))

  unfoldable pub within_test : Bool
  within_test = all_below m (λ j. leb (sum_to n (λ i. x i j)) (limit j))

  pub allocation_computed : T inside_test → T exact_test → T within_test → Allocation n m limit budget mask x
  unfolding inside_test exact_test within_test
  allocation_computed a b c =
      record {
        inside = λ i l j k e.
            eqb→eq _ _
            (or_right (eqb (has (mask i) j) 0) (eqb (x i j) 0)
            (each_below m (inside_at i) (each_below n (λ i. all_below m (inside_at i)) a i l) j k)
            (rw (eq-eqb _ _ e) tt));
        exact = λ i l. eqb→eq _ _ (each_below n (λ i. eqb (sum_to m (x i)) (budget i)) b i l);
        within = λ j l. leb→le _ _ (each_below m (λ j. leb (sum_to n (λ i. x i j)) (limit j)) c j l);
      }

module _ (n m t : ℕ) (x : ℕ → ℕ → ℕ) where
  abbrev one_at : ℕ → ℕ → ℕ → Bool
  one_at i j k = not (not (eqb i t)) || (not (ltb 0 (x i j)) || (not (ltb 0 (x i k)) || eqb j k))

  unfoldable pub one_test : Bool
  one_test = all_below n (λ i. all_below m (λ j. all_below m (λ k. one_at i j k)))

  one_task : T one_test → OneTask n m t x
  unfolding one_test
  one_task a i l ne j k p q u v =
      eqb→eq _ _
      (or_right (ltb 0 (x i k)) (eqb j k)
      (or_right (ltb 0 (x i j)) (not (ltb 0 (x i k)) || eqb j k)
      (or_right (not (eqb i t)) (not (ltb 0 (x i j)) || (not (ltb 0 (x i k)) || eqb j k))
      (each_below m (one_at i j) (each_below m (λ j. all_below m (one_at i j)) (each_below n (λ i. all_below m (λ j. all_below m (one_at i j))) a i l) j p) k q)
      (unlike (eqb i t) (λ e. ne (eqb→eq i t e))))
      (lt→ltb _ _ u))
      (lt→ltb _ _ v))
    where
      unlike : (b : Bool) → (T b → ⊥) → T (not b)
      unlike true h = h tt
      unlike false h = tt

  pub loop_free_computed : T one_test → LoopFree n m x
  loop_free_computed a = one_task_no_loop n m t x (one_task a)

module _ (n m : ℕ) (limit budget mask : ℕ → ℕ) where
  abbrev pub more : ℕ → ℕ → Bool
  more h g = leb (group_budget n budget h + group_capacity n m limit budget mask g) (group_budget n budget g + group_capacity n m limit budget mask h)

  unfoldable pub fit_test : Bool
  fit_test = all_below (2 ^ n) (λ g. leb (group_budget n budget g) (group_capacity n m limit budget mask g))

  pub no_group_computed : T fit_test → (g : ℕ) → g < 2 ^ n → Exceeds n m limit budget mask g → ⊥
  unfolding fit_test Exceeds
  no_group_computed a g l e = beat (leb→le _ _ (each_below (2 ^ n) (λ g. leb (group_budget n budget g) (group_capacity n m limit budget mask g)) a g l)) e
    where
      beat : {a b : ℕ} → a ≤ b → b < a → ⊥
      beat p q = omega arith

  unfoldable pub greatest_test : ℕ → Bool
  greatest_test g = all_below (2 ^ n) (λ h. more h g)

  unfoldable pub smallest_test : ℕ → Bool
  smallest_test g = all_below (2 ^ n) (λ h. not (more g h) || all_below n (λ i. leb (has g i) (has h i)))

  pub smallest_computed : (g : ℕ) → g < 2 ^ n → T (greatest_test g) → T (smallest_test g) → Smallest n m limit budget mask g
  unfolding greatest_test smallest_test NoMore
  smallest_computed g s a b =
      record {
        tasks = s;
        greatest = λ h l. leb→le _ _ (each_below (2 ^ n) (λ h. more h g) a h l);
        smallest = λ h l e i k.
            leb→le _ _
            (each_below n (λ i. leb (has g i) (has h i))
            (or_right (more g h) (all_below n (λ i. leb (has g i) (has h i)))
            (each_below (2 ^ n) (λ h. not (more g h) || all_below n (λ i. leb (has g i) (has h i))) b h l) (le→leb _ _ e)) i k);
      }

module _ (n g : ℕ) where
  unfoldable pub same_test : Bool
  same_test = all_below (2 ^ n) (λ h. not (all_below n (λ i. eqb (has h i) (has g i))) || eqb h g)

  -- a group is known by its members
  pub same_computed : T same_test → (h : ℕ) → h < 2 ^ n → ((i : ℕ) → i < n → has h i ≡ has g i) → h ≡ g
  unfolding same_test
  same_computed t h l e =
      eqb→eq _ _
      (or_right (all_below n (λ i. eqb (has h i) (has g i))) (eqb h g)
      (each_below (2 ^ n) (λ h. not (all_below n (λ i. eqb (has h i) (has g i))) || eqb h g) t h l)
      (below_each n (λ i. eqb (has h i) (has g i)) (λ i k. rw (eq-eqb _ _ (e i k)) tt)))
