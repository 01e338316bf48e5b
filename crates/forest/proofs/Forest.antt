-- A graph of units that can be taken apart leaf by leaf has no cycle, and few edges: document 01, "Allocation and overload", "Then the
-- extra assignments .. are at most m − 1".
-- Assumes nothing.
use mathlib.Core.Path.{◌≡◌, refl, sym, ◌∙◌, ap}
use mathlib.Core.Bool.{cond}
use Prim.Native.Nat.{ℕ, zero, suc, ◌+◌, ◌-◌, ◌*◌, ◌≤◌, ◌<◌}
use native.Mathlib.Nat.{le_refl, le_trans, not-suc-le-zero, mul-one, zero-mul, mul-zero, mul_comm, mul-pos, mul-le-mul_right}
use native.Mathlib.Decide.{dec_lt, dec_le}
use native.Mathlib.Omega.{arith}
use borrow.Author.Tests.{lt-ltb, le-ltb}
use lib.Dec.{ltb}
use Rattle.rules.specs.Sum.{sum_to, positive}
use Rattle.rules.specs.Loops.{Cycle, LoopFree}
use Rattle.rules.specs.Extra.{cores_of, extra}
use Rattle.sums.proofs.Sum.{sum_cong, sum_le, sum_zero, sum_add, sum_const, sum_swap, sum_lt, positive_le, positive_of, sum_at_most_one}
use Rattle.sums.proofs.Order.{zero_of}
use Rattle.forest.specs.Peeled.{Peeled}

-- where a function is least
pub least_at : (k : ℕ) (f : ℕ → ℕ) → 0 < k → (a : ℕ) × (a < k) × ((i : ℕ) → i < k → f a ≤ f i)
least_at zero f h = absurd (not-suc-le-zero h)
least_at (suc zero) f h = (0, h, λ i l. rw (only l) (le_refl _))
  where
    only : {i : ℕ} → i < 1 → i ≡ 0
    only l = omega arith
least_at (suc (suc k)) f h =
    let r = least_at (suc k) f (omega arith) in
    elim (dec_le (f r.0) (f (suc k))) [
      | yes l ↦ (r.0, omega (arith, r.1), λ i b. elim (dec_lt i (suc k)) [ yes s ↦ r.2 i s | no s ↦ rw (last b s) l ])
      | no g ↦
          (suc k, omega arith, λ i b. elim (dec_lt i (suc k)) [ yes s ↦ below g (r.2 i s) | no s ↦ rw (last b s) (le_refl _) ])
    ]
  where
    last : {i k : ℕ} → i < suc (suc k) → (i < suc k → ⊥) → i ≡ suc k
    last b s = omega arith

    below : {a b c : ℕ} → (a ≤ b → ⊥) → a ≤ c → b ≤ c
    below g h = omega arith

-- the same graph with tasks and cores exchanged
abbrev pub turned : {n m : ℕ} {x : ℕ → ℕ → ℕ} → Peeled n m x → Peeled m n (λ j i. x i j)
turned p =
    record {
      task_rank = p.core_rank;
      core_rank = p.task_rank;
      apart = λ j a i b u e. p.apart i b j a u (sym e);
      task_one = λ j a i h b c u v s t. p.core_one j a i h b c u v s t;
      core_one = λ i a j k b c u v s t. p.task_one i a j k b c u v s t;
    }

module _ (n m : ℕ) (x : ℕ → ℕ → ℕ) (p : Peeled n m x) (c : Cycle n m x) where
  strict : {a b : ℕ} → a ≤ b → (a ≡ b → ⊥) → a < b
  strict l ne = omega arith

  -- a task is no earlier than both its neighbours in the cycle
  from_task : (a : ℕ) → a < c.k → ((i : ℕ) → i < c.k → p.task_rank (c.task a) ≤ p.core_rank (c.core i)) → ⊥
  from_task zero l h =
      c.cores_differ 0 (c.k - 1) (omega (arith, c.two)) (omega (arith, c.two))
      (p.task_one (c.task 0) (c.tasks_below 0 l) (c.core 0) (c.core (c.k - 1)) (c.cores_below 0 l) (c.cores_below (c.k - 1) (omega (arith, c.two))) (c.along 0 l) c.closed (strict (h 0 l) (p.apart (c.task 0) (c.tasks_below 0 l) (c.core 0) (c.cores_below 0 l) (c.along 0 l))) (strict (h (c.k - 1) (omega (arith, c.two))) (p.apart (c.task 0) (c.tasks_below 0 l) (c.core (c.k - 1)) (c.cores_below (c.k - 1) (omega (arith, c.two))) c.closed)))
  from_task (suc a) l h =
      c.cores_differ a (suc a) (omega arith) l
      (p.task_one (c.task (suc a)) (c.tasks_below (suc a) l) (c.core a) (c.core (suc a)) (c.cores_below a (omega arith)) (c.cores_below (suc a) l) (c.across a l) (c.along (suc a) l) (strict (h a (omega arith)) (p.apart (c.task (suc a)) (c.tasks_below (suc a) l) (c.core a) (c.cores_below a (omega arith)) (c.across a l))) (strict (h (suc a) l) (p.apart (c.task (suc a)) (c.tasks_below (suc a) l) (c.core (suc a)) (c.cores_below (suc a) l) (c.along (suc a) l))))

  -- nor is a core
  from_core : (b : ℕ) → b < c.k → ((i : ℕ) → i < c.k → p.core_rank (c.core b) ≤ p.task_rank (c.task i)) → ⊥
  from_core b l h =
      elim (dec_lt (suc b) c.k) [
        | yes s ↦
            c.tasks_differ b (suc b) (omega arith) s
            (p.core_one (c.core b) (c.cores_below b l) (c.task b) (c.task (suc b)) (c.tasks_below b l) (c.tasks_below (suc b) s) (c.along b l) (c.across b s) (strict (h b l) (λ e. p.apart (c.task b) (c.tasks_below b l) (c.core b) (c.cores_below b l) (c.along b l) (sym e))) (strict (h (suc b) s) (λ e. p.apart (c.task (suc b)) (c.tasks_below (suc b) s) (c.core b) (c.cores_below b l) (c.across b s) (sym e))))
        | no s ↦
            c.tasks_differ 0 b (omega (arith, c.two)) l
            (p.core_one (c.core b) (c.cores_below b l) (c.task 0) (c.task b) (c.tasks_below 0 (omega arith)) (c.tasks_below b l) (closes b s l) (c.along b l) (strict (h 0 (omega arith)) (λ e. p.apart (c.task 0) (c.tasks_below 0 (omega arith)) (c.core b) (c.cores_below b l) (closes b s l) (sym e))) (strict (h b l) (λ e. p.apart (c.task b) (c.tasks_below b l) (c.core b) (c.cores_below b l) (c.along b l) (sym e))))
      ]
    where
      last : {b k : ℕ} → (suc b < k → ⊥) → b < k → b ≡ k - 1
      last s l = omega arith

      closes : (b : ℕ) → (suc b < c.k → ⊥) → b < c.k → 0 < x (c.task 0) (c.core b)
      closes b s l = rw (last s l) c.closed

  no_cycle : ⊥
  no_cycle =
      let a = least_at c.k (λ i. p.task_rank (c.task i)) (omega (arith, c.two)) in
      let b = least_at c.k (λ i. p.core_rank (c.core i)) (omega (arith, c.two)) in
      elim (dec_le (p.task_rank (c.task a.0)) (p.core_rank (c.core b.0))) [
        | yes l ↦ from_task a.0 a.1 (λ i s. le_trans l (b.2 i s))
        | no g ↦ from_core b.0 b.1 (λ i s. le_trans (other g) (a.2 i s))
      ]
    where
      other : {a b : ℕ} → (a ≤ b → ⊥) → b ≤ a
      other g = omega arith

-- "the graph .. has no cycle": of a cycle, the vertex that is taken away first would have two later neighbours
pub peeled_has_no_loop : {n m : ℕ} {x : ℕ → ℕ → ℕ} → Peeled n m x → LoopFree n m x
peeled_has_no_loop {n} {m} {x} p c = no_cycle n m x p c

-- where a function is greatest
pub greatest_value : (n : ℕ) (f : ℕ → ℕ) → (v : ℕ) × ((i : ℕ) → i < n → f i ≤ v) × (0 < v → (a : ℕ) × (a < n) × (f a ≡ v))
greatest_value zero f = (0, λ i l. absurd (not-suc-le-zero l), λ h. absurd (not-suc-le-zero h))
greatest_value (suc n) f =
    let r = greatest_value n f in
    elim (dec_le (f n) r.0) [
      | yes l ↦ (
        r.0,
        λ i b. elim (dec_lt i n) [ yes s ↦ r.1 i s | no s ↦ rw (last b s) l ],
        λ h. let t = r.2 h in (t.0, omega (arith, t.1), t.2),
      )
      | no g ↦
          (f n, λ i b. elim (dec_lt i n) [ yes s ↦ below g (r.1 i s) | no s ↦ rw (last b s) (le_refl _) ], λ h. (n, omega arith, refl))
    ]
  where
    last : {i n : ℕ} → i < suc n → (i < n → ⊥) → i ≡ n
    last b s = omega arith

    below : {a b c : ℕ} → (a ≤ b → ⊥) → c ≤ b → c ≤ a
    below g h = omega arith

-- the edges between the tasks of g and the cores of h
unfoldable pub edges : ℕ → ℕ → (ℕ → ℕ → ℕ) → (ℕ → ℕ) → (ℕ → ℕ) → ℕ
edges n m x g h = sum_to n (λ i. sum_to m (λ j. g i * h j * positive (x i j)))

unfoldable pub above : ℕ → ℕ → ℕ
above a b = cond (ltb a b) 1 0

pub above_yes : {a b : ℕ} → a < b → above a b ≡ 1
unfolding above
above_yes {a} {b} h = rw (lt-ltb a b h)

pub above_no : {a b : ℕ} → b ≤ a → above a b ≡ 0
unfolding above
above_no {a} {b} h = rw (le-ltb a b h)

pub mul_below : {v a : ℕ} (b : ℕ) → a ≤ v → b ≤ 1 → a * b ≤ v
mul_below zero h l = rw mul-zero (omega arith)
mul_below {v} {a} (suc b) h l = rw (only l, mul-one) h
  where
    only : {b : ℕ} → suc b ≤ 1 → suc b ≡ 1
    only l = omega arith

pub left_pos : (a b : ℕ) → 0 < a * b → 0 < a
left_pos zero b h = rw zero-mul at h
left_pos (suc a) b h = omega arith

pub right_pos : (a b : ℕ) → 0 < a * b → 0 < b
right_pos a zero h = rw mul-zero at h
right_pos a (suc b) h = omega arith

pub positive_pos : (n : ℕ) → 0 < positive n → 0 < n
positive_pos zero h = h
positive_pos (suc n) h = omega arith

above_pos : (a b : ℕ) → 0 < above a b → a < b
above_pos a b h = elim (dec_lt a b) [ yes l ↦ l | no g ↦ absurd (none (above_no (other g)) h) ]
  where
    other : {a b : ℕ} → (a < b → ⊥) → b ≤ a
    other g = omega arith

    none : {v : ℕ} → v ≡ 0 → 0 < v → ⊥
    none e h = omega arith

above_le : (a b : ℕ) → above a b ≤ 1
above_le a b = elim (dec_lt a b) [ yes l ↦ rw (above_yes l) (le_refl _) | no g ↦ rw (above_no (other g)) (omega arith) ]
  where
    other : {a b : ℕ} → (a < b → ⊥) → b ≤ a
    other g = omega arith

-- an edge with the test that it goes up from the task
unfoldable up : ℕ → ℕ → (x : ℕ → ℕ → ℕ) → (ℕ → ℕ) → (ℕ → ℕ) → (ℕ → ℕ) → (ℕ → ℕ) → ℕ → ℕ → ℕ
up n m x tr cr g h i j = g i * h j * positive (x i j) * above (tr i) (cr j)

module _ (n m : ℕ) (x : ℕ → ℕ → ℕ) (p : Peeled n m x) (g h : ℕ → ℕ) (hs : (j : ℕ) → j < m → h j ≤ 1) where
  ups_le : (i : ℕ) → i < n → sum_to m (up n m x p.task_rank p.core_rank g h i) ≤ g i
  unfolding up
  ups_le i l =
      sum_at_most_one m (g i) (up n m x p.task_rank p.core_rank g h i)
      (λ j b. mul_below _ (mul_below _ (mul_below _ (le_refl _) (hs j b)) (positive_le (x i j))) (above_le (p.task_rank i) (p.core_rank j)))
      (λ j k b c u v.
      p.task_one i l j k b c (positive_pos _ (right_pos _ _ (left_pos _ _ u))) (positive_pos _ (right_pos _ _ (left_pos _ _ v)))
      (above_pos _ _ (right_pos _ _ u)) (above_pos _ _ (right_pos _ _ v)))

  ups_none : (i : ℕ) → ((j : ℕ) → j < m → 0 < h j → p.core_rank j ≤ p.task_rank i) → sum_to m (up n m x p.task_rank p.core_rank g h i) ≡ 0
  unfolding up
  ups_none i top =
      sum_zero m (λ j b.
      elim (dec_lt 0 (h j)) [
        | yes s ↦ ap (λ (v : ℕ). g i * h j * positive (x i j) * v) (above_no (top j b s)) ∙ mul-zero _
        | no s ↦ ap (λ (v : ℕ). g i * v * positive (x i j) * above (p.task_rank i) (p.core_rank j)) (zero_of s) ∙ gone (g i) (positive (x i j)) (above (p.task_rank i) (p.core_rank j))
      ])
    where
      gone : (a b c : ℕ) → a * 0 * b * c ≡ 0
      gone a b c = simp (mul-zero, zero-mul)

  ups_sum : sum_to n (λ i. sum_to m (up n m x p.task_rank p.core_rank g h i)) ≤ sum_to n g
  ups_sum = sum_le n ups_le

  -- a member that is taken away last of all members has no edge up
  ups_less : (i : ℕ) → i < n → 0 < g i → ((j : ℕ) → j < m → 0 < h j → p.core_rank j ≤ p.task_rank i) → sum_to n (λ i. sum_to m (up n m x p.task_rank p.core_rank g h i)) < sum_to n g
  ups_less i l s top = sum_lt n i _ g ups_le l (rw (ups_none i top) s)

module _ (n m : ℕ) (x : ℕ → ℕ → ℕ) (p : Peeled n m x) (g h : ℕ → ℕ) (gs : (i : ℕ) → i < n → g i ≤ 1) (hs : (j : ℕ) → j < m → h j ≤ 1) where
  -- each edge goes up from one of its ends
  one_way : (i : ℕ) → i < n → (j : ℕ) → j < m
      → g i * h j * positive (x i j) ≡ up n m x p.task_rank p.core_rank g h i j + up m n (λ j i. x i j) p.core_rank p.task_rank h g j i
  unfolding up
  one_way i a j b =
      elim (dec_lt 0 (x i j)) [
        | no z ↦ ap (λ (v : ℕ). g i * h j * positive v) (zero_of z) ∙ none (g i) (h j) (above (p.task_rank i) (p.core_rank j)) (above (p.core_rank j) (p.task_rank i)) ∙ sym (ap (λ (v : ℕ). g i * h j * positive v * above (p.task_rank i) (p.core_rank j) + h j * g i * positive v * above (p.core_rank j) (p.task_rank i)) (zero_of z))
        | yes s ↦
            elim (dec_lt (p.task_rank i) (p.core_rank j)) [
              | yes l ↦ rw (above_yes l, above_no {a = p.core_rank j} {b = p.task_rank i} (omega arith)) (first (g i * h j * positive (x i j)) (h j * g i * positive (x i j)))
              | no ge ↦ rw (above_no {a = p.task_rank i} {b = p.core_rank j} (omega arith), above_yes {a = p.core_rank j} {b = p.task_rank i} (strict (p.apart i a j b s) ge)) (second (g i) (h j) (positive (x i j)))
            ]
      ]
    where
      none : (a b c d : ℕ) → a * b * 0 ≡ a * b * 0 * c + b * a * 0 * d
      none a b c d = simp (mul-zero, zero-mul)

      strict : {a b : ℕ} → (a ≡ b → ⊥) → (a < b → ⊥) → b < a
      strict ne ge = omega arith

      first : (a b : ℕ) → a ≡ a * 1 + b * 0
      first a b = omega arith

      second : (a b c : ℕ) → a * b * c ≡ a * b * c * 0 + b * a * c * 1
      second a b c = rw (mul_comm b a) (omega arith)

  both : edges n m x g h ≡ sum_to n (λ i. sum_to m (up n m x p.task_rank p.core_rank g h i)) + sum_to m (λ j. sum_to n (up m n (λ j i. x i j) p.core_rank p.task_rank h g j))
  unfolding edges
  both =
      sum_cong n (λ i a. sum_cong m (λ j b. one_way i a j b) ∙ sum_add m (up n m x p.task_rank p.core_rank g h i) (λ j. up m n (λ j i. x i j) p.core_rank p.task_rank h g j i))
      ∙ sum_add n (λ i. sum_to m (up n m x p.task_rank p.core_rank g h i)) (λ i. sum_to m (λ j. up m n (λ j i. x i j) p.core_rank p.task_rank h g j i))
      ∙ ap (λ (v : ℕ). sum_to n (λ i. sum_to m (up n m x p.task_rank p.core_rank g h i)) + v) (sum_swap n m (λ i j. up m n (λ j i. x i j) p.core_rank p.task_rank h g j i))

  -- the last of all members is a task or a core
  sparse_of : 0 < sum_to n g + sum_to m h → edges n m x g h + 1 ≤ sum_to n g + sum_to m h
  sparse_of some =
      let a = greatest_value n (λ i. g i * suc (p.task_rank i)) in
      let b = greatest_value m (λ j. h j * suc (p.core_rank j)) in
      elim (dec_lt 0 a.0) [
        | yes s ↦
            elim (dec_le b.0 a.0) [
              | yes l ↦ by_task (a.2 s).0 (a.2 s).1 (member (g (a.2 s).0) (p.task_rank (a.2 s).0) (a.2 s).2 s) (λ j c u. beats (h j) (g (a.2 s).0) (p.core_rank j) (p.task_rank (a.2 s).0) u (gs (a.2 s).0 (a.2 s).1) (le_trans (b.1 j c) (rw (a.2 s).2 l)))
              | no o ↦
                  by_core (b.2 (more o)).0 (b.2 (more o)).1 (member (h (b.2 (more o)).0) (p.core_rank (b.2 (more o)).0) (b.2 (more o)).2 (more o)) (λ i c u. beats (g i) (h (b.2 (more o)).0) (p.task_rank i) (p.core_rank (b.2 (more o)).0) u (hs (b.2 (more o)).0 (b.2 (more o)).1) (le_trans (a.1 i c) (rw (b.2 (more o)).2 (other o))))
            ]
        | no z ↦
            elim (dec_lt 0 b.0) [
              | yes s ↦ by_core (b.2 s).0 (b.2 s).1 (member (h (b.2 s).0) (p.core_rank (b.2 s).0) (b.2 s).2 s) (λ i c u. beats (g i) (h (b.2 s).0) (p.task_rank i) (p.core_rank (b.2 s).0) u (hs (b.2 s).0 (b.2 s).1) (le_trans (a.1 i c) (rw (b.2 s).2 (under z))))
              | no y ↦ absurd (nobody (sum_zero n {f = g} (λ i l. idle (g i) (p.task_rank i) a.0 (a.1 i l) z)) (sum_zero m {f = h} (λ j l. idle (h j) (p.core_rank j) b.0 (b.1 j l) y)) some)
            ]
      ]
    where
      by_task : (i : ℕ) → i < n → 0 < g i → ((j : ℕ) → j < m → 0 < h j → p.core_rank j ≤ p.task_rank i) → edges n m x g h + 1 ≤ sum_to n g + sum_to m h
      by_task i l s top = omega (arith, both, ups_less n m x p g h hs i l s top, ups_sum m n (λ j i. x i j) (turned p) h g gs)

      by_core : (j : ℕ) → j < m → 0 < h j → ((i : ℕ) → i < n → 0 < g i → p.task_rank i ≤ p.core_rank j) → edges n m x g h + 1 ≤ sum_to n g + sum_to m h
      by_core j l s top = omega (arith, both, ups_less m n (λ j i. x i j) (turned p) h g gs j l s top, ups_sum n m x p g h hs)

      member : (a r : ℕ) {v : ℕ} → a * suc r ≡ v → 0 < v → 0 < a
      member a r e s = left_pos a (suc r) (rw e s)

      beats : (a b r q : ℕ) → 0 < a → b ≤ 1 → a * suc r ≤ b * suc q → r ≤ q
      beats a b r q s one l = omega (arith, mul-le-mul_right (suc r) s, mul-le-mul_right (suc q) one)

      more : {a b : ℕ} → (b ≤ a → ⊥) → 0 < b
      more o = omega arith

      other : {a b : ℕ} → (b ≤ a → ⊥) → a ≤ b
      other o = omega arith

      under : {a b : ℕ} → (0 < a → ⊥) → a ≤ b
      under z = omega arith

      nobody : {a b : ℕ} → a ≡ 0 → b ≡ 0 → 0 < a + b → ⊥
      nobody e f s = omega arith

      idle : (a r v : ℕ) → a * suc r ≤ v → (0 < v → ⊥) → a ≡ 0
      idle zero r v l z = refl
      idle (suc a) r v l z = absurd (z (le_trans (mul-pos {m = suc a} {n = suc r} (omega arith) (omega arith)) l))

-- "by the edge count": between any tasks and cores, not none, there are fewer edges than there are tasks and cores
pub sparse : {n m : ℕ} {x : ℕ → ℕ → ℕ} → Peeled n m x → (g h : ℕ → ℕ) → ((i : ℕ) → i < n → g i ≤ 1) → ((j : ℕ) → j < m → h j ≤ 1)
    → 0 < sum_to n g + sum_to m h → edges n m x g h + 1 ≤ sum_to n g + sum_to m h
sparse {n} {m} {x} p g h gs hs some = sparse_of n m x p g h gs hs some

-- how many cells of the allocation have units
pub used_at_most : {n m : ℕ} {x : ℕ → ℕ → ℕ} → Peeled n m x → 0 < m → sum_to n (λ i. sum_to m (λ j. positive (x i j))) + 1 ≤ n + m
unfolding edges
used_at_most {n} {m} {x} p some =
    omega (
      arith,
      sparse p (λ i. 1) (λ j. 1) (λ i l. le_refl _) (λ j l. le_refl _) (omega (arith, sum_const m 1)),
      sum_const n 1,
      sum_const m 1,
      sum_cong n {f = λ i. sum_to m (λ j. 1 * 1 * positive (x i j))} {g = λ i. sum_to m (λ j. positive (x i j))} (λ i l. sum_cong m (λ j b. once (positive (x i j)))),
    )
  where
    once : (a : ℕ) → 1 * 1 * a ≡ a
    once a = omega arith

-- "the extra assignments .. are at most m − 1"
pub extra_below_cores : {n m : ℕ} {x : ℕ → ℕ → ℕ} → Peeled n m x → 0 < m → extra n m x + 1 ≤ m
unfolding extra cores_of edges
extra_below_cores {n} {m} {x} p some =
    omega (arith, sparse p (λ i. positive (cores_of m x i)) (λ j. 1) (λ i l. positive_le (cores_of m x i)) (λ j l. le_refl _) (omega (arith, sum_const m 1)), sum_const m 1, less_one, all_of)
  where
    less_one : sum_to n (λ i. cores_of m x i - 1) + sum_to n (λ i. positive (cores_of m x i)) ≡ sum_to n (λ i. cores_of m x i)
    less_one = sym (sum_add n _ _) ∙ sum_cong n (λ i l. back (cores_of m x i))
      where
        back : (a : ℕ) → (a - 1) + positive a ≡ a
        back zero = omega arith
        back (suc a) = omega arith

    all_of : edges n m x (λ i. positive (cores_of m x i)) (λ j. 1) ≡ sum_to n (λ i. cores_of m x i)
    all_of = sum_cong n (λ i l. of_one i)
      where
        of_one : (i : ℕ) → sum_to m (λ j. positive (cores_of m x i) * 1 * positive (x i j)) ≡ cores_of m x i
        of_one i =
            elim (dec_lt 0 (cores_of m x i)) [
              | yes s ↦ sum_cong m (λ j b. rw (positive_of _ s) (once (positive (x i j))))
              | no z ↦ sum_zero m (λ j b. rw (zero_of z) (nothing (positive (x i j)))) ∙ sym (zero_of z)
            ]
          where
            once : (a : ℕ) → 1 * 1 * a ≡ a
            once a = omega arith

            nothing : (a : ℕ) → 0 * 1 * a ≡ 0
            nothing a = omega arith
