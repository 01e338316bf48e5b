-- A way that goes on: the next core, the next task, and the cycle when a vertex comes again.
-- Assumes nothing.
use mathlib.Core.Path.{◌≡◌, sym, ◌∙◌, ap, subst}
use Prim.Native.Nat.{ℕ, zero, suc, ◌+◌, ◌-◌, ◌≤◌, ◌<◌}
use native.Mathlib.Decide.{ℕ_discrete}
use native.Mathlib.Omega.{arith}
use borrow.Author.Tests.{eq-eqb, ne_eqb}
use Rattle.rules.specs.Sets.{has}
use Rattle.forest.specs.Ring.{prior, Ring}
use Rattle.forest.specs.Path.{Way, Other, Place}
use Rattle.sums.proofs.Pigeon.{pigeon}

module _ (n m : ℕ) (x : ℕ → ℕ → ℕ) (g h : ℕ) where
  pub way_begins : (task core : ℕ → ℕ) (t : ℕ) → t < n → has g t ≡ 0 → task 0 ≡ t → Way n m x g h task core 0
  way_begins task core t l z e =
      record {
        tasks_below = λ i a. subst (λ (k : ℕ). k < n) (sym (ap task (none a) ∙ e)) l;
        tasks_there = λ i a. ap (has g) (ap task (none a) ∙ e) ∙ z;
        cores_below = λ i a. absurd (never a);
        cores_there = λ i a. absurd (never a);
        tasks_differ = λ i l a b. absurd (past a b);
        cores_differ = λ i l a b. absurd (never b);
        along = λ i a. absurd (never a);
        across = λ i a. absurd (never a);
      }
    where
      none : {i : ℕ} → i ≤ 0 → i ≡ 0
      none a = omega arith

      never : {i : ℕ} → i < 0 → ⊥
      never a = omega arith

      past : {i l : ℕ} → i < l → l ≤ 0 → ⊥
      past a b = omega arith

  pub way_short : (task core : ℕ → ℕ) (k : ℕ) → Way n m x g h task core k → k ≤ m
  way_short task core k w = pigeon k m core w.cores_below w.cores_differ

  -- one core more, which is c, in the list of cores
  module _ (task core new : ℕ → ℕ) (k c from : ℕ) (w : Way n m x g h task core k) (o : Other m h (x (task k)) from c)
      (came : (i : ℕ) → suc i ≡ k → from ≡ core i) (same : (i : ℕ) → i < k → new i ≡ core i) (last : new k ≡ c) where
    along_new : (i : ℕ) → i < suc k → 0 < x (task i) (new i)
    along_new i l =
        elim (ℕ_discrete i k) [
          | yes e ↦ subst (λ (j : ℕ). 0 < x (task j) (new j)) (sym e) (subst (λ (v : ℕ). 0 < x (task k) v) (sym last) o.units)
          | no ne ↦ subst (λ (v : ℕ). 0 < x (task i) v) (sym (same i (omega arith))) (w.along i (omega arith))
        ]

    across_new : (i : ℕ) → i < k → 0 < x (task (suc i)) (new i)
    across_new i l = subst (λ (v : ℕ). 0 < x (task (suc i)) v) (sym (same i l)) (w.across i l)

    below_new : (i : ℕ) → i < suc k → new i < m
    below_new i l =
        elim (ℕ_discrete i k) [
          | yes e ↦ subst (λ (v : ℕ). v < m) (sym (ap new e ∙ last)) o.below
          | no ne ↦ subst (λ (v : ℕ). v < m) (sym (same i (omega arith))) (w.cores_below i (omega arith))
        ]

    -- neighbours in the list differ
    turn_new : (i : ℕ) → suc i < suc k → new (suc i) ≡ new i → ⊥
    turn_new i l e =
        elim (ℕ_discrete (suc i) k) [
          | yes f ↦ o.new (sym (ap new f ∙ last) ∙ e ∙ same i (omega arith) ∙ sym (came i f))
          | no ne ↦ w.cores_differ i (suc i) (omega arith) (omega arith) (sym (same i (omega arith)) ∙ sym e ∙ same (suc i) (omega arith))
        ]

    -- the place after i has the core of place i before it
    prior_after : (lo hi i : ℕ) → lo ≤ i → prior new lo hi (suc i) ≡ new i
    prior_after lo hi i l = rw (ne_eqb (suc i) lo (λ e. past l e)) (ap new (one i))
      where
        past : {a b : ℕ} → a ≤ b → suc b ≡ a → ⊥
        past p q = omega arith

        one : (i : ℕ) → suc i - 1 ≡ i
        one i = omega arith

    prior_first : (lo i : ℕ) → i ≡ lo → prior new lo (suc k) i ≡ c
    prior_first lo i e = rw (eq-eqb i lo e) (ap new (one k) ∙ last)
      where
        one : (k : ℕ) → suc k - 1 ≡ k
        one k = omega arith

    -- a ring of the places from lo to k, where the first task has units on c and the first core is another
    ring_from : (lo : ℕ) → lo < k → 0 < x (task lo) c → (new lo ≡ c → ⊥) → Ring n m x task new lo (suc k)
    ring_from lo l first differ =
        record {
          two = omega arith;
          tasks_below = λ i a b. w.tasks_below i (omega arith);
          cores_below = λ i a b. below_new i b;
          along = λ i a b. along_new i b;
          back = back_at;
          turns = turns_at;
          tasks_differ = λ i l a b d. w.tasks_differ i l b (omega arith);
        }
      where
        back_at : (i : ℕ) → lo ≤ i → i < suc k → 0 < x (task i) (prior new lo (suc k) i)
        back_at zero a b = subst (λ (v : ℕ). 0 < x (task 0) v) (sym (prior_first lo 0 (bottom a))) (subst (λ (i : ℕ). 0 < x (task i) c) (sym (bottom a)) first)
          where
            bottom : lo ≤ 0 → 0 ≡ lo
            bottom a = omega arith
        back_at (suc i) a b =
            elim (ℕ_discrete (suc i) lo) [
              | yes e ↦ subst (λ (v : ℕ). 0 < x (task (suc i)) v) (sym (prior_first lo (suc i) e)) (subst (λ (i : ℕ). 0 < x (task i) c) (sym e) first)
              | no ne ↦ subst (λ (v : ℕ). 0 < x (task (suc i)) v) (sym (prior_after lo (suc k) i (omega arith))) (across_new i (omega arith))
            ]

        turns_at : (i : ℕ) → lo ≤ i → i < suc k → new i ≡ prior new lo (suc k) i → ⊥
        turns_at zero a b e = differ (ap new (sym (bottom a)) ∙ e ∙ prior_first lo 0 (bottom a))
          where
            bottom : lo ≤ 0 → 0 ≡ lo
            bottom a = omega arith
        turns_at (suc i) a b e =
            elim (ℕ_discrete (suc i) lo) [
              | yes f ↦ differ (ap new (sym f) ∙ e ∙ prior_first lo (suc i) f)
              | no ne ↦ turn_new i (omega arith) (e ∙ prior_after lo (suc k) i (omega arith))
            ]

    -- the core stood at place a before
    pub ring_by_core : (a : ℕ) → Place core k c a → a < k → Ring n m x task new (a + 1) (k + 1)
    ring_by_core a p l =
        rw (add_one a, add_one k)
        (ring_from (suc a) (further (λ e. o.new (sym (p.found l) ∙ sym (came a e))))
        (subst (λ (v : ℕ). 0 < x (task (suc a)) v) (p.found l) (w.across a l))
        (λ e. differs e))
      where
        add_one : (n : ℕ) → n + 1 ≡ suc n
        add_one n = omega arith

        further : (suc a ≡ k → ⊥) → suc a < k
        further ne = omega arith

        differs : new (suc a) ≡ c → ⊥
        differs e =
            w.cores_differ a (suc a) (omega arith) (further (λ f. o.new (sym (p.found l) ∙ sym (came a f))))
            (p.found l ∙ sym e ∙ same (suc a) (further (λ f. o.new (sym (p.found l) ∙ sym (came a f)))))

    -- the task u that is next stood at place b before
    pub ring_by_task : (u a b : ℕ) → Place core k c a → k ≤ a → Other n g (λ i. x i c) (task k) u → Place task (k + 1) u b → b < k + 1
        → Ring n m x task new b (k + 1)
    ring_by_task u a b p l q r s =
        rw (add_one k)
        (ring_from b (before (λ e. q.new (sym (r.found s) ∙ ap task e)))
        (subst (λ (v : ℕ). 0 < x v c) (sym (r.found s)) q.units)
        (λ e. p.before b (within (before (λ e. q.new (sym (r.found s) ∙ ap task e))) l) (sym (same b (before (λ e. q.new (sym (r.found s) ∙ ap task e)))) ∙ e)))
      where
        add_one : (n : ℕ) → n + 1 ≡ suc n
        add_one n = omega arith

        before : (b ≡ k → ⊥) → b < k
        before ne = omega arith

        within : b < k → k ≤ a → b < a
        within p q = omega arith

    -- neither stood there before
    pub way_more : (next : ℕ → ℕ) (u a b : ℕ) → Place core k c a → k ≤ a → Other n g (λ i. x i c) (task k) u → Place task (k + 1) u b → k + 1 ≤ b
        → ((i : ℕ) → i < k + 1 → next i ≡ task i) → next (k + 1) ≡ u → Way n m x g h next new (k + 1)
    way_more next u a b p l q r s like top =
        rw (add_one k)
        (record {
          tasks_below = λ i d. elim (ℕ_discrete i (suc k)) [ yes e ↦ subst (λ (v : ℕ). v < n) (sym (at_top i e)) q.below | no ne ↦ subst (λ (v : ℕ). v < n) (sym (like i (omega arith))) (w.tasks_below i (omega arith)) ];
          tasks_there = λ i d. elim (ℕ_discrete i (suc k)) [ yes e ↦ ap (has g) (at_top i e) ∙ q.still | no ne ↦ ap (has g) (like i (omega arith)) ∙ w.tasks_there i (omega arith) ];
          cores_below = λ i d. below_new i d;
          cores_there = λ i d. elim (ℕ_discrete i k) [ yes e ↦ ap (has h) (ap new e ∙ last) ∙ o.still | no ne ↦ ap (has h) (same i (omega arith)) ∙ w.cores_there i (omega arith) ];
          tasks_differ = λ i j d f e.
              elim (ℕ_discrete j (suc k)) [
                | yes t ↦ r.before i (omega arith) (sym (like i (omega arith)) ∙ e ∙ at_top j t)
                | no ne ↦ w.tasks_differ i j d (omega arith) (sym (like i (omega arith)) ∙ e ∙ like j (omega arith))
              ];
          cores_differ = λ i j d f e.
              elim (ℕ_discrete j k) [
                | yes t ↦ p.before i (omega arith) (sym (same i (omega arith)) ∙ e ∙ ap new t ∙ last)
                | no ne ↦ w.cores_differ i j d (omega arith) (sym (same i (omega arith)) ∙ e ∙ same j (omega arith))
              ];
          along = λ i d. subst (λ (v : ℕ). 0 < x v (new i)) (sym (like i (omega arith))) (along_new i d);
          across = λ i d.
              elim (ℕ_discrete i k) [
                | yes e ↦ subst (λ (v : ℕ). 0 < x v (new i)) (sym (at_top (suc i) (ap suc e))) (subst (λ (v : ℕ). 0 < x u v) (sym (ap new e ∙ last)) q.units)
                | no ne ↦ subst (λ (v : ℕ). 0 < x v (new i)) (sym (like (suc i) (omega arith))) (across_new i (omega arith))
              ];
        })
      where
        add_one : (n : ℕ) → n + 1 ≡ suc n
        add_one n = omega arith

        at_top : (i : ℕ) → i ≡ suc k → next i ≡ u
        at_top i e = ap next (e ∙ sym (add_one k)) ∙ top
