-- A graph of units without a cycle comes apart leaf by leaf: where nothing is loose and something is left, a way meets itself.
-- Assumes nothing.
use mathlib.Core.Path.{◌≡◌, refl, sym, ◌∙◌, ap, subst}
use mathlib.Core.Logic.{◌⊎◌, inl, inr, ⊎_elim}
use Prim.Native.Nat.{ℕ, zero, suc, ◌+◌, ◌-◌, ◌*◌, ◌^◌, ◌≤◌, ◌<◌}
use native.Mathlib.Decide.{ℕ_discrete, dec_lt, dec_le}
use native.Mathlib.Omega.{arith}
use lib.Bits.{bit_or}
use Rattle.rules.specs.Sum.{sum_to, put, positive}
use Rattle.rules.specs.Sets.{has}
use Rattle.rules.specs.Loops.{Cycle, LoopFree}
use Rattle.sums.proofs.Sum.{put_same, put_other}
use Rattle.sums.proofs.Sets.{has_lt}
use Rattle.forest.specs.Peeled.{Peeled}
use Rattle.forest.specs.Stripping.{there, links, Stripping, Fast}
use Rattle.forest.specs.Path.{Way, Other}
use Rattle.sums.proofs.Pigeon.{sum_one}
use Rattle.forest.proofs.Strip.{strip_none, strip_task, strip_core, fewer_there, all_gone}
use Rattle.forest.proofs.Ways.{way_begins, way_short, way_more}

-- a place below n where P holds, or none
seek : (n : ℕ) (P : ℕ → Type 0) → ((i : ℕ) → Dec (P i)) → ((i : ℕ) × (i < n) × P i) ⊎ ((i : ℕ) → i < n → P i → ⊥)
seek zero P dec = inr (λ i l p. none l)
  where
    none : {i : ℕ} → i < 0 → ⊥
    none l = omega arith
seek (suc n) P dec =
    elim (dec n) [
      | yes p ↦ inl (n, omega arith, p)
      | no np ↦ ⊎_elim (λ r. inl (r.0, omega (arith, r.1), r.2)) (λ h. inr (λ i l p. last h np i l p)) (seek n P dec)
    ]
  where
    last : ((i : ℕ) → i < n → P i → ⊥) → (P n → ⊥) → (i : ℕ) → i < suc n → P i → ⊥
    last h np i l p = elim (ℕ_discrete i n) [ yes e ↦ np (subst P e p) | no ne ↦ h i (omega arith) p ]

-- another neighbour than the one we came from, where there are two links
module _ (n gone : ℕ) (x : ℕ → ℕ → ℕ) (v from : ℕ) (two : 2 ≤ links n gone x v) where
  abbrev Good : ℕ → Type 0
  Good r = (0 < there gone r * positive (x v r)) × (r ≡ from → ⊥)

  good_dec : (r : ℕ) → Dec (Good r)
  good_dec r =
      elim (dec_lt 0 (there gone r * positive (x v r))) [
        | yes p ↦ elim (ℕ_discrete r from) [ yes e ↦ no (λ g. g.1 e) | no ne ↦ yes (p, ne) ]
        | no np ↦ no (λ g. np g.0)
      ]

  there_of : (u w : ℕ) → 0 < (1 - u) * positive w → u ≡ 0
  there_of zero w p = refl
  there_of (suc u) w p = absurd (no_more (positive w) (rw (gone_one u) at p))
    where
      gone_one : (u : ℕ) → 1 - suc u ≡ 0
      gone_one u = omega arith

      no_more : (k : ℕ) → 0 < 0 * k → ⊥
      no_more k p = omega arith

  units_of : (u w : ℕ) → 0 < (1 - u) * positive w → 0 < w
  units_of u zero p = absurd (nothing p)
    where
      nothing : 0 < (1 - u) * 0 → ⊥
      nothing p = omega arith
  units_of u (suc w) p = omega arith

  small : (u w : ℕ) → (1 - u) * positive w ≤ 1
  small u zero = omega arith
  small u (suc w) = omega arith

  other : (r : ℕ) × Other n gone (x v) from r
  unfolding links
  other =
      ⊎_elim
      (λ r. (r.0, record { below = r.1; still = there_of (has gone r.0) (x v r.0) r.2.0; units = units_of (has gone r.0) (x v r.0) r.2.0; new = r.2.1 }))
      (λ h. absurd (few (sum_one n (λ j. there gone j * positive (x v j)) (λ i l. small (has gone i) (x v i)) (alone h)) two))
      (seek n Good good_dec)
    where
      few : {a : ℕ} → a ≤ 1 → 2 ≤ a → ⊥
      few p q = omega arith

      alone : ((i : ℕ) → i < n → Good i → ⊥) → (i l : ℕ) → i < l → l < n → 0 < there gone i * positive (x v i) → 0 < there gone l * positive (x v l) → ⊥
      alone h i l a b p q =
          elim (ℕ_discrete i from) [
            | yes e ↦ h l b (q, λ f. past a (e ∙ sym f))
            | no ne ↦ h i (omega arith) (p, ne)
          ]
        where
          past : i < l → i ≡ l → ⊥
          past p q = omega arith

module _ (n m : ℕ) (x : ℕ → ℕ → ℕ) (g h : ℕ) (fast : Fast n m x g h) where
  -- the places from lo to k of a way, closed by core c
  module _ (task core : ℕ → ℕ) (k c lo : ℕ) (w : Way n m x g h task core k) (below : c < m) (units : 0 < x (task k) c)
      (l : lo < k) (first : 0 < x (task lo) c) (differ : (i : ℕ) → lo ≤ i → i < k → core i ≡ c → ⊥) where
    new : ℕ → ℕ
    new i = put k c core i

    new_last : new k ≡ c
    unfolding new
    new_last = put_same k c core

    new_before : (i : ℕ) → i < k → new i ≡ core i
    unfolding new
    new_before i p = put_other k c core i (λ e. past p e)
      where
        past : i < k → i ≡ k → ⊥
        past p q = omega arith

    size : ℕ
    size = suc (k - lo)

    closing : Cycle n m x
    unfolding size
    closing =
        record {
          k = suc (k - lo);
          task = λ i. task (lo + i);
          core = λ i. new (lo + i);
          two = omega arith;
          tasks_below = λ i p. w.tasks_below (lo + i) (omega arith);
          cores_below = λ i p. elim (ℕ_discrete (lo + i) k) [ yes e ↦ subst (λ (v : ℕ). v < m) (sym (ap new e ∙ new_last)) below | no ne ↦ subst (λ (v : ℕ). v < m) (sym (new_before (lo + i) (omega arith))) (w.cores_below (lo + i) (omega arith)) ];
          tasks_differ = λ i j p q. w.tasks_differ (lo + i) (lo + j) (omega arith) (omega arith);
          cores_differ = λ i j p q e.
              elim (ℕ_discrete (lo + j) k) [
                | yes f ↦ differ (lo + i) (omega arith) (omega arith) (sym (new_before (lo + i) (omega arith)) ∙ e ∙ ap new f ∙ new_last)
                | no ne ↦ w.cores_differ (lo + i) (lo + j) (omega arith) (omega arith) (sym (new_before (lo + i) (omega arith)) ∙ e ∙ new_before (lo + j) (omega arith))
              ];
          along = λ i p. along_at (lo + i) (omega arith);
          across = λ i p. across_at (lo + suc i) (lo + i) (omega arith) (omega arith);
          closed = closed_at (lo + 0) (lo + (suc (k - lo) - 1)) (omega arith) (omega arith);
        }
      where
        along_at : (i : ℕ) → i ≤ k → 0 < x (task i) (new i)
        along_at i p =
            elim (ℕ_discrete i k) [
              | yes e ↦ subst (λ (j : ℕ). 0 < x (task j) (new j)) (sym e) (subst (λ (v : ℕ). 0 < x (task k) v) (sym new_last) units)
              | no ne ↦ subst (λ (v : ℕ). 0 < x (task i) v) (sym (new_before i (omega arith))) (w.along i (omega arith))
            ]

        across_at : (j i : ℕ) → j ≡ suc i → i < k → 0 < x (task j) (new i)
        across_at j i e p = subst (λ (t : ℕ). 0 < x (task t) (new i)) (sym e) (subst (λ (v : ℕ). 0 < x (task (suc i)) v) (sym (new_before i p)) (w.across i p))

        closed_at : (j i : ℕ) → j ≡ lo → i ≡ k → 0 < x (task j) (new i)
        closed_at j i e f = subst (λ (t : ℕ). 0 < x (task t) (new i)) (sym e) (subst (λ (v : ℕ). 0 < x (task lo) v) (sym (ap new f ∙ new_last)) first)

  abbrev Last : (ℕ → ℕ) → ℕ → ℕ → Type 0
  Last core k from = (i : ℕ) → suc i ≡ k → from ≡ core i

  last_of : (core : ℕ → ℕ) (k : ℕ) → (from : ℕ) × Last core k from
  last_of core zero = (0, λ i e. absurd (no_suc e))
    where
      no_suc : {i : ℕ} → suc i ≡ 0 → ⊥
      no_suc e = omega arith
  last_of core (suc k) = (core k, λ i e. ap core (same e))
    where
      same : {i : ℕ} → suc i ≡ suc k → k ≡ i
      same e = omega arith

  module _ (task core : ℕ → ℕ) (k from c : ℕ) (w : Way n m x g h task core k) (came : Last core k from) (o : Other m h (x (task k)) from c) where
    met_core : (a : ℕ) → a < k → core a ≡ c → Cycle n m x
    met_core a l e =
        closing task core k c (suc a) w o.below o.units (further (λ f. o.new (sym e ∙ sym (came a f))))
        (subst (λ (v : ℕ). 0 < x (task (suc a)) v) e (w.across a l))
        (λ i p q f. w.cores_differ a i (omega arith) q (e ∙ sym f))
      where
        further : (suc a ≡ k → ⊥) → suc a < k
        further q = omega arith

    module _ (fresh : (i : ℕ) → i < k → core i ≡ c → ⊥) (u : ℕ) (q : Other n g (λ i. x i c) (task k) u) where
      met_task : (b : ℕ) → b < suc k → task b ≡ u → Cycle n m x
      met_task b l e =
          closing task core k c b w o.below o.units (before (λ f. q.new (sym e ∙ ap task f)))
          (subst (λ (v : ℕ). 0 < x v c) (sym e) q.units)
          (λ i p r f. fresh i r f)
        where
          before : (b ≡ k → ⊥) → b < k
          before r = omega arith

      goes_on : ((i : ℕ) → i < suc k → task i ≡ u → ⊥) → Way n m x g h (put (k + 1) u task) (put k c core) (k + 1)
      goes_on new-task =
          way_more n m x g h task core (put k c core) k c from w o came (λ i l. put_other k c core i (λ e. past l e)) (put_same k c core)
          (put (k + 1) u task) u k (k + 1) (record { within = omega arith; before = fresh; found = λ l. absurd (self l) }) (omega arith) q
          (record { within = omega arith; before = λ i l. new-task i (omega arith); found = λ l. absurd (self l) }) (omega arith)
          (λ i l. put_other (k + 1) u task i (λ e. past l e)) (put_same (k + 1) u task)
        where
          past : {a b : ℕ} → a < b → a ≡ b → ⊥
          past p r = omega arith

          self : {a : ℕ} → a < a → ⊥
          self p = omega arith

  -- the way goes on for at most as many steps as there are cores
  walk : (fuel : ℕ) (task core : ℕ → ℕ) (k : ℕ) → Way n m x g h task core k → m < k + fuel → Cycle n m x
  walk zero task core k w short = absurd (over (way_short n m x g h task core k w) short)
    where
      over : k ≤ m → m < k + 0 → ⊥
      over p q = omega arith
  walk (suc fuel) task core k w short =
      let from = last_of core k in
      let o = other m h x (task k) from.0 (fast.tasks_fast (task k) (w.tasks_below k (omega arith)) (w.tasks_there k (omega arith))) in
      let u = other n g (λ j i. x i j) o.0 (task k) (fast.cores_fast o.0 o.1.below o.1.still) in
      ⊎_elim
      (λ s. met_core task core k from.0 o.0 w from.1 o.1 s.0 s.1 s.2)
      (λ fresh.
      ⊎_elim
      (λ s. met_task task core k from.0 o.0 w from.1 o.1 fresh u.0 u.1 s.0 s.1 s.2)
      (λ new-task. walk fuel (put (k + 1) u.0 task) (put k o.0 core) (k + 1) (goes_on task core k from.0 o.0 w from.1 o.1 fresh u.0 u.1 new-task) (omega arith))
      (seek (suc k) (λ i. task i ≡ u.0) (λ i. ℕ_discrete (task i) u.0)))
      (seek k (λ i. core i ≡ o.0) (λ i. ℕ_discrete (core i) o.0))

  pub fast_has_cycle : (t : ℕ) → t < n → has g t ≡ 0 → Cycle n m x
  fast_has_cycle t l z = walk (suc m) (λ i. t) (λ i. 0) 0 (way_begins n m x g h (λ i. t) (λ i. 0) t l z refl) (omega arith)

-- one vertex after another goes while one is loose
module _ (n m : ℕ) (x : ℕ → ℕ → ℕ) where
  abbrev LooseAt : ℕ → (ℕ → ℕ) → ℕ → Type 0
  LooseAt gone count i = (has gone i ≡ 0) × (count i ≤ 1)

  loose_dec : (gone : ℕ) (count : ℕ → ℕ) (i : ℕ) → Dec (LooseAt gone count i)
  loose_dec gone count i =
      elim (ℕ_discrete (has gone i) 0) [
        | yes z ↦ elim (dec_le (count i) 1) [ yes p ↦ yes (z, p) | no np ↦ no (λ q. np q.1) ]
        | no nz ↦ no (λ q. nz q.0)
      ]

  two_of : (gone : ℕ) (count : ℕ → ℕ) (k : ℕ) → ((i : ℕ) → i < k → LooseAt gone count i → ⊥) → (i : ℕ) → i < k → has gone i ≡ 0 → 2 ≤ count i
  two_of gone count k h i l z = elim (dec_le (count i) 1) [ yes p ↦ absurd (h i l (z, p)) | no np ↦ above np ]
    where
      above : {a : ℕ} → (a ≤ 1 → ⊥) → 2 ≤ a
      above np = omega arith

  -- nothing is loose: then all is gone, or a way from what is left meets itself
  settled : (g h : ℕ) → Stripping n m x g h → Fast n m x g h → Peeled n m x ⊎ Cycle n m x
  settled g h s f =
      ⊎_elim
      (λ r. inr (fast_has_cycle n m x g h f r.0 r.1 r.2))
      (λ none. inl (all_gone n m x g h n s f (record { within = omega arith; still = λ l. absurd (self l); before = λ i l. one (has_lt g i) (none i l) }) (omega arith)))
      (seek n (λ i. has g i ≡ 0) (λ i. ℕ_discrete (has g i) 0))
    where
      self : {a : ℕ} → a < a → ⊥
      self p = omega arith

      one : {v : ℕ} → v < 2 → (v ≡ 0 → ⊥) → v ≡ 1
      one p q = omega arith

  apart : (fuel g h : ℕ) → Stripping n m x g h → sum_to n (there g) + sum_to m (there h) < fuel → Peeled n m x ⊎ Cycle n m x
  apart zero g h s l = absurd (none l)
    where
      none : {a : ℕ} → a < 0 → ⊥
      none l = omega arith
  apart (suc fuel) g h s l =
      ⊎_elim
      (λ t. apart fuel (bit_or g (2 ^ t.0)) h (strip_task n m x g h t.0 s t.1 t.2.0 t.2.1) (omega (arith, fewer_there n g t.0 t.1 t.2.0)))
      (λ no-task.
      ⊎_elim
      (λ c. apart fuel g (bit_or h (2 ^ c.0)) (strip_core n m x g h c.0 s c.1 c.2.0 c.2.1) (omega (arith, fewer_there m h c.0 c.1 c.2.0)))
      (λ no_core. settled g h s (record { tasks_fast = two_of g (links m h x) n no-task; cores_fast = two_of h (links n g (λ j i. x i j)) m no_core }))
      (seek m (LooseAt h (links n g (λ j i. x i j))) (loose_dec h (links n g (λ j i. x i j)))))
      (seek n (LooseAt g (links m h x)) (loose_dec g (links m h x)))

  pub apart_or_cycle : Peeled n m x ⊎ Cycle n m x
  apart_or_cycle = apart (suc (sum_to n (there 0) + sum_to m (there 0))) 0 0 (strip_none n m x) (omega arith)

  pub loop_free_comes_apart : LoopFree n m x → Peeled n m x
  loop_free_comes_apart free = ⊎_elim (λ p. p) (λ c. absurd (free c)) apart_or_cycle
