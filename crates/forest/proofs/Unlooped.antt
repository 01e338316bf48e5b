-- Each allocation has a loop-free one with the same sums: cycle after cycle goes.
-- Assumes nothing.
use mathlib.Core.Path.{◌≡◌, refl, sym, ◌∙◌, ap, subst}
use mathlib.Core.Logic.{⊎_elim}
use Prim.Native.Nat.{ℕ, zero, suc, ◌+◌, ◌-◌, ◌≤◌, ◌<◌}
use native.Mathlib.Decide.{ℕ_discrete}
use native.Mathlib.Numerals.{add-one}
use native.Mathlib.Omega.{arith}
use borrow.Author.Tests.{ne_eqb}
use Rattle.rules.specs.Sum.{put}
use Rattle.rules.specs.Allocation.{Allocation}
use Rattle.rules.specs.Loops.{Cycle, LoopFree}
use Rattle.sums.proofs.Sum.{put_same, put_other}
use Rattle.forest.specs.Peeled.{Peeled}
use Rattle.forest.specs.Ring.{Moved, prior, Ring, Least, Shifted, Kept, edges}
use Rattle.forest.proofs.Forest.{least_at, peeled_has_no_loop}
use Rattle.forest.proofs.Shifting.{shifted_none, shifted_more, shifted_kept, shifted_edges, kept_none, kept_more}
use Rattle.forest.proofs.Apart.{apart_or_cycle}

-- a literal cycle, as the shifts want it
pub cycle_is_ring : {n m : ℕ} {x : ℕ → ℕ → ℕ} (c : Cycle n m x) → Ring n m x c.task c.core 0 c.k
cycle_is_ring {x = x} c =
    record {
      two = omega (arith, c.two);
      tasks_below = λ i a b. c.tasks_below i b;
      cores_below = λ i a b. c.cores_below i b;
      along = λ i a b. c.along i b;
      back = λ i a b. back_at i b;
      turns = λ i a b. turns_at i b;
      tasks_differ = λ i l a b d. c.tasks_differ i l b d;
    }
  where
    one : (i : ℕ) → suc i - 1 ≡ i
    one i = omega arith

    after : (i : ℕ) → prior c.core 0 c.k (suc i) ≡ c.core i
    after i = rw (ne_eqb (suc i) 0 (λ e. no_suc e)) (ap c.core (one i))
      where
        no_suc : {i : ℕ} → suc i ≡ 0 → ⊥
        no_suc e = omega arith

    back_at : (i : ℕ) → i < c.k → 0 < x (c.task i) (prior c.core 0 c.k i)
    back_at zero b = c.closed
    back_at (suc i) b = subst (λ (v : ℕ). 0 < x (c.task (suc i)) v) (sym (after i)) (c.across i b)

    turns_at : (i : ℕ) → i < c.k → c.core i ≡ prior c.core 0 c.k i → ⊥
    turns_at zero b e = c.cores_differ 0 (c.k - 1) (omega (arith, c.two)) (omega (arith, c.two)) e
    turns_at (suc i) b e = c.cores_differ i (suc i) (omega arith) b (sym (e ∙ after i))

-- d units of task t from one core to another
move : (ℕ → ℕ → ℕ) → ℕ → ℕ → ℕ → ℕ → ℕ → ℕ → ℕ
move y t from to d i = elim (ℕ_discrete i t) [ yes e ↦ put to (y t to + d) (put from (y t from - d) (y t)) | no ne ↦ y i ]

module _ (y : ℕ → ℕ → ℕ) (t from to d : ℕ) (differ : from ≡ to → ⊥) (enough : d ≤ y t from) where
  move_own : (i : ℕ) → i ≡ t → move y t from to d i ≡ put to (y t to + d) (put from (y t from - d) (y t))
  unfolding move
  move_own i e = own (ℕ_discrete i t)
    where
      own : (q : Dec (i ≡ t)) → (elim q as (λ r. ℕ → ℕ) [ yes e ↦ put to (y t to + d) (put from (y t from - d) (y t)) | no ne ↦ y i ]) ≡ put to (y t to + d) (put from (y t from - d) (y t))
      own (yes f) = refl
      own (no ne) = absurd (ne e)

  move_other : (i : ℕ) → (i ≡ t → ⊥) → move y t from to d i ≡ y i
  unfolding move
  move_other i ne = rest (ℕ_discrete i t)
    where
      rest : (q : Dec (i ≡ t)) → (elim q as (λ r. ℕ → ℕ) [ yes e ↦ put to (y t to + d) (put from (y t from - d) (y t)) | no ne ↦ y i ]) ≡ y i
      rest (yes e) = absurd (ne e)
      rest (no f) = refl

  moved : Moved y (move y t from to d) t from to d
  moved =
      record {
        differ = differ;
        others = λ i ne j l. ap (λ (f : ℕ → ℕ). f j) (move_other i ne);
        rest = λ j l nf nt.
            ap (λ (f : ℕ → ℕ). f j) (move_own t refl) ∙ put_other to (y t to + d) (put from (y t from - d) (y t)) j nt ∙
            put_other from (y t from - d) (y t) j nf;
        less = taken (ap (λ (f : ℕ → ℕ). f from) (move_own t refl) ∙ put_other to (y t to + d) (put from (y t from - d) (y t)) from differ ∙ put_same from (y t from - d) (y t));
        more = ap (λ (f : ℕ → ℕ). f to) (move_own t refl) ∙ put_same to (y t to + d) (put from (y t from - d) (y t));
      }
    where
      taken : {v : ℕ} → v ≡ y t from - d → v + d ≡ y t from
      taken e = omega arith

module _ (n m : ℕ) (wide : m ≤ 16) (x : ℕ → ℕ → ℕ) (task core : ℕ → ℕ) (hi : ℕ) (ring : Ring n m x task core 0 hi) where
  least : (d : ℕ) × Least x task core 0 hi d
  least =
      let r = least_at hi (λ i. x (task i) (core i)) (omega (arith, ring.two)) in
      (x (task r.0) (core r.0), record { at_most = λ i a b. r.2 i b; place = r.0; from_lo = omega arith; to_hi = r.1; met = refl })

  module _ (d : ℕ) (at : Least x task core 0 hi d) where
    shifts : (i : ℕ) → i ≤ hi → (y : ℕ → ℕ → ℕ) × Shifted n m x y task core 0 hi d i
    shifts zero l = (x, shifted_none n m wide x task core 0 hi d ring)
    shifts (suc i) l =
        let s = shifts i (omega arith) in
        let y = s.0 in
        let to = prior core 0 hi i in
        let z = move y (task i) (core i) to d in (
          z,
          subst (λ (k : ℕ). Shifted n m x z task core 0 hi d k) (add-one i)
              (shifted_more n m wide x task core 0 hi d ring y z i (omega arith) l s.1
              (moved y (task i) (core i) to d (ring.turns i (omega arith) l)
              (subst (λ (v : ℕ). d ≤ v) (sym (s.1.untouched i (omega arith) l (core i) (omega (arith, ring.cores_below i (omega arith) l)))) (at.at_most i (omega arith) l)))),
        )

-- cycle after cycle goes, as long as there are edges for it
module _ (n m : ℕ) (wide : m ≤ 16) where
  remove : (fuel : ℕ) (x : ℕ → ℕ → ℕ) → edges n m x < fuel → (y : ℕ → ℕ → ℕ) × Kept n m x y × Peeled n m y
  remove zero x l = absurd (none l)
    where
      none : {a : ℕ} → a < 0 → ⊥
      none l = omega arith
  remove (suc fuel) x l =
      ⊎_elim
      (λ p. (x, kept_none n m x, p))
      (λ c.
      let ring = cycle_is_ring c in
      let d = least n m wide x c.task c.core c.k ring in
      let s = shifts n m wide x c.task c.core c.k ring d.0 d.1 c.k (omega arith) in
      let kept = shifted_kept n m wide x c.task c.core 0 c.k d.0 ring s.0 s.1 in
      let r = remove fuel s.0 (omega (arith, shifted_edges n m wide x c.task c.core 0 c.k d.0 ring s.0 s.1 d.1)) in
      (r.0, kept_more n m x s.0 r.0 kept r.1, r.2))
      (apart_or_cycle n m x)

-- the same sums without new edges are an allocation again
pub kept_allocation : {n m : ℕ} {limit budget mask : ℕ → ℕ} {x y : ℕ → ℕ → ℕ} → Allocation n m limit budget mask x → Kept n m x y
    → Allocation n m limit budget mask y
kept_allocation {limit = limit} a k =
    record {
      inside = λ i l j p z. none (λ q. above (k.fewer i l j p q) (a.inside i l j p z));
      exact = λ i l. k.rows i l ∙ a.exact i l;
      within = λ j l. subst (λ (v : ℕ). v ≤ limit j) (sym (k.columns j l)) (a.within j l);
    }
  where
    none : {u : ℕ} → (0 < u → ⊥) → u ≡ 0
    none h = omega arith

    above : {u : ℕ} → 0 < u → u ≡ 0 → ⊥
    above p q = omega arith

pub allocation_without_loops : {n m : ℕ} {limit budget mask : ℕ → ℕ} {x : ℕ → ℕ → ℕ} → m ≤ 16 → Allocation n m limit budget mask x
    → (y : ℕ → ℕ → ℕ) × Allocation n m limit budget mask y × LoopFree n m y
allocation_without_loops {n} {m} {x = x} wide a =
    let r = remove n m wide (suc (edges n m x)) x (omega arith) in
    (r.0, kept_allocation a r.1, peeled_has_no_loop r.2)
