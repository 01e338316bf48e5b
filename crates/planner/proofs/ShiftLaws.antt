-- For least and shift of shift.rt: the least amount is sought, and shifted round the cycle.
-- Assumes nothing.
use mathlib.Core.Path.{◌≡◌, sym, ◌∙◌, subst}
use Prim.Native.Nat.{ℕ, min, ◌+◌, ◌-◌, ◌^◌, ◌≤◌, ◌<◌}
use native.Mathlib.Nat.{le_antisymm}
use native.Mathlib.Decide.{ℕ_discrete}
use native.Mathlib.Omega.{arith}
use borrow.Author.Tests.{eq-eqb, ne_eqb}
use Rattle.sums.proofs.Sum.{sum_two}
use Rattle.forest.specs.Ring.{Moved, prior, Least, Shifted, Kept, edges}
use Rattle.rules.specs.Plan.{at}
use Rattle.planner.specs.Shifts.{ShiftReady}
use Rattle.planner.specs.declared.cycle.Cycle.{Cycle}
use Rattle.forest.proofs.Shifting.{shifted_more, shifted_kept, shifted_edges}

module _ (x : ℕ → ℕ → ℕ) (task core : ℕ → ℕ) (lo : ℕ) where
  pub least_more : (i d e r : ℕ) → lo + 1 ≤ i → Least x task core lo i d → e ≡ x (task i) (core i) → r ≡ min d e
      → Least x task core lo (i + 1) r
  least_more i d e r l s f g =
      elim (ℕ_discrete r d) [
        | yes p ↦
            record {
              at_most = below;
              place = s.place;
              from_lo = s.from_lo;
              to_hi = omega (arith, s.to_hi);
              met = s.met ∙ sym p;
            }
        | no p ↦ record { at_most = below; place = i; from_lo = omega arith; to_hi = omega arith; met = sym f ∙ sym (other g p) }
      ]
    where
      below : (k : ℕ) → lo ≤ k → k < i + 1 → r ≤ x (task k) (core k)
      below k a b =
          elim (ℕ_discrete k i) [
            | yes p ↦ subst (λ (j : ℕ). r ≤ x (task j) (core j)) (sym p) (omega (arith, f))
            | no p ↦ omega (arith, s.at_most k a (omega arith))
          ]

      other : {r d e : ℕ} → r ≡ min d e → (r ≡ d → ⊥) → r ≡ e
      other g p = omega arith

module _ (n m : ℕ) (x : ℕ → ℕ → ℕ) (c : Cycle) (d : ℕ) (r : ShiftReady n m x c d) where
  module _ (i : ℕ) (a : c.lo ≤ i) (b : i < c.hi) where
    prior_small : prior (at c.cores) c.lo c.hi i < m
    prior_small =
        elim (ℕ_discrete i c.lo) [
          | yes e ↦ rw (eq-eqb i c.lo e) (r.ring.cores_below (c.hi - 1) (omega (arith, r.ring.two)) (omega (arith, r.ring.two)))
          | no ne ↦ rw (ne_eqb i c.lo ne) (r.ring.cores_below (i - 1) (omega arith) (omega arith))
        ]

    module _ (y : ℕ → ℕ → ℕ) (s : Shifted n m x y (at c.tasks) (at c.cores) c.lo c.hi d i) where
      pub shift_task : at c.tasks i < 64
      shift_task = omega (arith, r.ring.tasks_below i a b, r.sound.tasks)

      pub shift_core : at c.cores i < 16
      shift_core = omega (arith, r.ring.cores_below i a b, r.sound.cores)

      pub shift_enough : d ≤ y (at c.tasks i) (at c.cores i)
      shift_enough = omega (arith, s.untouched i (omega arith) b (at c.cores i) shift_core, r.least.at_most i a b)

      pub shift_to : (to : ℕ) → to ≡ prior (at c.cores) c.lo c.hi i → to < 16
      shift_to to e = omega (arith, prior_small, r.sound.cores)

      pub shift_differ : (to : ℕ) → to ≡ prior (at c.cores) c.lo c.hi i → at c.cores i ≡ to → ⊥
      shift_differ to e f = r.ring.turns i a b (f ∙ e)

      pub shift_fits : (to : ℕ) → to ≡ prior (at c.cores) c.lo c.hi i → y (at c.tasks i) to + d < 2 ^ 32
      shift_fits to e =
          omega
          (arith, sum_two m (at c.cores i) to (y (at c.tasks i)) (r.ring.cores_below i a b) (subst (λ (k : ℕ). k < m) (sym e) prior_small) (shift_differ to e), shift_enough, s.rows (at c.tasks i) (r.ring.tasks_below i a b), r.sound.small (at c.tasks i) (r.ring.tasks_below i a b))

      pub shift_again : (z : ℕ → ℕ → ℕ) (to : ℕ) → to ≡ prior (at c.cores) c.lo c.hi i → Moved y z (at c.tasks i) (at c.cores i) to d → Shifted n m x z (at c.tasks) (at c.cores) c.lo c.hi d (i + 1)
      shift_again z to e mv =
          shifted_more n m r.sound.cores x (at c.tasks) (at c.cores) c.lo c.hi d r.ring y z i a b s (subst (λ (k : ℕ). Moved y z (at c.tasks i) (at c.cores i) k d) e mv)

  module _ (i : ℕ) (y : ℕ → ℕ → ℕ) (s : Shifted n m x y (at c.tasks) (at c.cores) c.lo c.hi d i) (a : i ≤ c.hi) (b : c.hi ≤ i) where
    at_end : Shifted n m x y (at c.tasks) (at c.cores) c.lo c.hi d c.hi
    at_end = subst (λ (k : ℕ). Shifted n m x y (at c.tasks) (at c.cores) c.lo c.hi d k) (le_antisymm a b) s

    pub shift_keeps : Kept n m x y
    shift_keeps = shifted_kept n m r.sound.cores x (at c.tasks) (at c.cores) c.lo c.hi d r.ring y at_end

    pub shift_fewer : edges n m y < edges n m x
    shift_fewer = shifted_edges n m r.sound.cores x (at c.tasks) (at c.cores) c.lo c.hi d r.ring y at_end r.least
