-- A test that antt computes at every number below a bound, and what it says at each.
-- Assumes nothing.
use mathlib.Core.Path.{subst, sym}
use mathlib.Core.Bool.{Bool, true, false, ◌&&◌}
use Prim.Native.Nat.{ℕ, zero, suc, ◌<◌}
use native.Mathlib.Nat.{not-suc-le-zero}
use native.Mathlib.Decide.{ℕ_discrete}
use native.Mathlib.Omega.{arith}
use lib.Dec.{T}

-- the test passes at each number below n
abbrev pub all_below : ℕ → (ℕ → Bool) → Bool
all_below zero p = true
all_below (suc n) p = all_below n p && p n

pub and_left : (a b : Bool) → T (a && b) → T a
and_left true b t = tt
and_left false b t = t

pub and_right : (a b : Bool) → T (a && b) → T b
and_right true b t = t
and_right false b t = absurd t

pub each_below : (n : ℕ) (p : ℕ → Bool) → T (all_below n p) → (k : ℕ) → k < n → T (p k)
each_below zero p t k h = absurd (not-suc-le-zero h)
each_below (suc n) p t k h =
    elim (ℕ_discrete k n) [
      | yes e ↦ subst (λ (i : ℕ). T (p i)) (sym e) (and_right (all_below n p) (p n) t)
      | no ne ↦ each_below n p (and_left (all_below n p) (p n) t) k (omega arith)
    ]

both : (a b : Bool) → T a → T b → T (a && b)
both true b p q = q
both false b p q = p

pub below_each : (n : ℕ) (p : ℕ → Bool) → ((k : ℕ) → k < n → T (p k)) → T (all_below n p)
below_each zero p h = tt
below_each (suc n) p h = both (all_below n p) (p n) (below_each n p (λ k l. h k (omega arith))) (h n (omega arith))
