-- For other of side.rt and for cycle.rt: the next vertex of a way is sought.
-- Assumes nothing.
use mathlib.Core.Path.{◌≡◌, sym, ◌∙◌, ap}
use Prim.Native.Nat.{ℕ, zero, suc, ◌-◌, ◌*◌, ◌≤◌, ◌<◌}
use native.Mathlib.Decide.{ℕ_discrete}
use native.Mathlib.Omega.{arith}
use Rattle.std.specs.Prelude.{Option, Some, None}
use Rattle.std.specs.Option.{unwrap_or}
use Rattle.rules.specs.Sum.{sum_to, positive}
use Rattle.rules.specs.Sets.{has}
use Rattle.forest.specs.Stripping.{there}
use Rattle.forest.specs.Path.{Other}
use Rattle.planner.specs.Sides.{OtherThan}
use Rattle.sums.proofs.Pigeon.{sum_one}

module _ (f : ℕ → ℕ) (gone : ℕ) (from : Option ℕ) where
  -- below j there is no neighbour but the one we came from
  abbrev pub NoneBelow : ℕ → Type 0
  NoneBelow j = (k : ℕ) → k < j → (from ≡ Some k → ⊥) → there gone k * positive (f k) ≡ 0

  -- two links leave a neighbour that is not the one we came from
  pub other_none : (m j : ℕ) → NoneBelow j → m ≤ j → 2 ≤ sum_to m (λ k. there gone k * positive (f k)) → ⊥
  other_none m j h l two = few (sum_one m (λ k. there gone k * positive (f k)) small alone) two
    where
      few : {a : ℕ} → a ≤ 1 → 2 ≤ a → ⊥
      few p q = omega arith

      small : (k : ℕ) → k < m → there gone k * positive (f k) ≤ 1
      small k a = at_most (has gone k) (f k)
        where
          at_most : (u v : ℕ) → (1 - u) * positive v ≤ 1
          at_most u zero = omega arith
          at_most u (suc v) = omega arith

      zero_not : {u : ℕ} → u ≡ 0 → 0 < u → ⊥
      zero_not p q = omega arith

      -- the number of the one we came from, or m
      named : (k : ℕ) → from ≡ Some k → unwrap_or from m ≡ k
      named k e = ap (λ (o : Option ℕ). unwrap_or o m) e

      alone : (k c : ℕ) → k < c → c < m → 0 < there gone k * positive (f k) → 0 < there gone c * positive (f c) → ⊥
      alone k c a b p q =
          elim (ℕ_discrete (unwrap_or from m) k) [
            | yes e ↦ zero_not (h c (omega arith) (λ z. past a (sym e ∙ named c z))) q
            | no ne ↦ zero_not (h k (omega arith) (λ z. ne (named k z))) p
          ]
        where
          past : k < c → k ≡ c → ⊥
          past p q = omega arith

-- the neighbour as the forest's laws have it, where none is m
pub other_named : (o : Option ℕ) (m gone : ℕ) (f : ℕ → ℕ) (r : ℕ) → OtherThan o m gone f r → Other m gone f (unwrap_or o m) r
other_named o m gone f r s = record { below = s.below; still = s.still; units = s.units; new = differ o s.new }
  where
    past : r < m → r ≡ m → ⊥
    past p q = omega arith

    differ : (o : Option ℕ) → (o ≡ Some r → ⊥) → r ≡ unwrap_or o m → ⊥
    differ None n e = past s.below e
    differ (Some k) n e = n (ap (λ (v : ℕ). Some v) (sym e))
