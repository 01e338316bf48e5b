-- Laws on the test of one mask: how its lowest missing core is found.
-- Assumes nothing.
use mathlib.Core.Path.{◌≡◌, refl, sym, ◌∙◌, ap}
use mathlib.Core.Bool.{cond}
use Prim.Native.Nat.{ℕ, ◌+◌, ◌-◌, ◌/◌, ◌%◌, ◌^◌, ◌<◌}
use native.Mathlib.Decide.{dec_lt}
use native.Mathlib.Omega.{arith}
use borrow.Author.Tests.{lt-ltb, le-ltb}
use lib.Count.{count_trailing_zeros}
use lib.Dec.{ltb}
use lib.Pow.{shr-shr}
use mir.Syntax.{w32}
use Rattle.std.proofs.lemmas.Nat.Bits.{bit_at-trailing_zeros}
use Rattle.rules.specs.Sets.{has}
use Rattle.rules.specs.Tests.{lowest_missing}
use Rattle.sums.proofs.Sets.{has_below}
use Rattle.sums.proofs.Lowest.{lowest_past, lowest_found}

-- 1 for a missing core of the mask, else 0: its lowest is sought
abbrev pub missing : ℕ → ℕ → ℕ → ℕ
missing m mask j = cond (ltb j m) 0 (has mask j)

module _ (m mask : ℕ) where
  has_past : (k : ℕ) → has mask (m + k) ≡ mask / 2 ^ m / 2 ^ k % 2
  unfolding has
  has_past k = ap (λ (n : ℕ). n % 2) (sym (shr-shr mask m k))

  module _ (k : ℕ) (here : mask / 2 ^ m / 2 ^ k % 2 ≡ 1) (before : (i : ℕ) → i < k → mask / 2 ^ m / 2 ^ i % 2 ≡ 0) where
    found : missing m mask (m + k) ≡ 1
    found = rw (le-ltb (m + k) m (omega arith)) (has_past k ∙ here)

    below : (j : ℕ) → j < m + k → missing m mask j ≡ 0
    below j l =
        elim (dec_lt j m) [
          | yes s ↦ rw (lt-ltb j m s) refl
          | no g ↦ rw (le-ltb j m (omega arith)) (ap (has mask) (split g) ∙ has_past (j - m) ∙ before (j - m) (omega arith))
        ]
      where
        split : (j < m → ⊥) → j ≡ m + (j - m)
        split g = omega arith

    lowest_here : mask < 2 ^ 16 → m + k ≡ lowest_missing m mask
    unfolding lowest_missing
    lowest_here wide =
        lowest_found (missing m mask) 16 (m + k) (has_below 16 wide (has_past k ∙ here)) (lowest_past (missing m mask) (m + k) below) (omega (arith, found))

-- what is left after a shift by m ends in as many zeros as the lowest missing core is above m
pub lowest_by_zeros : (m mask : ℕ) → mask < 2 ^ 16 → (mask / 2 ^ m ≡ 0 → ⊥) → m + count_trailing_zeros 32 (mask / 2 ^ m) ≡ lowest_missing m mask
lowest_by_zeros m mask wide some =
    let z = bit_at-trailing_zeros w32 (mask / 2 ^ m) (omega arith) (omega arith) in lowest_here m mask (count_trailing_zeros 32 (mask / 2 ^ m)) z.1 z.2 wide
