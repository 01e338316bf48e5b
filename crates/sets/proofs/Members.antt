-- A number past the width is no member and adds nothing; one within it is added.
-- Assumes nothing.
use mathlib.Core.Path.{◌≡◌, refl, sym, ◌∙◌}
use Prim.Native.Nat.{ℕ, zero, suc, ◌*◌, ◌%◌, ◌^◌, ◌≤◌, ◌<◌}
use native.Mathlib.Omega.{arith}
use lib.Bits.{bit_or}
use borrow.Author.Tests.{lt-ltb, le-ltb}
use Rattle.std.proofs.Common.{cond, nat_eq, bit_and, ◌/◌}
use Rattle.rules.specs.Sets.{has}
use Rattle.sums.proofs.Sets.{has_above, bit_has, bit_with}
use Rattle.sets.specs.Joined.{joined}

pub none_past : (w s i : ℕ) → s < 2 ^ w → w ≤ i → 0 ≡ has s i
none_past w s i h l = sym (has_above w h l)

-- a number below 2 is what its test for 1 says
bit_test : (k : ℕ) → k < 2 → cond (nat_eq k 1) 1 0 ≡ k
bit_test zero h = refl
bit_test (suc zero) h = refl
bit_test (suc (suc k)) h = absurd (omega arith)

pub has_by : (s i : ℕ) → cond (nat_eq (bit_and (s / 2 ^ i) 1) 1) 1 0 ≡ has s i
has_by s i = bit_test _ (bit_has s i).1 ∙ (bit_has s i).0

pub joined_in : (w s i : ℕ) → i < w → joined w s i ≡ bit_or s (2 ^ i)
unfolding joined
joined_in w s i l = rw (lt-ltb i w l)

pub joined_past : (w s i : ℕ) → w ≤ i → s ≡ joined w s i
unfolding joined
joined_past w s i l = rw (le-ltb i w l)

pub joined_by : (w s i : ℕ) → i < w → bit_or s ((1 * 2 ^ i) % 2 ^ w) ≡ joined w s i
joined_by w s i l = bit_with w s i l ∙ sym (joined_in w s i l)
