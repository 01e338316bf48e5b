-- Small facts on the order of numbers that proofs of any crate want, where the library has none.
-- Assumes nothing.
use mathlib.Core.Path.{◌≡◌, refl}
use Prim.Native.Nat.{ℕ, zero, suc, ◌+◌, ◌<◌}
use native.Mathlib.Nat.{not-suc-le-zero}
use native.Mathlib.Omega.{arith}

pub zero_of : {a : ℕ} → (0 < a → ⊥) → a ≡ 0
zero_of s = omega arith

pub pred_of : (a : ℕ) → 0 < a → (b : ℕ) × (a ≡ suc b)
pred_of zero h = absurd (not-suc-le-zero h)
pred_of (suc b) h = (b, refl)

pub zero_not_one : {a : ℕ} → a ≡ 0 → a ≡ 1 → ⊥
zero_not_one e f = omega arith

pub zero_not_positive : {a : ℕ} → a ≡ 0 → 0 < a → ⊥
zero_not_positive e l = omega arith

-- a number up to n + 1 that is not n
pub before_last : {k n : ℕ} → k < n + 1 → (k ≡ n → ⊥) → k < n
before_last l ne = omega arith
