-- Any two answers that a contract of this crate allows are equal.
-- Assumes nothing.
use mathlib.Core.Path.{◌≡◌, refl, sym, ◌∙◌}
use mathlib.Core.Bool.{Bool, true, false}
use Prim.Native.Nat.{ℕ, ◌<◌}
use Rattle.std.proofs.Common.{cond}
use native.Mathlib.Omega.{arith}
use Rattle.rules.specs.Sets.{has}
use Rattle.sets.specs.Joined.{joined}

-- `has`
pub member_unique : (s i : ℕ) {r q : Bool} → cond r 1 0 ≡ has s i → cond q 1 0 ≡ has s i → r ≡ q
member_unique s i {r = true} {q = true} a b = refl
member_unique s i {r = false} {q = false} a b = refl
member_unique s i {r = true} {q = false} a b = absurd (omega arith)
member_unique s i {r = false} {q = true} a b = absurd (omega arith)

-- `with`, of width 16 or 64
pub joined_unique : (w s i : ℕ) {r q : ℕ} → r ≡ joined w s i → q ≡ joined w s i → r ≡ q
joined_unique w s i a b = a ∙ sym b
