-- For links of side.rt: a loop counts the links of a vertex.
-- Assumes nothing.
use mathlib.Core.Path.{◌≡◌, refl, ◌∙◌}
use mathlib.Core.Bool.{Bool, true, false, cond}
use Prim.Native.Nat.{ℕ, ◌+◌, ◌*◌, ◌≤◌}
use native.Mathlib.Numerals.{add-one}
use native.Mathlib.Omega.{arith}
use Rattle.rules.specs.Sum.{sum_to, positive}
use Rattle.forest.specs.Stripping.{there, links}
use mir.Val.{bool_byte}

pub links_none : (gone : ℕ) (x : ℕ → ℕ → ℕ) (i : ℕ) → 0 ≡ links 0 gone x i
unfolding links sum_to
links_none gone x i = refl

pub links_more : (j gone : ℕ) (x : ℕ → ℕ → ℕ) (i v w : ℕ) (b : Bool) → v ≡ links j gone x i → cond b 1 0 ≡ there gone j * positive (x i j) → w ≡ bool_byte b
    → v + w ≡ links (j + 1) gone x i
unfolding links sum_to
links_more j gone x i v w b p q r = rw (add-one, p, r ∙ byte b ∙ q)
  where
    byte : (b : Bool) → bool_byte b ≡ cond b 1 0
    byte true = refl
    byte false = refl

pub byte_low : (b : Bool) → bool_byte b ≤ 1
byte_low true = omega arith
byte_low false = omega arith
