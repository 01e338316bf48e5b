-- Any two answers that the contract of `units_fit` allows are equal.
-- Assumes nothing.
use mathlib.Core.Path.{◌≡◌, refl}
use mathlib.Core.Bool.{Bool, true, false}
use mathlib.Core.List.{List}
use Prim.Native.Nat.{ℕ}
use Rattle.stretches.specs.Cell.{cell}
use Rattle.fitting.specs.Fits.{Fits, Tells}

tells_unique : {P : Type 0} (r q : Bool) → Tells P r → Tells P q → r ≡ q
tells_unique true true a b = refl
tells_unique true false a b = absurd (b.no refl (a.yes refl))
tells_unique false true a b = absurd (a.no refl (b.yes refl))
tells_unique false false a b = refl

pub units_fit_unique : (F n m : ℕ) (units : List ℕ) (room : ℕ) (r q : Bool) → Tells (Fits F n m (cell units) room) r → Tells (Fits F n m (cell units) room) q → r ≡ q
units_fit_unique F n m units room r q a b = tells_unique r q a b
