-- The extra assignments that are counted off a table are no more than its allocation has.
-- Assumes nothing.
use mathlib.Core.Path.{◌≡◌, refl}
use mathlib.Core.Bool.{Bool, true, false, ◌&&◌}
use mathlib.Core.List.{List, [], ◌∷◌}
use Prim.Native.Nat.{ℕ, ◌-◌, ◌≤◌}
use native.Mathlib.Omega.{arith}
use borrow.Author.Tests.{eqb-true}
use lib.Dec.{eqb}
use Rattle.rules.specs.Sum.{positive}
use Rattle.rules.specs.Extra.{cores_of, extra, runs_on, extra_of}
use Rattle.rules.specs.Piece.{Piece}
use Rattle.sums.proofs.Both.{and_left, and_right}
use Rattle.sums.proofs.Sum.{sum_le, positive_of}
use Rattle.stretches.proofs.PieceLists.{Every}
use Rattle.frames.proofs.FrameTables.{Allowed}

module _ (n m : ℕ) (x : ℕ → ℕ → ℕ) where
  -- a task has a piece only on a core where it has units
  runs_where_units : (ps : List Piece) → Every (Allowed n m x) ps → (i j : ℕ) → positive (runs_on ps i j) ≤ positive (x i j)
  unfolding runs_on
  runs_where_units [] h i j = omega arith
  runs_where_units (p ∷ ps) h i j = go (eqb p.task i && eqb p.core j) refl (runs_where_units ps h.1 i j)
    where
      go : (b : Bool) → (eqb p.task i && eqb p.core j) ≡ b → positive (runs_on ps i j) ≤ positive (x i j)
          → positive (elim b as (λ (c : Bool). ℕ) [ true ↦ 1 | false ↦ runs_on ps i j ]) ≤ positive (x i j)
      go true e r =
          let t : p.task ≡ i = eqb-true _ _ (and_left (eqb p.task i) (eqb p.core j) e) in
          let c : p.core ≡ j = eqb-true _ _ (and_right (eqb p.task i) (eqb p.core j) e) in
          omega (arith, positive_of (x i j) (rw (← t, ← c) h.0.units))
      go false e r = r

  pub extra_counted : (ps : List Piece) → Every (Allowed n m x) ps → extra_of n m ps ≤ extra n m x
  unfolding extra_of extra cores_of
  extra_counted ps h = sum_le n (λ i l. less (sum_le m (λ j k. runs_where_units ps h i j)))
    where
      less : {a b : ℕ} → a ≤ b → a - 1 ≤ b - 1
      less h = omega arith
