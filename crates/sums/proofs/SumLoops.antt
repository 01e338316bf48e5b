-- Sums as loops count them.
-- Assumes nothing.
use mathlib.Core.Path.{◌≡◌, refl, ◌∙◌, ap}
use mathlib.Core.Bool.{cond}
use Prim.Native.Nat.{ℕ, suc, ◌+◌, ◌≤◌, ◌<◌}
use native.Mathlib.Nat.{le_refl, le_antisymm}
use native.Mathlib.Numerals.{add-one}
use native.Mathlib.Decide.{ℕ_discrete}
use native.Mathlib.Omega.{arith}
use lib.Dec.{eqb}
use mir.Val.{Fits}
use mir.Syntax.{w32}
use borrow.Author.Tests.{eq-eqb, ne_eqb}
use Rattle.rules.specs.Sum.{sum_to, put}
use Rattle.sums.proofs.Sum.{put_same, put_other, sum_le, sum_mono}

module _ (f : ℕ → ℕ) where
  pub sum_none : 0 ≡ sum_to 0 f
  unfolding sum_to
  sum_none = refl

  pub sum_more : (v i w : ℕ) → v ≡ sum_to i f → w ≡ f i → v + w ≡ sum_to (i + 1) f
  unfolding sum_to
  sum_more v i w e g = simp (add-one, e, g)

  pub sum_done : (v i n : ℕ) → v ≡ sum_to i f → i ≤ n → n ≤ i → v ≡ sum_to n f
  sum_done v i n e a b = e ∙ ap (λ (k : ℕ). sum_to k f) (le_antisymm a b)

  put_under : (skip i : ℕ) → put skip 0 f i ≤ f i
  put_under skip i =
      elim (ℕ_discrete i skip) [
        | yes e ↦ rw (put_zero e) (omega arith)
        | no ne ↦ rw (put_other skip 0 f i ne) (le_refl _)
      ]
    where
      put_zero : {i : ℕ} → i ≡ skip → put skip 0 f i ≡ 0
      put_zero e = rw (e, put_same skip 0 f)

  -- a partial sum without one term is not above the whole
  pub put_fits : (skip i n v w : ℕ) → v ≡ sum_to i (put skip 0 f) → w ≡ put skip 0 f i → i < n → sum_to n f ≤ 1000000 → Fits w32 (v + w)
  unfolding sum_to
  put_fits skip i n v w e g l h = omega (arith, sum_mono (suc i) n f l, sum_le (suc i) {f = put skip 0 f} {g = f} (λ k s. put_under skip k))

-- a term that is left out, and one that is not
pub unless_here : (i skip v : ℕ) → i ≡ skip → 0 ≡ cond (eqb i skip) 0 v
unless_here i skip v e = rw (eq-eqb i skip e)

pub unless_other : (i skip v : ℕ) → (i ≡ skip → ⊥) → v ≡ cond (eqb i skip) 0 v
unless_other i skip v ne = rw (ne_eqb i skip ne)
