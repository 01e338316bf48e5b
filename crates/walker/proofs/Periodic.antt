-- Sums of a function of the instant within the frame: whole frames, and what is left.
-- Assumes nothing.
use mathlib.Core.Path.{◌≡◌, sym, ◌∙◌, ap, ap₂}
use Prim.Native.Nat.{ℕ, zero, suc, ◌+◌, ◌*◌, ◌/◌, ◌%◌, ◌≤◌}
use native.Mathlib.Nat.{le_refl, add-mod_left, mod-eq_of_lt, div-add-mod', mod-lt}
use native.Mathlib.Omega.{arith}
use Rattle.rules.specs.Sum.{sum_to}
use Rattle.sums.proofs.Sum.{sum_cong, sum_split}

module _ (F : ℕ) (pos : 1 ≤ F) (f : ℕ → ℕ) where
  -- the function at the instant t, the frame repeated
  abbrev pub again : ℕ → ℕ
  again t = f (t % F)

  pub again_frame : (r : ℕ) → r ≤ F → sum_to r again ≡ sum_to r f
  again_frame r h = sum_cong r (λ i l. ap f (mod-eq_of_lt (omega arith)))

  pub again_shift : (a : ℕ) → sum_to (F + a) again ≡ sum_to F f + sum_to a again
  again_shift a = sum_split F a again ∙ ap₂ ◌+◌ (again_frame F (le_refl _)) (sum_cong a (λ i l. ap f (add-mod_left F i)))

  pub again_frames : (q a : ℕ) → sum_to (q * F + a) again ≡ q * sum_to F f + sum_to a again
  again_frames zero a = ap (λ (k : ℕ). sum_to k again) (none F a) ∙ sym (none (sum_to F f) (sum_to a again))
    where
      none : (x y : ℕ) → zero * x + y ≡ y
      none x y = omega arith
  again_frames (suc q) a =
      ap (λ (k : ℕ). sum_to k again) (more F a) ∙ again_shift (q * F + a) ∙ ap (λ (k : ℕ). sum_to F f + k) (again_frames q a) ∙ sym (more (sum_to F f) (sum_to a again))
    where
      more : (x y : ℕ) → suc q * x + y ≡ x + (q * x + y)
      more x y = omega arith

  -- q whole frames and r of the next
  pub again_at : (q r : ℕ) → r ≤ F → sum_to (q * F + r) again ≡ q * sum_to F f + sum_to r f
  again_at q r h = again_frames q r ∙ ap (λ (k : ℕ). q * sum_to F f + k) (again_frame r h)

  pub again_div : (e : ℕ) → sum_to e again ≡ (e / F) * sum_to F f + sum_to (e % F) f
  again_div e = ap (λ (k : ℕ). sum_to k again) (sym (div-add-mod' e F)) ∙ again_at (e / F) (e % F) (omega (arith, mod-lt e pos))
