-- Laws for `before`: what runs before what is the sum that the code makes, and is small.
-- Assumes nothing.
use mathlib.Core.Path.{◌≡◌, sym, ◌∙◌, ap}
use Prim.Native.Nat.{ℕ, suc, ◌+◌, ◌≤◌, ◌<◌}
use native.Mathlib.Nat.{add-zero, le_refl, le_trans}
use native.Mathlib.Omega.{arith}
use mir.Val.{Fits}
use mir.Syntax.{w32}
use Rattle.std.specs.Prelude.{Option, Some, None}
use Rattle.std.specs.Option.{MatchOption, IsSomeAnd}
use Rattle.rules.specs.Sizes.{max_frame}
use Rattle.rules.specs.Sum.{sum_to, put}
use Rattle.rules.specs.Layout.{ahead}
use Rattle.sums.proofs.Sum.{put_same, sum_mono, sum_put_past}
use Rattle.sums.proofs.SumLoops.{sum_more}
use Rattle.layout.specs.Ahead.{Line, Whole}
use Rattle.stretches.proofs.Ahead.{ahead_first, ahead_rest, ahead_ends}

module _ (f : ℕ → ℕ) where
  pub sum_part : (t n : ℕ) → t < n → sum_to n f ≤ max_frame → sum_to t f ≤ max_frame
  sum_part t n l h = le_trans (sum_mono t n f (omega arith)) h

  pub ahead_below : (n p i : ℕ) → p ≤ n → i < n → sum_to n f ≤ max_frame → ahead p f i ≤ max_frame
  ahead_below n p i a b h = omega (arith, ahead_ends n p f i a b)

  -- a term that is left out
  pub sum_skipped : (skip i v : ℕ) → v ≡ sum_to i (put skip 0 f) → i ≡ skip → v ≡ sum_to (i + 1) (put skip 0 f)
  sum_skipped skip i v e h = sym (add-zero v) ∙ sum_more (put skip 0 f) v i 0 e (sym (ap (put skip 0 f) h ∙ put_same skip 0 f))

  -- what runs before i, with the sum that the code makes
  pub ahead_root : (i r : ℕ) → r ≡ sum_to i (put i 0 f) → r ≡ ahead 0 f i
  unfolding ahead
  ahead_root i r e = e ∙ sum_put_past i i 0 f (le_refl i)

  pub ahead_itself : (q i : ℕ) → q ≡ i → 0 ≡ ahead (suc q) f i
  ahead_itself q i e = sym (ahead_first q f i (sym e))

  pub ahead_after : (q i u v : ℕ) → (q ≡ i → ⊥) → u ≡ f q → v ≡ sum_to i (put q 0 f) → u + v ≡ ahead (suc q) f i
  ahead_after q i u v d g e = rw (e, g) (sym (ahead_rest q f i (λ b. d (sym b))))

pub line_part : {may : ℕ → Type 0} {gives : ℕ → ℕ → Type 0} {n i : ℕ} → Line may gives n → i < n → Line may gives i
line_part h l = record { units = h.units; asked = λ k b. h.asked k (omega arith); read = h.read; small = sum_part h.units _ _ l h.small }

pub whole_small : {may : ℕ → Type 0} {gives : ℕ → ℕ → Type 0} {p i : ℕ} (v : ℕ) → (w : Whole may gives p i) → v ≡ ahead p w.line.units i → v ≤ max_frame
whole_small v w e = omega (arith, ahead_below w.line.units w.long _ _ w.first_in w.here w.line.small)

pub whole_fits : {may : ℕ → Type 0} {gives : ℕ → ℕ → Type 0} {p i : ℕ} (v : ℕ) → (w : Whole may gives p i) → v ≡ ahead p w.line.units i → Fits w32 v
whole_fits v w e = record { fits = omega (arith, whole_small v w e) }

-- a number that is there or not, widened
pub widened : (a r : Option ℕ) → MatchOption a (r ≡ None) (λ x. IsSomeAnd r (λ y. y ≡ x)) → r ≡ a
widened None r h = h
widened (Some x) (Some y) h = ap Some h
widened (Some x) None h = absurd h
