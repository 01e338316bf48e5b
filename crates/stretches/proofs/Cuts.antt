-- A stretch is cut where it crosses the end of the frame, and a task without units on a core has no piece there.
-- Assumes nothing.
use mathlib.Core.Path.{◌≡◌}
use mathlib.Core.List.{[], ◌∷◌}
use Prim.Native.Nat.{ℕ, ◌+◌, ◌-◌, ◌%◌, ◌≤◌, ◌<◌}
use borrow.Author.Tests.{le-leb, lt-leb}
use Rattle.rules.specs.Layout.{Walk, stretch}
use Rattle.rules.specs.Table.{cut, pieces_on}
use Rattle.sums.proofs.Order.{pred_of}

pub cut_fits : (F j t s len : ℕ) → s + len ≤ F → cut F j t s len ≡ record { core = j; task = t; start = s; len = len } ∷ []
unfolding cut
cut_fits F j t s len h = rw (le-leb (s + len) F h, cut)

pub cut_crosses : (F j t s len : ℕ) → F < s + len
    → cut F j t s len ≡ record { core = j; task = t; start = s; len = F - s } ∷ record { core = j; task = t; start = 0; len = (s + len) - F } ∷ []
unfolding cut
cut_crosses F j t s len h = rw (lt-leb (s + len) F h, cut)

module _ (F n m : ℕ) (x : ℕ → ℕ → ℕ) (w : Walk) where
  pub pieces_none : (j t : ℕ) → x t j ≡ 0 → pieces_on F n m x w j t ≡ []
  unfolding pieces_on
  pieces_none j t e = rw (e, pieces_on)

  pub pieces_some : (j t : ℕ) → 0 < x t j → pieces_on F n m x w j t ≡ cut F j t (stretch n m x w t j % F) (x t j)
  unfolding pieces_on
  pieces_some j t h = let b = pred_of (x t j) h in rw (b.1, pieces_on)
