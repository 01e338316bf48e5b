-- What a caller of `lay_out` gets: units that fit are laid.
-- Assumes nothing.
use mathlib.Core.Path.{◌≡◌, sym, ◌∙◌}
use mathlib.Core.List.{List, ◌++◌}
use Prim.Native.Nat.{ℕ, ◌*◌, ◌/◌}
use Rattle.std.specs.Prelude.{Option, Some, None}
use lib.ListN.{length, drop}
use Rattle.rules.specs.Piece.{numbers_of}
use Rattle.rules.specs.Table.{table_of}
use Rattle.stretches.specs.Cell.{cell}
use Rattle.fitting.specs.Fits.{Fits}
use Rattle.layout.specs.Laid.{LayAnswer, laid, unfit}

module _ (F n m : ℕ) (units before : List ℕ) where
  -- a caller that knows that its units fit need not go by cases
  pub fits_unfit : {r : Option ℕ} {after : List ℕ} → Fits F n m (cell units) (length before / 4) → LayAnswer F n m units before r after → r ≡ None → ⊥
  fits_unfit f (laid g e d) z = let d = sym e ∙ z in cc
  fits_unfit f (unfit g e d) z = g f

  pub fits_laid : {r : Option ℕ} {after : List ℕ} → Fits F n m (cell units) (length before / 4) → LayAnswer F n m units before r after
      → (r ≡ Some (length (table_of F n m (cell units)))) × (after ≡ numbers_of (table_of F n m (cell units)) ++ drop (4 * length (table_of F n m (cell units))) before)
  fits_laid f (laid g e d) = (e, d)
  fits_laid f (unfit g e d) = absurd (g f)
