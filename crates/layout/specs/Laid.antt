-- What `lay_out` answers for every input: the table that document 01 fixes for the units, or that they are unfit.
-- Assumes nothing.
use Rattle.std.specs.Prelude.{◌≡◌, List, ◌++◌, ℕ, ◌*◌, ◌/◌, length, drop, Option, Some, None}
use Rattle.rules.specs.Piece.{numbers_of}
use Rattle.rules.specs.Table.{table_of}
use Rattle.stretches.specs.Cell.{cell}
use Rattle.fitting.specs.Fits.{Fits}

-- the table of the units stands at the front of the lent list, and what lies beyond keeps; or the units are unfit, and all keeps
pub data LayAnswer (F n m : ℕ) (units before : List ℕ) (r : Option ℕ) (after : List ℕ) : Type 0 where
  laid :
      Fits F n m (cell units) (length before / 4) → r ≡ Some (length (table_of F n m (cell units))) →
      after ≡ numbers_of (table_of F n m (cell units)) ++ drop (4 * length (table_of F n m (cell units))) before →
      LayAnswer F n m units before r after
  unfit : (Fits F n m (cell units) (length before / 4) → ⊥) → r ≡ None → after ≡ before → LayAnswer F n m units before r after
