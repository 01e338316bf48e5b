-- Whether a task is moved at a piece: on which core its piece before ran, if it has one.
-- Assumes nothing.
use Rattle.std.specs.Prelude.{ℕ, Bool, false, not, eqb, Option, None, Some}

abbrev pub moved : Option ℕ → ℕ → Bool
moved None core = false
moved (Some before) core = not (eqb before core)
