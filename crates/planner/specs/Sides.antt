-- The graph of units from one of its sides.
-- Assumes nothing.
use Rattle.std.specs.Prelude.{◌≡◌, ℕ, ◌+◌, ◌*◌, ◌<◌, Option, Some}
use Rattle.rules.specs.Sets.{has}
use Rattle.rules.specs.Plan.{at}
use Rattle.planner.specs.declared.side.Side.{Side}

-- the units between vertex i of this side and vertex k of the other
abbrev pub seen : Side → ℕ → ℕ → ℕ
seen s i k = at s.units.now (i * s.step + k * s.across)

-- r is a neighbour that is still there, f saying where there are units, and not the one we came from, if we came from one
pub record OtherThan (from : Option ℕ) (n gone : ℕ) (f : ℕ → ℕ) (r : ℕ) : Type 0 where
  pub below : r < n
  pub still : has gone r ≡ 0
  pub units : 0 < f r
  pub new : from ≡ Some r → ⊥
