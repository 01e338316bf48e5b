-- The three stores are the three definitions.
use Rattle.planner.specs.Stock.{raise, lower}
use Rattle.std.proofs.Common.{refl}
use Rattle.planner.proofs.steps.Stock.place.Goals as goal

pub returns : goal.returns
unfolding raise lower
returns c = refl
