-- One step of the way back, over the lists that the code holds: what it asks, and what it leaves. This makes the proofs easy and needs no
-- belief.
-- Assumes nothing.
use Rattle.std.specs.Prelude.{ℕ, min, ◌<◌}
use Rattle.rules.specs.Sizes.{max_cores}
use Rattle.rules.specs.Plan.{at}
use Rattle.stretches.specs.Cell.{cell}
use Rattle.planner.specs.Stock.{Stock, PlaceFits, TakeFits, placed, taken}
use Rattle.planner.specs.Search.{Known, core_at, task_at, place_before, core_before}

-- the units that a step moves: as many as the core at the place p has room for, and as the task there has on the core before
abbrev pub backward : Stock → Known → ℕ → ℕ
backward s w p = min (at s.room (core_at w p)) (cell s.units (task_at w p) (core_before w p))

-- the stock when they left the core before, and when they stand on the core with room
abbrev pub freed : Stock → Known → ℕ → Stock
freed s w p = taken s (task_at w p) (core_before w p) (backward s w p)

abbrev pub moved : Stock → Known → ℕ → Stock
moved s w p = placed (freed s w p) (task_at w p) (core_at w p) (backward s w p)

-- what a step asks
pub record StepFits (s : Stock) (w : Known) (p : ℕ) : Type 0 where
  pub place : p < max_cores
  pub before : place_before w p < max_cores
  pub take_fits : TakeFits s (task_at w p) (core_before w p) (backward s w p)
  pub place_fits : PlaceFits (freed s w p) (task_at w p) (core_at w p) (backward s w p)
