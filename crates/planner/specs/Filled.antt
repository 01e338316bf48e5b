-- What fill answers: an allocation of all budgets, or the group of answer 7 with its cores.
-- Assumes nothing.
use Rattle.std.specs.Prelude.{◌≡◌, List, ℕ, ◌≤◌, ◌<◌, length, Result, Ok, Err}
use Rattle.rules.specs.Sets.{has, union}
use Rattle.rules.specs.Plan.{at}
use Rattle.rules.specs.Allocation.{limit_of, Allocation}
use Rattle.rules.specs.Excess.{Exceeds, Smallest}
use Rattle.stretches.specs.Cell.{cell}
use Rattle.planner.specs.Fill.{Demand, Filling, lack}
use Rattle.planner.specs.Stock.{Stock}
use Rattle.planner.specs.Search.{Known, WayBack}
use Rattle.planner.specs.declared.flow.Group.{Group}

-- the units are an allocation, and stand nowhere else
pub record WholeBy (asked : Demand) (units : List ℕ) : Type 0 where
  pub long : length units ≡ 1024
  pub allocation : Allocation (length asked.budgets) asked.cores (limit_of asked.frame) (at asked.budgets) (at asked.masks) (cell units)
  pub tasks_beyond : (i : ℕ) → length asked.budgets ≤ i → (j : ℕ) → j < 16 → cell units i j ≡ 0
  pub cores_beyond : (i j : ℕ) → asked.cores ≤ j → j < 16 → cell units i j ≡ 0

-- the group's excess is above zero, it is the smallest of those of greatest excess, c is the union of its masks, and no budget of it is 0
pub record ShortBy (asked : Demand) (g c : ℕ) : Type 0 where
  pub exceeds : Exceeds (length asked.budgets) asked.cores (limit_of asked.frame) (at asked.budgets) (at asked.masks) g
  pub smallest : Smallest (length asked.budgets) asked.cores (limit_of asked.frame) (at asked.budgets) (at asked.masks) g
  pub cores : c ≡ union (length asked.budgets) (at asked.masks) g
  pub no_zero : (i : ℕ) → i < length asked.budgets → has g i ≡ 1 → 0 < at asked.budgets i

abbrev pub FilledBy : Demand → List ℕ → Result Unit Group → Type 0
FilledBy asked units (Ok _) = WholeBy asked units
FilledBy asked units (Err g) = ShortBy asked g.tasks g.cores

-- a partial allocation that lacks less than before
pub record MoreBy (asked : Demand) (before after : Stock) : Type 0 where
  pub filling : Filling asked after
  pub less : lack asked after < lack asked before

-- some demand is being filled, and a way back starts at the place p
pub record Opening (s : Stock) (w : Known) (p : ℕ) : Type 0 where
  pub asked : Demand
  pub filling : Filling asked s
  pub way : WayBack asked.cores asked.masks s w p

-- the way back from the place hit has come to the place p, and the stock s: whatever demand was being filled still is, and lacks as much
pub record Underway (start : Stock) (w : Known) (hit : ℕ) (s : Stock) (p : ℕ) : Type 0 where
  pub as_much : s.left ≡ start.left
  pub kept : (asked : Demand) → Filling asked start → WayBack asked.cores asked.masks start w hit → Filling asked s × WayBack asked.cores asked.masks s w p

-- it has come to its end: whatever demand was being filled lacks less
pub record Closer (start : Stock) (w : Known) (hit : ℕ) (s : Stock) : Type 0 where
  pub closer : (asked : Demand) → Filling asked start → WayBack asked.cores asked.masks start w hit → MoreBy asked start s
