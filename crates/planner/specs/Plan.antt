-- What the tests leave for the search and the table.
-- Assumes nothing.
use Rattle.std.specs.Prelude.{◌≡◌, List, ◌++◌, ℕ, ◌*◌, length, drop}
use Rattle.rules.specs.Piece.{numbers_of}
use Rattle.rules.specs.Allocation.{limit_of, Allocation}
use Rattle.rules.specs.Loops.{LoopFree}
use Rattle.rules.specs.Table.{table_of}
use Rattle.rules.specs.Plan.{at}
use Rattle.planner.specs.Fill.{Demand}

-- the table of an allocation without loops, x, stands in the lent list
pub record Settled (asked : Demand) (before : List ℕ) (r : ℕ) (after : List ℕ) (x : ℕ → ℕ → ℕ) : Type 0 where
  pub allocation : Allocation (length asked.budgets) asked.cores (limit_of asked.frame) (at asked.budgets) (at asked.masks) x
  pub loop_free : LoopFree (length asked.budgets) asked.cores x
  pub pieces : r ≡ length (table_of asked.frame (length asked.budgets) asked.cores x)
  pub table : after ≡ numbers_of (table_of asked.frame (length asked.budgets) asked.cores x) ++ drop (4 * length (table_of asked.frame (length asked.budgets) asked.cores x)) before
