-- What fill asks, keeps and answers, over the lists that the code holds. The kept facts make the proofs easy and need no belief.
-- Assumes nothing.
use Rattle.std.specs.Prelude.{◌≡◌, List, ℕ, ◌+◌, ◌<◌, length, replicate}
use Rattle.rules.specs.Sizes.{max_cores, max_tasks}
use Rattle.rules.specs.Sum.{sum_to}
use Rattle.rules.specs.Sets.{has}
use Rattle.rules.specs.Plan.{at}
use Rattle.stretches.specs.Cell.{cell}
use Rattle.tests.specs.Given.{Given}
use Rattle.planner.specs.declared.asked.Asked.{Asked}
use Rattle.planner.specs.Stock.{Stock}

-- what is asked of the cores: the frame's length, how many cores there are, and each task's budget and mask
pub record Demand : Type 0 where
  pub frame : ℕ
  pub cores : ℕ
  pub budgets : List ℕ
  pub masks : List ℕ

abbrev pub demand : ℕ → ℕ → List ℕ → List ℕ → Demand
demand F m budgets masks = record { frame = F; cores = m; budgets = budgets; masks = masks }

abbrev pub demanded : Asked → Demand
demanded a = demand a.frame a.cores a.budgets.now a.masks.now

-- what fill asks: a stock with no units yet, where all cores have room
pub record FillReady (F : ℕ) (s : Stock) : Type 0 where
  pub units : s.units ≡ replicate 1024 0
  pub left : length s.left ≡ max_tasks
  pub room : s.room ≡ replicate 16 F

-- a partial allocation at every moment: sixteen units a task, none outside its mask, and what lacks to each budget and each core's limit
pub record Filling (asked : Demand) (s : Stock) : Type 0 where
  pub given : Given asked.frame asked.cores asked.budgets asked.masks
  pub units_long : length s.units ≡ 1024
  pub left_long : length s.left ≡ max_tasks
  pub room_long : length s.room ≡ max_cores
  pub inside : (i j : ℕ) → j < max_cores → has (at asked.masks i) j ≡ 0 → cell s.units i j ≡ 0
  pub row : (i : ℕ) → i < length asked.budgets → sum_to asked.cores (cell s.units i) + at s.left i ≡ at asked.budgets i
  pub column : (j : ℕ) → j < asked.cores → sum_to (length asked.budgets) (λ i. cell s.units i j) + at s.room j ≡ asked.frame

-- what all tasks together lack
abbrev pub lack : Demand → Stock → ℕ
lack asked s = sum_to (length asked.budgets) (at s.left)
