-- Units, what lacks and what room is left, and the steps that change them, over the lists that the code holds. These make the proofs easy
-- and need no belief.
-- Assumes nothing.
use Rattle.std.specs.Prelude.{List, ℕ, min, ◌+◌, ◌-◌, ◌*◌, ◌≤◌, ◌<◌, ◌≡◌, get_or, set}
use Rattle.rules.specs.Sizes.{max_frame, max_cores, max_tasks}
use Rattle.rules.specs.Sets.{has}
use Rattle.rules.specs.Plan.{at}
use Rattle.stretches.specs.Cell.{cell}
pub use Rattle.planner.specs.declared.steps.Stock.{Stock}

-- units, what lacks and what room is left
abbrev pub stock : List ℕ → List ℕ → List ℕ → Stock
stock units left room = record { units = units; left = left; room = room }

-- the list with d more, or d less, at the place k
unfoldable pub raise : List ℕ → ℕ → ℕ → List ℕ
raise l k d = set l k (get_or l k 0 + d)

unfoldable pub lower : List ℕ → ℕ → ℕ → List ℕ
lower l k d = set l k (get_or l k 0 - d)

-- the stock when d more units of task t stand on core j, and when d of them left it
abbrev pub placed : Stock → ℕ → ℕ → ℕ → Stock
placed s t j d = stock (raise s.units (t * 16 + j) d) (lower s.left t d) (lower s.room j d)

abbrev pub taken : Stock → ℕ → ℕ → ℕ → Stock
taken s t j d = stock (lower s.units (t * 16 + j) d) (raise s.left t d) (raise s.room j d)

-- what the two steps ask
pub record PlaceFits (s : Stock) (t j d : ℕ) : Type 0 where
  pub task : t < max_tasks
  pub core : j < max_cores
  pub left_there : d ≤ at s.left t
  pub room_there : d ≤ at s.room j
  pub units_fit : cell s.units t j + d ≤ max_frame

pub record TakeFits (s : Stock) (t j d : ℕ) : Type 0 where
  pub task : t < max_tasks
  pub core : j < max_cores
  pub units_there : d ≤ cell s.units t j
  pub left_fits : at s.left t + d ≤ max_frame
  pub room_fits : at s.room j + d ≤ max_frame

-- task t's share of core j: what the core has room for, of what the task lacks; and the stock when it is placed
abbrev pub share : Stock → ℕ → ℕ → ℕ
share s t j = min (at s.room j) (at s.left t)

abbrev pub shared : Stock → ℕ → ℕ → Stock
shared s t j = placed s t j (share s t j)

pub record ShareFits (s : Stock) (t j : ℕ) : Type 0 where
  pub task : t < max_tasks
  pub core : j < max_cores
  pub units_fit : cell s.units t j + at s.room j ≤ max_frame

-- task t got its share of core j, if its mask holds the core
pub record PlacedOn (before : Stock) (t j mask : ℕ) (after : Stock) : Type 0 where
  pub outside : has mask j ≡ 0 → after ≡ before
  pub inside : has mask j ≡ 1 → after ≡ shared before t j
