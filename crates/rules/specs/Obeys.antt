-- Demand 2: a table that obeys the rules for a set: a frame table that gives each task exactly its budget, on allowed cores alone.
-- Assumes nothing.
use Rattle.std.specs.Prelude.{◌≡◌, Bool, true, ◌&&◌, List, ℕ, ◌<◌, eqb, ltb}
use Rattle.rules.specs.Sets.{has}
use Rattle.rules.specs.Piece.{Piece}
use Rattle.rules.specs.FrameTable.{every, frame_pieces}
use Rattle.rules.specs.Service.{units}

-- the piece is of one of the n tasks, on a core of its mask
unfoldable pub allowed : ℕ → (ℕ → ℕ) → Piece → Bool
allowed n mask p = ltb p.task n && eqb (has (mask p.task) p.core) 1

pub record Obeys (F n m : ℕ) (budget mask : ℕ → ℕ) (ps : List Piece) : Type 0 where
  -- "What counts as a frame table": never two at once on a core, nor of a task
  pub table : frame_pieces F m ps ≡ true
  -- "exact budgets"
  pub exact : (i : ℕ) → i < n → units F ps i F ≡ budget i
  -- "allowed cores"
  pub on_mask : every (allowed n mask) ps ≡ true
