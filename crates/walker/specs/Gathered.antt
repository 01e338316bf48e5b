-- A frame table of a given frame length, and the walked task's stretches gathered from it.
-- Assumes nothing.
use Rattle.std.specs.Prelude.{◌≡◌, true, List, ℕ, ◌≤◌, length}
use Rattle.rules.specs.Piece.{pieces_of}
use Rattle.rules.specs.FrameTable.{frame_table}
use Rattle.rules.specs.Service.{covered}
use Rattle.walker.specs.declared.span.Span.{Span}
use Rattle.walker.specs.Served.{unit_to, Sorted}

pub record FrameOf (F : ℕ) (l : List ℕ) : Type 0 where
  pub cores : ℕ
  pub some : 1 ≤ F
  pub short : F ≤ 1000000
  pub table : frame_table F cores l ≡ true

-- the stretches cover an instant of the frame exactly where some piece of the task does
pub record Gathered (F : ℕ) (l : List ℕ) (task : ℕ) (spans : List Span) : Type 0 where
  pub sorted : Sorted F spans
  pub units : (t : ℕ) → unit_to spans (length spans) t ≡ covered task t (pieces_of l)
