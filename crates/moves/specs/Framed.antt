-- A list that is a frame table for some frame length and core count of the sizes.
-- Assumes nothing.
use Rattle.std.specs.Prelude.{◌≡◌, true, List, ℕ, ◌≤◌}
use Rattle.rules.specs.FrameTable.{frame_table}

pub record Framed (l : List ℕ) : Type 0 where
  pub frame : ℕ
  pub cores : ℕ
  pub short : frame ≤ 1000000
  pub table : frame_table frame cores l ≡ true
