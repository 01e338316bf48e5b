-- How the code keeps the units of an allocation: one flat list, sixteen numbers a task.
-- Assumes nothing.
use Rattle.std.specs.Prelude.{List, ℕ}
use Rattle.rules.specs.Table.{cell_at}

-- units of task i on core j
abbrev pub cell : List ℕ → ℕ → ℕ → ℕ
cell l = cell_at 16 l
