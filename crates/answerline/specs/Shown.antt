-- When the values that an answer's line carries fit their fields.
-- Assumes nothing.
use Rattle.std.specs.Prelude.{◌^◌, ◌<◌, List, [], ◌∷◌, length}
use Rattle.rules.specs.Piece.{Piece}
use Rattle.rules.specs.declared.Answer.{Answer}
use Rattle.rules.specs.declared.Answer.TheVariants.{Accepted, FrameLength, CoreCount, TaskCount, EmptyMask, Budget, ShortTable, Overloaded, NotTable, JobList, NoUnits, ShortFinishes, BadLine, MissingCore}

-- "per piece core (1), task (1), start (4), length (4)"
pub record PieceFits (p : Piece) : Type 0 where
  pub core : p.core < 2 ^ 8
  pub task : p.task < 2 ^ 8
  pub start : p.start < 2 ^ 32
  pub len : p.len < 2 ^ 32

abbrev pub PiecesFit : List Piece → Type 0
PiecesFit [] = Unit {0}
PiecesFit (p ∷ ps) = PieceFits p × PiecesFit ps

-- "the piece count (2)", "the task (1)", "the group (8 ..) and its cores (2)", "task (1) and core (1)"; the answers 9 and 10 of a walk carry a job that no line shows
abbrev pub Shown : Answer → List Piece → Type 0
Shown Accepted ps = (length ps < 2 ^ 16) × PiecesFit ps
Shown FrameLength ps = Unit {0}
Shown CoreCount ps = Unit {0}
Shown TaskCount ps = Unit {0}
Shown (EmptyMask task) ps = task < 2 ^ 8
Shown (Budget task) ps = task < 2 ^ 8
Shown ShortTable ps = Unit {0}
Shown (Overloaded group cores) ps = (group < 2 ^ 64) × (cores < 2 ^ 16)
Shown NotTable ps = Unit {0}
Shown (JobList job) ps = ⊥
Shown (NoUnits job) ps = ⊥
Shown ShortFinishes ps = Unit {0}
Shown BadLine ps = Unit {0}
Shown (MissingCore task core) ps = (task < 2 ^ 8) × (core < 2 ^ 8)
