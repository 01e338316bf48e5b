-- What the tests 1, 2 and 8 say.
-- Assumes nothing.
use Rattle.std.specs.Prelude.{ℕ, cond, List}
use Rattle.rules.specs.Tests.{Tested, refused, passed, bad_frame, bad_cores}
use Rattle.rules.specs.FrameTable.{frame_table}
use Rattle.rules.specs.declared.Answer.TheVariants.{FrameLength, CoreCount, NotTable}

unfoldable pub tested_table : ℕ → ℕ → List ℕ → Tested
tested_table F m table = cond (bad_frame F) (refused FrameLength) (cond (bad_cores m) (refused CoreCount) (cond (frame_table F m table) passed (refused NotTable)))
