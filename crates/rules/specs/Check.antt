-- The answers of the table check and of the move count over all inputs: "The table check and the move count test 1, 2, 8."
-- Assumes nothing.
use Rattle.std.specs.Prelude.{ℕ, cond, List}
use Rattle.rules.specs.Tests.{bad_frame, bad_cores}
use Rattle.rules.specs.Piece.{pieces_of}
use Rattle.rules.specs.FrameTable.{frame_table}
use Rattle.rules.specs.Moves.{moves}
use Rattle.rules.specs.declared.Answer.{Answer}
use Rattle.rules.specs.declared.Answer.TheVariants.{Accepted, FrameLength, CoreCount, NotTable}
use Rattle.rules.specs.declared.Counted.{Counted}

unfoldable pub check_answer : ℕ → ℕ → List ℕ → Answer
check_answer F m table = cond (bad_frame F) FrameLength (cond (bad_cores m) CoreCount (cond (frame_table F m table) Accepted NotTable))

-- the moves where the check accepts, and 0 beside a refusal
unfoldable pub moves_answer : ℕ → ℕ → List ℕ → Counted
moves_answer F m table =
    record {
      answer = check_answer F m table;
      moves = cond (bad_frame F) 0 (cond (bad_cores m) 0 (cond (frame_table F m table) (moves (pieces_of table)) 0));
    }
