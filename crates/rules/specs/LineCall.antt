-- The answer of the line call over all inputs: "The same call, one line in and one line out, is offered to the C executive".
-- Assumes nothing.
use Rattle.std.specs.Prelude.{◌≡◌, Bool, true, false, List, [], ◌++◌, ℕ, ◌*◌, ltb, length, drop, replicate}
use Rattle.rules.specs.Sizes.{max_pieces, least_output}
use Rattle.rules.specs.Piece.{first_pieces}
use Rattle.rules.specs.Line.{well_written, line_frame, line_cores, line_budgets, line_masks, answer_line}
use Rattle.rules.specs.Plan.{PlanAnswer}
use Rattle.rules.specs.declared.Answer.TheVariants.{BadLine}
use Rattle.rules.specs.declared.Planned.{Planned}

-- "it lends 95 pieces"
unfoldable pub lent_table : List ℕ
lent_table = replicate (4 * max_pieces) 0

-- a well-written line is planned as plan says, on a lent table of 95 pieces, and its answer is written
pub record LinePlanned (input line : List ℕ) : Type 0 where
  pub answer : Planned
  pub table : List ℕ
  pub planned : PlanAnswer (line_frame input) (line_cores input) (line_budgets input) (line_masks input) lent_table answer table
  pub written : line ≡ answer_line answer.answer (first_pieces table answer.pieces)

-- "The program tests 12 first"
abbrev pub LineAnswerAt : Bool → List ℕ → List ℕ → Type 0
LineAnswerAt true input line = LinePlanned input line
LineAnswerAt false input line = line ≡ answer_line BadLine []

-- `line` is an answer that the input line may get
abbrev pub LineAnswer : List ℕ → List ℕ → Type 0
LineAnswer input line = LineAnswerAt (well_written input) input line

-- "It hands back how many bytes it wrote at the front; the rest keeps what it held."
pub record CallDone (input before : List ℕ) (r : ℕ) (after : List ℕ) : Type 0 where
  pub line : List ℕ
  pub answer : LineAnswer input line
  pub bytes : r ≡ length line
  pub written : after ≡ line ++ drop (length line) before

-- "An output slice below 1,906 bytes is refused with 6, tested before 12: it hands back 0 and writes nothing."
abbrev pub CallAnswerAt : Bool → List ℕ → List ℕ → ℕ → List ℕ → Type 0
CallAnswerAt true input before r after = (r ≡ 0) × (after ≡ before)
CallAnswerAt false input before r after = CallDone input before r after

-- the line call may hand back r and leave `after` in the lent output, which held `before`
abbrev pub CallAnswer : List ℕ → List ℕ → ℕ → List ℕ → Type 0
CallAnswer input before r after = CallAnswerAt (ltb (length before) least_output) input before r after
