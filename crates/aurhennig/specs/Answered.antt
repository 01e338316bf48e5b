-- A set that was planned and answered: what was written at the front of the output.
-- Assumes nothing.
use Rattle.std.specs.Prelude.{◌≡◌, List, ◌++◌, ℕ, length, drop}
use Rattle.rules.specs.Piece.{first_pieces}
use Rattle.rules.specs.Plan.{PlanAnswer}
use Rattle.rules.specs.Line.{answer_line}
use Rattle.rules.specs.LineCall.{lent_table}
use Rattle.rules.specs.declared.Planned.{Planned}

-- what plan answered on a lent table of 95 pieces, and its line at the front of the output
pub record SetAnswered (F m : ℕ) (budgets masks before : List ℕ) (r : ℕ) (after : List ℕ) : Type 0 where
  pub answer : Planned
  pub table : List ℕ
  pub planned : PlanAnswer F m budgets masks lent_table answer table
  pub line : List ℕ
  pub shown : line ≡ answer_line answer.answer (first_pieces table answer.pieces)
  pub bytes : r ≡ length line
  pub written : after ≡ line ++ drop (length line) before
