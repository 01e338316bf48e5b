-- The calls on plain arrays that C makes, over all inputs: the reply of each, and what its lent list holds afterwards.
-- Assumes nothing.
use Rattle.std.specs.Prelude.{◌≡◌, List, ℕ, length}
use Rattle.rules.specs.Plan.{PlanAnswer}
use Rattle.rules.specs.Check.{check_answer, moves_answer}
use Rattle.rules.specs.Walked.{WalkAnswer}
use Rattle.rules.specs.Reply.{reply_of}
use Rattle.rules.specs.declared.Answer.{Answer}
use Rattle.rules.specs.declared.Planned.{Planned}
use Rattle.rules.specs.declared.Reply.{Reply}

-- plan's answer as a reply; its count is the number of pieces written. The lent table is left as plan leaves it.
pub record PlanReply (F m : ℕ) (budgets masks before : List ℕ) (r : Reply) (after : List ℕ) : Type 0 where
  pub planned : Planned
  pub answer : PlanAnswer F m budgets masks before planned after
  pub reply : r ≡ reply_of planned.answer planned.pieces

-- the table check's answer as a reply, which counts nothing
unfoldable pub check_reply : ℕ → ℕ → List ℕ → Reply
check_reply F m table = reply_of (check_answer F m table) 0

-- the move count's answer as a reply; its count is the moves
unfoldable pub moves_reply : ℕ → ℕ → List ℕ → Reply
moves_reply F m table = reply_of (moves_answer F m table).answer (moves_answer F m table).moves

-- walk's answer as a reply; its count is the number of finishes, one for each release. The lent list is left as walk leaves it.
pub record WalkReply (F m : ℕ) (table : List ℕ) (task : ℕ) (releases jobs before : List ℕ) (r : Reply) (after : List ℕ) : Type 0 where
  pub answer : Answer
  pub walked : WalkAnswer F m table task releases jobs before answer after
  pub reply : r ≡ reply_of answer (length releases)
