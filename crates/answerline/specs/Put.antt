-- What the writing of an answer's line hands back, and what then stands in the lent output.
-- Assumes nothing.
use Rattle.std.specs.Prelude.{◌≡◌, List, ◌++◌, ℕ, ◌*◌, ◌≤◌, length, drop}
use Rattle.rules.specs.Sizes.{least_output, max_pieces}
use Rattle.rules.specs.Piece.{first_pieces}
use Rattle.rules.specs.Line.{answer_line}
use Rattle.rules.specs.declared.Answer.{Answer}

-- the output holds any line, and the table has the pieces
pub record Room (table : List ℕ) (pieces : ℕ) (before : List ℕ) : Type 0 where
  pub output : least_output ≤ length before
  pub few : pieces ≤ max_pieces
  pub held : 4 * pieces ≤ length table

-- the answer's line at the front of the output, and how many bytes it has; or there is no room, and the output keeps what it held
pub data PutAnswer (a : Answer) (table : List ℕ) (pieces : ℕ) (before : List ℕ) (r : ℕ) (after : List ℕ) : Type 0 where
  put : Room table pieces before → (line : List ℕ) → line ≡ answer_line a (first_pieces table pieces)
      → r ≡ length line → after ≡ line ++ drop (length line) before → PutAnswer a table pieces before r after
  refused : (Room table pieces before → ⊥) → r ≡ 0 → after ≡ before → PutAnswer a table pieces before r after
