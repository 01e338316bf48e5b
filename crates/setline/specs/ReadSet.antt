-- What the reading of a line hands back, and what then stands in the two lent lists.
-- Assumes nothing.
use Rattle.std.specs.Prelude.{◌≡◌, true, List, ◌++◌, ℕ, ◌≤◌, length, drop, Option, Some, None}
use Rattle.rules.specs.Line.{line_tasks, line_budgets, line_masks, well_written}
use Rattle.setline.specs.Decoded.{line_header}
use Rattle.setline.specs.declared.Header.{Header}

-- the line is well written, and the two lists have room for its tasks
pub record Room (l b₀ m₀ : List ℕ) : Type 0 where
  pub written : well_written l ≡ true
  pub budgets : line_tasks l ≤ length b₀
  pub masks : line_tasks l ≤ length m₀

-- the line's set at the front of the lists, which held b₀ and m₀ and now hold b and m; or the line is refused and they keep what they held
pub data ReadSet (l b₀ m₀ : List ℕ) (r : Option Header) (b m : List ℕ) : Type 0 where
  read : Room l b₀ m₀ → r ≡ Some (line_header l)
      → b ≡ line_budgets l ++ drop (line_tasks l) b₀ → m ≡ line_masks l ++ drop (line_tasks l) m₀ → ReadSet l b₀ m₀ r b m
  refused : (Room l b₀ m₀ → ⊥) → r ≡ None → b ≡ b₀ → m ≡ m₀ → ReadSet l b₀ m₀ r b m
