-- A set written as a line: "In: F (4 bytes), m (1), n (1), then per task budget (4) and mask (2)", and when its numbers fit their fields.
-- Assumes nothing.
use Rattle.std.specs.Prelude.{ℕ, ◌^◌, ◌<◌, ◌≡◌, List, [], ◌∷◌, ◌++◌, length, get_or}
use Rattle.rules.specs.Line.{bytes}

-- "per task budget (4) and mask (2)"
unfoldable pub task_lines : List ℕ → List ℕ → List ℕ
task_lines [] masks = []
task_lines (budget ∷ budgets) [] = []
task_lines (budget ∷ budgets) (mask ∷ masks) = bytes 4 budget ++ (bytes 2 mask ++ task_lines budgets masks)

unfoldable pub set_line : ℕ → ℕ → List ℕ → List ℕ → List ℕ
set_line F m budgets masks = bytes 4 F ++ (bytes 1 m ++ (bytes 1 (length budgets) ++ task_lines budgets masks))

-- each number fits the bytes of its field, and n its one byte
pub record Fits (F m : ℕ) (budgets masks : List ℕ) : Type 0 where
  pub frame : F < 2 ^ 32
  pub cores : m < 2 ^ 8
  pub tasks : length budgets < 2 ^ 8
  pub same : length budgets ≡ length masks
  pub budget : (i : ℕ) → i < length budgets → get_or budgets i 0 < 2 ^ 32
  pub mask : (i : ℕ) → i < length masks → get_or masks i 0 < 2 ^ 16
