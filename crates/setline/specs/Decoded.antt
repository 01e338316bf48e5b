-- What decoding a line hands back.
-- Assumes nothing.
use Rattle.std.specs.Prelude.{◌≡◌, ℕ, ◌+◌, ◌%◌, ◌<◌, Bool, cond, ◌&&◌, eqb, leb, List, ◌++◌, length, drop, Option, Some, None}
use Rattle.rules.specs.Line.{field, line_frame, line_cores, line_tasks, task_fields, all_digits, well_written}
use Rattle.rules.specs.Sizes.{max_digits}
use Rattle.setline.specs.declared.Header.{Header}
use Rattle.setline.specs.declared.Task.{Task}

-- the fields before the tasks
pub record Headed (l : List ℕ) (h : Header) : Type 0 where
  pub frame : h.frame ≡ line_frame l
  pub cores : h.cores ≡ line_cores l
  pub tasks : h.tasks ≡ line_tasks l
  pub few : h.tasks < 256

abbrev pub line_header : List ℕ → Header
line_header l = record { frame = line_frame l; cores = line_cores l; tasks = line_tasks l }

-- a line has those fields, digits alone, and not too many
unfoldable pub has_header : List ℕ → Bool
has_header l = leb (length l) max_digits && all_digits l && eqb (length l % 2) 0 && leb 12 (length l)

-- the numbers before the tasks of a line that is well written
unfoldable pub header_of : List ℕ → Option Header
header_of l = cond (well_written l) (Some (line_header l)) None

-- the fields of the task whose bytes begin at byte p
pub record TaskAt (l : List ℕ) (p : ℕ) (t : Task) : Type 0 where
  pub budget : t.budget ≡ field l p 4
  pub mask : t.mask ≡ field l (p + 4) 2

-- the budgets and masks of n tasks at the front of two lists
pub record Tasked (l : List ℕ) (n : ℕ) (b₀ b m₀ m : List ℕ) : Type 0 where
  pub budgets : b ≡ task_fields l 0 4 n ++ drop n b₀
  pub masks : m ≡ task_fields l 4 2 n ++ drop n m₀
