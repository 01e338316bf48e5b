-- What the tests leave for the search and the table. These make the proofs easy and need no belief.
-- Assumes nothing.
use Rattle.std.specs.Prelude.{◌≡◌, List, ℕ, ◌+◌, ◌*◌, ◌/◌, ◌^◌, ◌≤◌, ◌<◌, length}
use Rattle.rules.specs.Plan.{at}

-- what the tests of the set leave: frame, cores and tasks within their sizes, masks below 2^m, budgets within the frame
pub record Given (F m : ℕ) (budgets masks : List ℕ) : Type 0 where
  pub frame_some : 1 ≤ F
  pub frame : F ≤ 1000000
  pub cores_some : 1 ≤ m
  pub cores : m ≤ 16
  pub tasks : length budgets ≤ 64
  pub paired : length masks ≡ length budgets
  pub narrow : (i : ℕ) → i < length budgets → at masks i < 2 ^ m
  pub small : (i : ℕ) → i < length budgets → at budgets i ≤ F

-- .. and the room that 6 asks
pub record Admitted (F m : ℕ) (budgets masks table : List ℕ) : Type 0 where
  pub given : Given F m budgets masks
  pub room : length budgets + 2 * m ≤ length table / 4 + 1
