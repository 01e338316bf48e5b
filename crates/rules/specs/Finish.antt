-- Document 01, "The job walker": begin and finish of a job.
-- Assumes nothing.
use Rattle.std.specs.Prelude.{ℕ, zero, suc, ◌+◌, ◌≤◌, ◌<◌, max, List}
use Rattle.rules.specs.Piece.{Piece}
use Rattle.rules.specs.Service.{units}

-- "the least instant e, not before the begin, such that the task has at least the job's units from begin up to, not including, e":
-- the units before e are those before the begin and the job's at least
pub record Finish (F : ℕ) (ps : List Piece) (task begin job e : ℕ) : Type 0 where
  pub not_before : begin ≤ e
  pub enough : units F ps task begin + job ≤ units F ps task e
  pub least : (d : ℕ) → begin ≤ d → units F ps task begin + job ≤ units F ps task d → e ≤ d

-- "A job's begin is the later of its release and the previous job's finish (first job: its release)"
unfoldable pub begin_of : (ℕ → ℕ) → (ℕ → ℕ) → ℕ → ℕ
begin_of release finish zero = release zero
begin_of release finish (suc k) = max (release (suc k)) (finish k)

-- each of the first count jobs has its finish
abbrev pub Finishes : ℕ → List Piece → ℕ → ℕ → (ℕ → ℕ) → (ℕ → ℕ) → (ℕ → ℕ) → Type 0
Finishes F ps task count release job finish = (k : ℕ) → k < count → Finish F ps task (begin_of release finish k) (job k) (finish k)
