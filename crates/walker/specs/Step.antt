-- What one step of the clock may rely on.
-- Assumes nothing.
use Rattle.std.specs.Prelude.{◌≡◌, List, ℕ, ◌+◌, ◌*◌, ◌^◌, ◌≤◌, ◌<◌, min, length}
use Rattle.walker.specs.Least.{FinishBy}
use Rattle.walker.specs.declared.span.Span.{Span}
use Rattle.walker.specs.Served.{served_to, units_of, Sorted}

-- a frame length of the sizes, and the task's stretches in it
pub record Ready (F : ℕ) (spans : List Span) : Type 0 where
  pub frame : 1 ≤ F
  pub short : F ≤ 1000000
  pub sorted : Sorted F spans

-- r is the frame's unit k: k units before r, and one more with it
pub record UnitAt (F : ℕ) (spans : List Span) (k r : ℕ) : Type 0 where
  pub within : r < F
  pub here : served_to spans (length spans) r ≡ k
  pub next : served_to spans (length spans) (r + 1) ≡ k + 1

-- a job that begins at `begin` and asks `job` units: where it asks some, a frame has one, and the finish fits
pub record StepReady (F total begin job : ℕ) : Type 0 where
  pub some : min 1 job ≤ total
  pub small : begin + job * F < 2 ^ 63

-- its finish, by the count of units, and how far away it may lie
pub record Stepped (F : ℕ) (spans : List Span) (begin job e : ℕ) : Type 0 where
  pub finish : FinishBy (units_of F spans) begin job e
  pub near : e ≤ begin + job * F
