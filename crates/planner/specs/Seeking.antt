-- The search for a cycle, over the values that the code holds.
-- Assumes nothing.
use Rattle.std.specs.Prelude.{◌≡◌, ℕ, suc, ◌<◌, Option, Some, None}
use Rattle.rules.specs.Sets.{has}
use Rattle.forest.specs.Path.{Place, FirstThere}
use Rattle.forest.specs.Stripping.{Stripping, Fast}
use Rattle.planner.specs.declared.peel.Gone.{Gone}

-- what is gone was loose when it went
abbrev pub Stripped : ℕ → ℕ → (ℕ → ℕ → ℕ) → Gone → Type 0
Stripped n m x o = Stripping n m x o.tasks o.cores

-- nothing is loose any more
abbrev pub Bare : ℕ → ℕ → (ℕ → ℕ → ℕ) → Gone → Type 0
Bare n m x o = Fast n m x o.tasks o.cores

-- the lowest task that is still there, or none where all are gone
abbrev pub TaskLeft : ℕ → ℕ → Option ℕ → Type 0
TaskLeft n gone (Some r) = (r < n) × FirstThere n gone r
TaskLeft n gone None = FirstThere n gone n

-- the first place of v among the first c of a list, or none where it does not stand there
abbrev pub PlaceIn : (ℕ → ℕ) → ℕ → ℕ → Option ℕ → Type 0
PlaceIn list c v (Some r) = (r < c) × Place list c v r
PlaceIn list c v None = Place list c v c

-- r is the core before place k, where there is one
abbrev pub Came : (ℕ → ℕ) → ℕ → Option ℕ → Type 0
Came core k r = (i : ℕ) → suc i ≡ k → r ≡ Some (core i)

-- what is known before a cycle is sought
pub record SeekReady (n m : ℕ) (x : ℕ → ℕ → ℕ) (gone : Gone) (start : ℕ) : Type 0 where
  pub below : start < n
  pub still : has gone.tasks start ≡ 0
  pub fast : Bare n m x gone
