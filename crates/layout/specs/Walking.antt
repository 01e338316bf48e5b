-- How the code keeps a walk of specs/Layout.antt: three sets, where each core starts, and through which task it was reached.
-- These make the proofs easy and need no belief.
-- Assumes nothing.
use Rattle.std.specs.Prelude.{◌≡◌, List, ℕ, ◌+◌, ◌*◌, ◌≤◌, ◌<◌, length, get_or, cond, eqb, ltb, Option, Some, None}
use Rattle.rules.specs.Sizes.{max_frame, max_tasks, max_cores}
use Rattle.rules.specs.Sum.{sum_to}
use Rattle.rules.specs.Sets.{has}
use Rattle.rules.specs.Layout.{Walk}
use Rattle.stretches.specs.Cell.{cell}
use Rattle.stretches.specs.Small.{Small, Bounded}
use Rattle.layout.specs.Ahead.{number_of}
use Rattle.layout.specs.declared.walking.Begin.{Begin}
use Rattle.layout.specs.declared.walking.Walked.{Walked}

-- "The group's lowest core is its root and starts at 0"
abbrev pub root : Begin
root = record { at = 0; first = None }

-- the walk that the code's values stand for
abbrev pub walk_of : Walked → Walk
walk_of s =
    record {
      visited = has s.visited;
      reached = has s.reached;
      met = has s.met;
      start = λ j. (get_or s.begins j root).at;
      first = λ j. number_of (get_or s.begins j root).first;
    }

-- the code's values stand for this walk
pub record Kept (w : Walk) (s : Walked) : Type 0 where
  pub same : walk_of s ≡ w
  pub long : length s.begins ≡ 16

-- no core starts later once c cores were visited: each task that a visit meets puts a start off by at most what its core and its own row hold
abbrev pub latest_start : ℕ → ℕ
latest_start c = c * (max_tasks * (2 * max_frame))

-- before a task reaches its cores
pub record Reaching (n m : ℕ) (units : List ℕ) (task core at : ℕ) (s : Walked) : Type 0 where
  pub task_few : task < n
  pub core_few : core < m
  pub row : sum_to m (cell units task) ≤ max_frame
  pub at_few : at ≤ latest_start max_cores + max_frame
  pub long : length s.begins ≡ 16

-- before tasks are met on a core
pub record Meeting (n m : ℕ) (units : List ℕ) (core b : ℕ) (s : Walked) : Type 0 where
  pub small : Small n m (cell units)
  pub core_few : core < m
  pub bounded : Bounded n b (walk_of s)
  pub long : length s.begins ≡ 16

-- the cores of a set that were not visited
abbrev pub left_of : ℕ → ℕ → ℕ → ℕ
left_of wanted visited j = has wanted j * cond (eqb (has visited j) 0) 1 0

-- a core below m; m and more stand for none
abbrev pub below : ℕ → ℕ → Option ℕ
below m j = cond (ltb j m) (Some j) None
