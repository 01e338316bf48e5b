-- The tests 9, 10 and 11 apart from the table's, as the code runs them one after another.
-- Assumes nothing.
use Rattle.std.specs.Prelude.{◌≡◌, Bool, cond, not, ◌&&◌, List, ℕ, ◌≤◌, ◌<◌, min, eqb, ltb, length, get_or, drop, Option, None, Some}
use Rattle.rules.specs.Tests.{Tested, refused, passed}
use Rattle.rules.specs.Finish.{begin_of}
use Rattle.rules.specs.Jobs.{bad_job, bad_job_count, first_bad_job, first_asking}
use Rattle.rules.specs.Piece.{pieces_of}
use Rattle.rules.specs.Service.{units}
use Rattle.rules.specs.Walked.{WalkRefusal, WalkAnswerAt}
use Rattle.rules.specs.declared.Answer.{Answer}
use Rattle.rules.specs.declared.Answer.TheVariants.{Accepted, JobList, NoUnits, ShortFinishes}
use Rattle.walker.specs.declared.span.Span.{Span}
use Rattle.walker.specs.Served.{units_of}
use Rattle.walker.specs.Least.{FinishBy}

-- a place below n, or none
abbrev pub place : ℕ → ℕ → Option ℕ
place k n = cond (ltb k n) (Some k) None

-- job k has a fault
abbrev pub is_bad : List ℕ → List ℕ → ℕ → Bool
is_bad releases jobs k = not (eqb (bad_job releases jobs k) 0)

-- "walked task has no units in the table and a job asks units": the first such job
abbrev pub waiting : ℕ → List ℕ → Option ℕ
waiting total jobs = cond (eqb total 0) (place (first_asking jobs) (length jobs)) None

-- what test 9 says
unfoldable pub tested_jobs : List ℕ → List ℕ → Tested
tested_jobs releases jobs =
    cond (bad_job_count releases jobs) (refused (JobList 0))
    (cond (ltb (first_bad_job releases jobs) (length releases)) (refused (JobList (first_bad_job releases jobs))) passed)

-- a job list that passes test 9
pub record JobsGood (releases jobs : List ℕ) : Type 0 where
  pub same : length jobs ≡ length releases
  pub few : length releases ≤ 4096
  pub release : (k : ℕ) → k < length releases → get_or releases k 0 ≤ 1000000000000
  pub job : (k : ℕ) → k < length releases → get_or jobs k 0 ≤ 1000000

-- what all the steps may rely on, beside a good job list
pub record AllReady (releases jobs before : List ℕ) (total : ℕ) : Type 0 where
  pub asked : (k : ℕ) → k < length jobs → min 1 (get_or jobs k 0) ≤ total
  pub room : length releases ≤ length before

module _ (F : ℕ) (spans : List Span) (releases jobs before : List ℕ) where
  -- answers 10 and 11
  unfoldable pub spans_tested : Tested
  spans_tested =
      cond (eqb (units_of F spans F) 0 && ltb (first_asking jobs) (length jobs)) (refused (NoUnits (first_asking jobs)))
      (cond (ltb (length before) (length releases)) (refused ShortFinishes) passed)

  -- each job's place holds its finish by the count of units; what lies beyond keeps
  pub record Finished (after : List ℕ) : Type 0 where
    pub finishes : (k : ℕ) → k < length releases
        → FinishBy (units_of F spans) (begin_of (λ k. get_or releases k 0) (λ k. get_or after k 0) k) (get_or jobs k 0) (get_or after k 0)
    pub size : length after ≡ length before
    pub kept : drop (length releases) after ≡ drop (length releases) before

  pub record SpansDone (r : Answer) (after : List ℕ) : Type 0 where
    pub answer : r ≡ Accepted
    pub finished : Finished after

  abbrev pub SpansAnswerAt : Tested → Answer → List ℕ → Type 0
  SpansAnswerAt (refused a) r after = WalkRefusal a before r after
  SpansAnswerAt passed r after = SpansDone r after

  abbrev pub SpansAnswer : Answer → List ℕ → Type 0
  SpansAnswer r after = SpansAnswerAt spans_tested r after

module _ (F : ℕ) (table : List ℕ) (task : ℕ) (releases jobs before : List ℕ) where
  -- answers 10 and 11 by the rules' units
  unfoldable pub task_tested : Tested
  task_tested =
      cond (eqb (units F (pieces_of table) task F) 0 && ltb (first_asking jobs) (length jobs)) (refused (NoUnits (first_asking jobs)))
      (cond (ltb (length before) (length releases)) (refused ShortFinishes) passed)

  abbrev pub TaskAnswer : Answer → List ℕ → Type 0
  TaskAnswer r after = WalkAnswerAt task_tested F table task releases jobs before r after
