-- The answer of walk over all inputs: "The walker tests 1, 2, 8, 9, 10, 11." What the lent list of finishes holds afterwards.
-- Assumes nothing.
use Rattle.std.specs.Prelude.{◌≡◌, cond, ◌&&◌, List, [], ◌∷◌, ℕ, eqb, ltb, length, get_or, drop}
use Rattle.rules.specs.Tests.{Tested, refused, passed, bad_frame, bad_cores}
use Rattle.rules.specs.Piece.{pieces_of}
use Rattle.rules.specs.FrameTable.{frame_table}
use Rattle.rules.specs.Service.{units}
use Rattle.rules.specs.Finish.{Finishes}
use Rattle.rules.specs.Jobs.{bad_job_count, first_bad_job, first_asking}
use Rattle.rules.specs.declared.Answer.{Answer}
use Rattle.rules.specs.declared.Answer.TheVariants.{Accepted, FrameLength, CoreCount, NotTable, JobList, NoUnits, ShortFinishes}

-- what the tests 1, 2, 8, 9, 10, 11 say. "walked task has no units in the table": none in a frame.
unfoldable pub walk_tested : ℕ → ℕ → List ℕ → ℕ → List ℕ → List ℕ → List ℕ → Tested
walk_tested F m table task releases jobs finishes =
    cond (bad_frame F) (refused FrameLength)
    (cond (bad_cores m) (refused CoreCount)
    (cond (frame_table F m table)
    (cond (bad_job_count releases jobs) (refused (JobList 0))
    (cond (ltb (first_bad_job releases jobs) (length releases)) (refused (JobList (first_bad_job releases jobs)))
    (cond (eqb (units F (pieces_of table) task F) 0 && ltb (first_asking jobs) (length jobs)) (refused (NoUnits (first_asking jobs)))
    (cond (ltb (length finishes) (length releases)) (refused ShortFinishes) passed))))
    (refused NotTable)))

-- the column "carries" of these answers, by their number: the job of 9, which is 0 where the lists differ in number or are too long, and the
-- "first such job" of 10
unfoldable pub walk_carries : List ℕ → List ℕ → ℕ → List ℕ
walk_carries releases jobs number =
    cond (eqb number 9) (cond (bad_job_count releases jobs) 0 (first_bad_job releases jobs) ∷ []) (cond (eqb number 10) (first_asking jobs ∷ []) [])

-- a refusal: the lent list keeps all
pub record WalkRefusal (a : Answer) (before : List ℕ) (r : Answer) (after : List ℕ) : Type 0 where
  pub answer : r ≡ a
  pub kept : after ≡ before

-- accepted: each job's place holds its finish; places beyond the job count keep, and the list keeps its length
pub record WalkDone (F : ℕ) (table : List ℕ) (task : ℕ) (releases jobs before : List ℕ) (r : Answer) (after : List ℕ) : Type 0 where
  pub answer : r ≡ Accepted
  pub finishes : Finishes F (pieces_of table) task (length releases) (λ k. get_or releases k 0) (λ k. get_or jobs k 0) (λ k. get_or after k 0)
  pub size : length after ≡ length before
  pub kept : drop (length releases) after ≡ drop (length releases) before

abbrev pub WalkAnswerAt : Tested → ℕ → List ℕ → ℕ → List ℕ → List ℕ → List ℕ → Answer → List ℕ → Type 0
WalkAnswerAt (refused a) F table task releases jobs before r after = WalkRefusal a before r after
WalkAnswerAt passed F table task releases jobs before r after = WalkDone F table task releases jobs before r after

-- walk may answer r and leave `after` in the lent list, which held `before`
abbrev pub WalkAnswer : ℕ → ℕ → List ℕ → ℕ → List ℕ → List ℕ → List ℕ → Answer → List ℕ → Type 0
WalkAnswer F m table task releases jobs before r after =
    WalkAnswerAt (walk_tested F m table task releases jobs before) F table task releases jobs before r after
