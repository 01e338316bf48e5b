-- What walk's answers carry, by the rules' number and values: the column "carries".
-- Assumes nothing.
use mathlib.Core.Path.{◌≡◌, refl, sym, ◌∙◌, ap}
use mathlib.Core.Bool.{Bool, true, false, cond, ◌&&◌}
use mathlib.Core.List.{List, [], ◌∷◌}
use Prim.Native.Nat.{ℕ}
use lib.Dec.{eqb, ltb}
use lib.ListN.{length}
use Rattle.rules.specs.Answer.{number_of, values_of}
use Rattle.rules.specs.Tests.{refused, passed, bad_frame, bad_cores}
use Rattle.rules.specs.Piece.{pieces_of}
use Rattle.rules.specs.FrameTable.{frame_table}
use Rattle.rules.specs.Service.{units}
use Rattle.rules.specs.Jobs.{bad_job_count, first_bad_job, first_asking}
use Rattle.rules.specs.Walked.{walk_tested, walk_carries, WalkAnswerAt, WalkAnswer}
use Rattle.rules.specs.declared.Answer.{Answer}
use Rattle.rules.specs.declared.Answer.TheVariants.{FrameLength, CoreCount, NotTable, JobList, NoUnits, ShortFinishes}

-- what a number carries where 9 carries the first bad job i, or 0, and 10 the first asking job j
abbrev Carries : Bool → ℕ → ℕ → Answer → Type 0
Carries b i j a = values_of a ≡ cond (eqb (number_of a) 9) (cond b 0 i ∷ []) (cond (eqb (number_of a) 10) (j ∷ []) [])

module _ (F m : ℕ) (table : List ℕ) (task : ℕ) (releases jobs before : List ℕ) (r : Answer) (after : List ℕ) where
  carries_as : (b : Bool) (i j : ℕ) (a : Answer) → r ≡ a → Carries b i j a → Carries b i j r
  carries_as b i j a e h = ap values_of e ∙ h ∙ ap (λ (x : Answer). cond (eqb (number_of x) 9) (cond b 0 i ∷ []) (cond (eqb (number_of x) 10) (j ∷ []) [])) (sym e)

  tests_carry : (b c f d k u n : Bool) (i j : ℕ)
      → WalkAnswerAt (cond b (refused FrameLength) (cond c (refused CoreCount) (cond f (cond d (refused (JobList 0)) (cond k (refused (JobList i)) (cond u (refused (NoUnits j)) (cond n (refused ShortFinishes) passed)))) (refused NotTable)))) F table task releases jobs before r after
      → Carries d i j r
  tests_carry true c f d k u n i j w = carries_as d i j _ w.answer refl
  tests_carry false true f d k u n i j w = carries_as d i j _ w.answer refl
  tests_carry false false false d k u n i j w = carries_as d i j _ w.answer refl
  tests_carry false false true true k u n i j w = carries_as true i j _ w.answer refl
  tests_carry false false true false true u n i j w = carries_as false i j _ w.answer refl
  tests_carry false false true false false true n i j w = carries_as false i j _ w.answer refl
  tests_carry false false true false false false true i j w = carries_as false i j _ w.answer refl
  tests_carry false false true false false false false i j w = carries_as false i j _ w.answer refl

  pub walk_carries_lem : WalkAnswer F m table task releases jobs before r after → values_of r ≡ walk_carries releases jobs (number_of r)
  unfolding walk_tested walk_carries
  walk_carries_lem w =
      tests_carry (bad_frame F) (bad_cores m) (frame_table F m table) (bad_job_count releases jobs) (ltb (first_bad_job releases jobs) (length releases))
      (eqb (units F (pieces_of table) task F) 0 && ltb (first_asking jobs) (length jobs)) (ltb (length before) (length releases)) (first_bad_job releases jobs)
      (first_asking jobs) w
