-- What an accepted walk says: the tests passed, and each place holds its job's finish. The bound follows.
-- Assumes nothing.
use mathlib.Core.Path.{◌≡◌, refl, sym, ◌∙◌, ap}
use mathlib.Core.Bool.{Bool, true, false, cond, ◌&&◌, true≢false}
use mathlib.Core.List.{List}
use Prim.Native.Nat.{ℕ, ◌≤◌}
use lib.Dec.{eqb, ltb}
use lib.ListN.{length, get_or}
use Rattle.rules.specs.Tests.{refused, passed, bad_frame, bad_cores}
use Rattle.rules.specs.Piece.{pieces_of}
use Rattle.rules.specs.FrameTable.{frame_table}
use Rattle.rules.specs.Service.{units}
use Rattle.rules.specs.Paced.{Paced, Bounded}
use Rattle.rules.specs.Jobs.{bad_job_count, first_bad_job, first_asking}
use Rattle.rules.specs.Walked.{walk_tested, WalkRefusal, WalkDone, WalkAnswerAt, WalkAnswer}
use Rattle.rules.specs.Answer.{number_of}
use Rattle.rules.specs.declared.Answer.{Answer}
use Rattle.rules.specs.declared.Answer.TheVariants.{Accepted, FrameLength, CoreCount, NotTable, JobList, NoUnits, ShortFinishes}
use Rattle.table.proofs.Accepted.{frame_some}
use Rattle.walker.proofs.Bound.{paced_bounded}

-- whether the answer is 0
abbrev accepts : Answer → Bool
accepts a = eqb (number_of a) 0

module _ (F m : ℕ) (table : List ℕ) (task : ℕ) (releases jobs before : List ℕ) (r : Answer) (after : List ℕ)
    (answer : WalkAnswer F m table task releases jobs before r after) (yes-answer : r ≡ Accepted) where
  never : (a : Answer) → accepts a ≡ false → WalkRefusal a before r after → ⊥
  never a e w = true≢false (sym (ap accepts (sym w.answer ∙ yes-answer)) ∙ e)

  -- a refusal carries another answer, so each test passed
  go : (b c f j k u n : Bool) (x y : Answer) → accepts x ≡ false → accepts y ≡ false
      → WalkAnswerAt (cond b (refused FrameLength) (cond c (refused CoreCount) (cond f (cond j (refused (JobList 0)) (cond k (refused x) (cond u (refused y) (cond n (refused ShortFinishes) passed)))) (refused NotTable)))) F table task releases jobs before r after
      → ((b ≡ false) × (c ≡ false) × (f ≡ true)) × WalkDone F table task releases jobs before r after
  go true c f j k u n x y p q w = absurd (never FrameLength refl w)
  go false true f j k u n x y p q w = absurd (never CoreCount refl w)
  go false false false j k u n x y p q w = absurd (never NotTable refl w)
  go false false true true k u n x y p q w = absurd (never (JobList 0) refl w)
  go false false true false true u n x y p q w = absurd (never x p w)
  go false false true false false true n x y p q w = absurd (never y q w)
  go false false true false false false true x y p q w = absurd (never ShortFinishes refl w)
  go false false true false false false false x y p q w = ((refl, refl, refl), w)

  all : ((bad_frame F ≡ false) × (bad_cores m ≡ false) × (frame_table F m table ≡ true)) × WalkDone F table task releases jobs before r after
  unfolding walk_tested
  all =
      go (bad_frame F) (bad_cores m) (frame_table F m table) (bad_job_count releases jobs) (ltb (first_bad_job releases jobs) (length releases))
      (eqb (units F (pieces_of table) task F) 0 && ltb (first_asking jobs) (length jobs)) (ltb (length before) (length releases))
      (JobList (first_bad_job releases jobs)) (NoUnits (first_asking jobs)) refl refl answer

  pub accepted_frame : 1 ≤ F
  accepted_frame = frame_some F all.0.0

  pub accepted_done : WalkDone F table task releases jobs before r after
  accepted_done = all.1

  -- the bound, over what walk hands back
  pub walked_bounded : (T c : ℕ) → Paced F (units F (pieces_of table) task F) T c (length releases) (λ k. get_or releases k 0) (λ k. get_or jobs k 0)
      → Bounded F T (length releases) (λ k. get_or releases k 0) (λ k. get_or after k 0)
  walked_bounded T c h =
      paced_bounded F (pieces_of table) task T c (length releases) (λ k. get_or releases k 0) (λ k. get_or jobs k 0) (λ k. get_or after k 0) accepted_frame h
      accepted_done.finishes
