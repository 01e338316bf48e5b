-- The answers of a walk: one law for each return.
-- Assumes nothing.
use mathlib.Core.Path.{◌≡◌, refl, sym, ◌∙◌, ap}
use mathlib.Core.Bool.{Bool, true, false, cond, ◌&&◌}
use mathlib.Core.List.{List}
use Prim.Native.Nat.{ℕ, ◌+◌, ◌*◌, ◌≤◌, ◌<◌, min}
use native.Mathlib.Nat.{le_refl}
use native.Mathlib.Decide.{ℕ_discrete}
use native.Mathlib.Omega.{arith}
use lib.Dec.{eqb, ltb}
use lib.ListN.{length, get_or}
use borrow.Author.Tests.{lt-ltb, le-ltb, eq-eqb, ltb-false}
use Rattle.rules.specs.Tests.{Tested, refused, passed, bad_frame, bad_cores}
use Rattle.rules.specs.Piece.{pieces_of}
use Rattle.rules.specs.FrameTable.{frame_table}
use Rattle.rules.specs.Service.{units}
use Rattle.rules.specs.Finish.{Finish}
use Rattle.rules.specs.Jobs.{bad_job_count, first_bad_job, first_asking}
use Rattle.rules.specs.Answer.{number_of}
use Rattle.rules.specs.Walked.{walk_tested, WalkAnswerAt, WalkAnswer}
use Rattle.rules.specs.declared.Answer.{Answer}
use Rattle.rules.specs.declared.Answer.TheVariants.{Accepted, FrameLength, CoreCount, NotTable, JobList, NoUnits, ShortFinishes}
use Rattle.std.specs.Prelude.{Option, None, Some}
use Rattle.table.specs.Tested.{tested_table}
use Rattle.table.proofs.Tested.{answered, table_answered}
use Rattle.moves.proofs.Rest.{some_same, some_not_none}
use Rattle.table.proofs.Accepted.{check_accepted, frame_some, frame_short}
use Rattle.walker.specs.declared.span.Span.{Span}
use Rattle.walker.specs.Served.{served_to, units_of}
use Rattle.walker.specs.Least.{FinishBy}
use Rattle.walker.specs.Step.{Ready}
use Rattle.walker.specs.Gathered.{FrameOf, Gathered}
use Rattle.walker.specs.Jobs.{waiting, tested_jobs, spans_tested, Finished, SpansAnswerAt, SpansAnswer, AllReady, task_tested, TaskAnswer}
use Rattle.walker.proofs.Units.{units_at}
use Rattle.walker.proofs.Gathering.{gathered_units}
use Rattle.walker.proofs.Jobs.{nothing_asked}

module _ (F : ℕ) (spans : List Span) (releases jobs before : List ℕ) (total : ℕ) (ready : Ready F spans)
    (counted : total ≡ served_to spans (length spans) F) where
  frame_units : units_of F spans F ≡ total
  frame_units = ap (units_of F spans) (once F) ∙ units_at spans F ready.sorted ready.frame 0 F (le_refl _) ∙ zero_plus _ ∙ sym counted
    where
      once : (n : ℕ) → n ≡ 0 * n + n
      once n = omega arith

      zero_plus : (n : ℕ) → 0 * n + n ≡ n
      zero_plus n = omega arith

  -- whether some job waits for units that never come
  lacks : Bool
  lacks = eqb total 0 && ltb (first_asking jobs) (length jobs)

  tested : spans_tested F spans releases jobs before
      ≡ cond lacks (refused (NoUnits (first_asking jobs))) (cond (ltb (length before) (length releases)) (refused ShortFinishes) passed)
  unfolding spans_tested lacks
  tested = rw frame_units

  as_option : waiting total jobs ≡ cond lacks (Some (first_asking jobs)) None
  unfolding lacks
  as_option = go (eqb total 0) (ltb (first_asking jobs) (length jobs))
    where
      go : (a b : Bool) → ◌≡◌ {A = Option ℕ} (cond a (cond b (Some (first_asking jobs)) None) None) (cond (a && b) (Some (first_asking jobs)) None)
      go true b = refl
      go false b = refl

  some_lacks : (job : ℕ) → Some job ≡ cond lacks (Some (first_asking jobs)) None → (lacks ≡ true) × (job ≡ first_asking jobs)
  some_lacks job e = go lacks e
    where
      go : (b : Bool) → Some job ≡ cond b (Some (first_asking jobs)) None → (b ≡ true) × (job ≡ first_asking jobs)
      go true h = (refl, some_same _ _ h)
      go false h = absurd (some_not_none _ h)

  none_lacks : None ≡ cond lacks (Some (first_asking jobs)) None → lacks ≡ false
  none_lacks e = go lacks e
    where
      go : (b : Bool) → None ≡ cond b (Some (first_asking jobs)) None → b ≡ false
      go true h = absurd (some_not_none _ (sym h))
      go false h = refl

  pub spans_lacks : (job : ℕ) → Some job ≡ waiting total jobs → SpansAnswer F spans releases jobs before (NoUnits job) before
  spans_lacks job e = go (some_lacks job (e ∙ as_option))
    where
      go : (lacks ≡ true) × (job ≡ first_asking jobs) → SpansAnswer F spans releases jobs before (NoUnits job) before
      go p = rw (tested, p.0, p.1) (record { answer = refl; kept = refl })

  module _ (none : None ≡ waiting total jobs) where
    n : lacks ≡ false
    n = none_lacks (none ∙ as_option)

    pub spans_short : length before < length releases → SpansAnswer F spans releases jobs before ShortFinishes before
    spans_short h = rw (tested, n, lt-ltb _ _ h) (record { answer = refl; kept = refl })

    module _ (room : length releases ≤ length before) where
      pub spans_ready : AllReady releases jobs before total
      unfolding lacks
      spans_ready = record { asked = asked; room = room }
        where
          idle : total ≡ 0 → length jobs ≤ first_asking jobs
          idle e = ltb-false _ _ (rw (eq-eqb _ _ e) at n)

          asked : (k : ℕ) → k < length jobs → min 1 (get_or jobs k 0) ≤ total
          asked k h =
              elim (ℕ_discrete total 0) [ yes e ↦ omega (arith, nothing_asked jobs (idle e) k h) | no e ↦ omega arith ]

      pub spans_done : (after : List ℕ) → Finished F spans releases jobs before after → SpansAnswer F spans releases jobs before Accepted after
      spans_done after f = rw (tested, n, le-ltb _ _ room) (record { answer = refl; finished = f })

-- from the count over the stretches to the rules' units
module _ (F : ℕ) (l : List ℕ) (task : ℕ) (spans : List Span) (releases jobs before : List ℕ) (gathered : Gathered F l task spans) where
  same_test : spans_tested F spans releases jobs before ≡ task_tested F l task releases jobs before
  unfolding spans_tested task_tested
  same_test = rw (gathered_units F l task spans gathered F)

  by_rules : (begin job e : ℕ) → FinishBy (units_of F spans) begin job e → Finish F (pieces_of l) task begin job e
  by_rules begin job e f =
      record {
        not_before = f.not_before;
        enough = omega (arith, f.enough, same begin, same e);
        least = λ d h g. f.least d h (omega (arith, same begin, same d));
      }
    where
      same : (e : ℕ) → units_of F spans e ≡ units F (pieces_of l) task e
      same = gathered_units F l task spans gathered

  pub task_answer : (r : Answer) (after : List ℕ) → SpansAnswer F spans releases jobs before r after → TaskAnswer F l task releases jobs before r after
  task_answer r after a = rw (← same_test) (go (spans_tested F spans releases jobs before) a)
    where
      go : (t : Tested) → SpansAnswerAt F spans releases jobs before t r after → WalkAnswerAt t F l task releases jobs before r after
      go (refused x) h = h
      go passed h =
          record {
            answer = h.answer;
            finishes = λ k g. by_rules _ _ _ (h.finished.finishes k g);
            size = h.finished.size;
            kept = h.finished.kept;
          }

-- the tests 1, 2, 8 and 9
module _ (F m : ℕ) (l : List ℕ) (task : ℕ) (releases jobs before : List ℕ) where
  then_tested : Tested → Tested → Tested
  then_tested (refused a) t = refused a
  then_tested passed t = t

  split : walk_tested F m l task releases jobs before ≡ then_tested (tested_table F m l) (then_tested (tested_jobs releases jobs) (task_tested F l task releases jobs before))
  unfolding walk_tested task_tested tested_table tested_jobs then_tested
  split = go (bad_frame F) (bad_cores m) (frame_table F m l) (bad_job_count releases jobs) (ltb (first_bad_job releases jobs) (length releases)) _
    where
      go : (b c f j k : Bool) (t : Tested)
          → cond b (refused FrameLength) (cond c (refused CoreCount) (cond f (cond j (refused (JobList 0)) (cond k (refused (JobList (first_bad_job releases jobs))) t)) (refused NotTable)))
          ≡ then_tested (cond b (refused FrameLength) (cond c (refused CoreCount) (cond f passed (refused NotTable)))) (then_tested (cond j (refused (JobList 0)) (cond k (refused (JobList (first_bad_job releases jobs))) passed)) t)
      go true c f j k t = refl
      go false true f j k t = refl
      go false false false j k t = refl
      go false false true true k t = refl
      go false false true false true t = refl
      go false false true false false t = refl

  pub walk_not_table : (a : Answer) → refused a ≡ tested_table F m l → WalkAnswer F m l task releases jobs before a before
  unfolding then_tested
  walk_not_table a e = rw (split, ← e) (record { answer = refl; kept = refl })

  module _ (framed : passed ≡ tested_table F m l) where
    pub walk_frame : FrameOf F l
    walk_frame = of (check_accepted F m l (ap number_of (table_answered F m l ∙ ap answered (sym framed))))
      where
        of : (bad_frame F ≡ false) × (bad_cores m ≡ false) × (frame_table F m l ≡ true) → FrameOf F l
        of p = record { cores = m; some = frame_some F p.0; short = frame_short F p.0; table = p.2 }

    pub walk_bad_jobs : (a : Answer) → refused a ≡ tested_jobs releases jobs → WalkAnswer F m l task releases jobs before a before
    unfolding then_tested
    walk_bad_jobs a e = rw (split, ← framed, ← e) (record { answer = refl; kept = refl })

    pub walk_done : passed ≡ tested_jobs releases jobs → (r : Answer) (after : List ℕ) → TaskAnswer F l task releases jobs before r after → WalkAnswer F m l task releases jobs before r after
    unfolding then_tested
    walk_done listed r after w = rw (split, ← framed, ← listed) w
