-- P1's check and moves; P9 and P10, by the definition of finish: the instant before it has too few units, and units never fall.
-- Assumes nothing.
use mathlib.Core.Path.{◌≡◌, refl, ◌∙◌, ap, subst, subst⁻¹}
use mathlib.Core.List.{List, [], ◌∷◌, ◌++◌}
use Prim.Native.Nat.{ℕ, zero, suc, ◌+◌, ◌-◌, ◌≤◌, ◌<◌}
use native.Mathlib.Omega.{arith}
use lib.Dec.{lit<, lit≤}
use lib.ListN.{length, drop, length-append, length-drop}
use lib.Seq.{drop_at}
use borrow.Author.Tests.{le-ltb}
use Rattle.rules.specs.Sum.{sum_to, lowest}
use Rattle.rules.specs.Piece.{first_pieces, pieces_of}
use Rattle.rules.specs.FrameTable.{every, every_two, sound, ordered, overlap, core_apart, task_apart, frame_pieces, frame_table}
use Rattle.rules.specs.Moves.{insert, by_start, changes_after, changes, moves}
use Rattle.rules.specs.Service.{covers, covered, units}
use Rattle.rules.specs.Finish.{Finish, begin_of, Finishes}
use Rattle.rules.specs.Paced.{Paced, Bounded}
use Rattle.rules.specs.Tests.{Tested, passed, bad_frame, bad_cores}
use Rattle.rules.specs.Plan.{at}
use Rattle.rules.specs.Check.{check_answer, moves_answer}
use Rattle.rules.specs.Jobs.{bad_job_count, early, bad_job, first_bad_job, first_asking}
use Rattle.rules.specs.Walked.{walk_tested, WalkDone, WalkAnswerAt}
use Rattle.rules.specs.Settled.{OnlyFinishes, Holds, moved, finishes, paced, tableP1}
use Rattle.rules.specs.declared.Answer.TheVariants.{Accepted}
use Rattle.rules.proofs.Walked.{walked_unique}
use Rattle.rules.proofs.Settled.Steps.{finish_step}
use Rattle.rules.proofs.Settled.Bounds.{bounded10, far2}

-- where the tests pass and these are the finishes, walk has one answer
module _ (F m : ℕ) (table : List ℕ) (task : ℕ) (releases jobs fs : List ℕ)
    (pass : (before : List ℕ) → length releases ≤ length before → walk_tested F m table task releases jobs before ≡ passed)
    (places : length fs ≡ length releases)
    (all : (before : List ℕ) → Finishes F (pieces_of table) task (length releases) (at releases) (at jobs) (at (fs ++ drop (length fs) before))) where
  left : List ℕ → List ℕ
  left before = fs ++ drop (length fs) before

  done : (before : List ℕ) → length releases ≤ length before → WalkDone F table task releases jobs before Accepted (left before)
  unfolding left
  done before room =
      record {
        answer = refl;
        finishes = all before;
        size = whole (length-append fs (drop (length fs) before)) (length-drop (length fs) before);
        kept = drop_at fs (drop (length fs) before) (length releases) places ∙ ap (λ (k : ℕ). drop k before) places;
      }
    where
      whole : {a : ℕ} {b : ℕ} → a ≡ length fs + b → b ≡ length before - length fs → a ≡ length before
      whole e g = omega (arith, places, room)

  pub walk_only : OnlyFinishes F m table task releases jobs fs
  unfolding left
  walk_only =
      record {
        only = λ before room r after h.
            walked_unique F table task releases jobs before r Accepted after (left before) passed
            (subst (λ (t : Tested). WalkAnswerAt t F table task releases jobs before r after) (pass before room) h) (done before room);
        some = λ before room. (
          Accepted,
          left before,
          subst⁻¹ (λ (t : Tested). WalkAnswerAt t F table task releases jobs before Accepted (left before)) (pass before room) (done before room),
        );
      }

pub moved1 : Holds (moved 6 2 tableP1 1)
unfolding check_answer moves_answer bad_frame bad_cores every every_two sound ordered overlap core_apart task_apart frame_pieces frame_table first_pieces insert by_start changes_after changes moves sum_to
moved1 = (refl, refl)

pass9 : (before : List ℕ) → 1 ≤ length before → walk_tested 6 2 tableP1 0 (1 ∷ []) (4 ∷ []) before ≡ passed
unfolding walk_tested bad_frame bad_cores every every_two sound ordered overlap core_apart task_apart frame_pieces frame_table first_pieces bad_job_count early bad_job first_bad_job first_asking lowest covers covered sum_to
pass9 before room = rw (le-ltb (length before) 1 room)

first9 : Finish 6 (pieces_of tableP1) 0 1 4 7
unfolding first_pieces covers covered sum_to
first9 = finish_step 6 (pieces_of tableP1) 0 1 4 6 (lit≤ tt) (lit≤ tt) (lit< tt)

all9 : (before : List ℕ) → Finishes 6 (pieces_of tableP1) 0 1 (at (1 ∷ [])) (at (4 ∷ [])) (at (7 ∷ drop 1 before))
unfolding begin_of
all9 before zero l = first9
all9 before (suc k) l = absurd (far l)
  where
    far : suc (suc k) ≤ 1 → ⊥
    far l = omega arith

pub finishes9 : Holds (finishes 6 2 tableP1 0 (1 ∷ []) (4 ∷ []) (7 ∷ []))
finishes9 = walk_only 6 2 tableP1 0 (1 ∷ []) (4 ∷ []) (7 ∷ []) pass9 refl all9

pass10 : (before : List ℕ) → 2 ≤ length before → walk_tested 6 2 tableP1 0 (4 ∷ 13 ∷ []) (6 ∷ 6 ∷ []) before ≡ passed
unfolding walk_tested bad_frame bad_cores every every_two sound ordered overlap core_apart task_apart frame_pieces frame_table first_pieces bad_job_count early bad_job first_bad_job first_asking lowest covers covered sum_to
pass10 before room = rw (le-ltb (length before) 2 room)

first10 : Finish 6 (pieces_of tableP1) 0 4 6 14
unfolding first_pieces covers covered sum_to
first10 = finish_step 6 (pieces_of tableP1) 0 4 6 13 (lit≤ tt) (lit≤ tt) (lit< tt)

second10 : Finish 6 (pieces_of tableP1) 0 14 6 22
unfolding first_pieces covers covered sum_to
second10 = finish_step 6 (pieces_of tableP1) 0 14 6 21 (lit≤ tt) (lit≤ tt) (lit< tt)

all10 : (before : List ℕ) → Finishes 6 (pieces_of tableP1) 0 2 (at (4 ∷ 13 ∷ [])) (at (6 ∷ 6 ∷ [])) (at (14 ∷ 22 ∷ drop 2 before))
unfolding begin_of
all10 before zero l = first10
all10 before (suc zero) l = second10
all10 before (suc (suc k)) l = absurd (far2 k l)

pub finishes10 : Holds (finishes 6 2 tableP1 0 (4 ∷ 13 ∷ []) (6 ∷ 6 ∷ []) (14 ∷ 22 ∷ []))
finishes10 = walk_only 6 2 tableP1 0 (4 ∷ 13 ∷ []) (6 ∷ 6 ∷ []) (14 ∷ 22 ∷ []) pass10 refl all10

premises10 : Paced 6 (units 6 (pieces_of tableP1) 0 6) 9 6 2 (at (4 ∷ 13 ∷ [])) (at (6 ∷ 6 ∷ []))
unfolding first_pieces covers covered sum_to
premises10 = record { enough = lit≤ tt; apart = apart; small = small }
  where
    apart : (k : ℕ) → suc k < 2 → at (4 ∷ 13 ∷ []) k + 9 ≤ at (4 ∷ 13 ∷ []) (suc k)
    apart zero l = lit≤ tt
    apart (suc k) l = absurd (far2 k l)

    small : (k : ℕ) → k < 2 → at (6 ∷ 6 ∷ []) k ≤ 6
    small zero l = lit≤ tt
    small (suc zero) l = lit≤ tt
    small (suc (suc k)) l = absurd (far2 k l)

pub paced10 : Holds (paced 6 2 tableP1 0 (4 ∷ 13 ∷ []) (6 ∷ 6 ∷ []) 9 6 13 19)
paced10 =
    record {
      premises = premises10;
      bounded = λ before room r after h.
          subst⁻¹ (λ (l : List ℕ). Bounded 6 9 2 (at (4 ∷ 13 ∷ [])) (at l)) (finishes10.only before room r after h).1 (bounded10 (drop 2 before));
      with_period = refl;
      with_frame = refl;
      first = λ before room r after h.
          subst⁻¹ (λ (l : List ℕ). (13 < at l 0) × (at l 0 ≤ 19)) (finishes10.only before room r after h).1 (lit< tt, lit≤ tt);
    }
