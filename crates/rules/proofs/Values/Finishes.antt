-- A finish and a walk's answer, worked out by hand: each part of them is broken alone, and then it is none.
-- Assumes nothing.
use mathlib.Core.Path.{◌≡◌, refl, ap}
use mathlib.Core.List.{List, [], ◌∷◌}
use Prim.Native.Nat.{ℕ, zero, suc, ◌+◌, ◌≤◌, ◌<◌}
use native.Mathlib.Omega.{arith}
use lib.Dec.{lit≤, lit<}
use lib.ListN.{get_or}
use Rattle.rules.specs.Sum.{sum_to, lowest}
use Rattle.rules.specs.Piece.{Piece, first_pieces}
use Rattle.rules.specs.FrameTable.{every, every_two, sound, ordered, overlap, core_apart, task_apart, frame_pieces, frame_table}
use Rattle.rules.specs.Service.{covers, covered}
use Rattle.rules.specs.Finish.{Finish, begin_of}
use Rattle.rules.specs.Tests.{bad_frame, bad_cores}
use Rattle.rules.specs.Jobs.{bad_job_count, early, bad_job, first_bad_job, first_asking}
use Rattle.rules.specs.Answer.{number_of}
use Rattle.rules.specs.Walked.{WalkAnswer, WalkDone, walk_tested}
use Rattle.rules.specs.declared.Answer.{Answer}
use Rattle.rules.specs.declared.Answer.TheVariants.{Accepted, FrameLength, NotTable, JobList}

-- F 6: task 3 on core 0 from 2 up to 5
abbrev pieces : List Piece
pieces = record { core = 0; task = 3; start = 2; len = 3 } ∷ []

-- "A job of 0 units finishes at its begin"
nothing_asked : Finish 6 pieces 3 1 0 1
unfolding covers covered sum_to
nothing_asked = record { not_before = lit≤ tt; enough = lit≤ tt; least = λ d l h. l }

-- "not before the begin": the instant before has as many units
too_soon : Finish 6 pieces 3 1 0 0 → ⊥
too_soon h = omega (arith, h.not_before)

-- "the least": the begin itself is earlier
too_late : Finish 6 pieces 3 1 0 2 → ⊥
unfolding covers covered sum_to
too_late h = omega (arith, h.least 1 (lit≤ tt) (lit≤ tt))

-- two units from 1 on: 3 has one of them, 4 both
one_missing : Finish 6 pieces 3 1 2 3 → ⊥
unfolding covers covered sum_to
one_missing h =
    let e : 0 + 2 ≤ 1 = h.enough in
    omega arith

-- the begin itself is not before and not late, but has nothing
all_missing : Finish 6 pieces 3 1 2 1 → ⊥
unfolding covers covered sum_to
all_missing h =
    let e : 0 + 2 ≤ 0 = h.enough in
    omega arith

one_more : Finish 6 pieces 3 1 2 5 → ⊥
unfolding covers covered sum_to
one_more h = omega (arith, h.least 4 (lit≤ tt) (lit≤ tt))

-- a refused walk keeps its list
refused_keeps : (r : Answer) (after : List ℕ) → WalkAnswer 0 1 [] 3 (1 ∷ []) (0 ∷ []) (7 ∷ []) r after → (r ≡ FrameLength) × (after ≡ 7 ∷ [])
unfolding walk_tested bad_frame
refused_keeps r after h = (h.answer, h.kept)

refused_so : WalkAnswer 0 1 [] 3 (1 ∷ []) (0 ∷ []) (7 ∷ []) FrameLength (7 ∷ [])
unfolding walk_tested bad_frame
refused_so = record { answer = refl; kept = refl }

-- the second release is below the first, the units are not
refused_early : (r : Answer) (after : List ℕ) → WalkAnswer 6 1 (0 ∷ 3 ∷ 2 ∷ 3 ∷ []) 3 (5 ∷ 4 ∷ []) (0 ∷ 0 ∷ []) (7 ∷ 8 ∷ []) r after
    → (r ≡ JobList 1) × (after ≡ 7 ∷ 8 ∷ [])
unfolding walk_tested every every_two sound ordered overlap core_apart task_apart frame_pieces frame_table first_pieces bad_frame bad_cores bad_job_count first_bad_job bad_job early lowest first_asking covers covered sum_to
refused_early r after h = (h.answer, h.kept)

-- one job of 0 units, released at 1, on a lent list of three places: the first holds its finish, the others keep
abbrev Walk : Answer → List ℕ → Type 0
Walk r after = WalkAnswer 6 1 (0 ∷ 3 ∷ 2 ∷ 3 ∷ []) 3 (1 ∷ []) (0 ∷ []) (7 ∷ 8 ∷ 9 ∷ []) r after

walked : Walk Accepted (1 ∷ 8 ∷ 9 ∷ [])
unfolding walk_tested every every_two sound ordered overlap core_apart task_apart frame_pieces frame_table first_pieces bad_frame bad_cores bad_job_count first_bad_job bad_job early lowest first_asking covers covered sum_to begin_of
walked = record { answer = refl; finishes = at_one; size = refl; kept = refl }
  where
    at_one : (k : ℕ) → k < 1 → Finish 6 pieces 3 (begin_of (λ i. get_or (1 ∷ []) i 0) (λ i. get_or (1 ∷ 8 ∷ 9 ∷ []) i 0) k) (get_or (0 ∷ []) k 0) (get_or (1 ∷ 8 ∷ 9 ∷ []) k 0)
    at_one zero l = nothing_asked
    at_one (suc k) l = absurd (far l)
      where
        far : suc (suc k) ≤ 1 → ⊥
        far l = omega arith

other_answer : Walk NotTable (1 ∷ 8 ∷ 9 ∷ []) → ⊥
unfolding walk_tested every every_two sound ordered overlap core_apart task_apart frame_pieces frame_table first_pieces bad_frame bad_cores bad_job_count first_bad_job bad_job early lowest first_asking covers covered sum_to
other_answer h =
    let e : ◌≡◌ {A = ℕ} 8 0 = ap number_of h.answer in
    omega arith

other_finish : Walk Accepted (2 ∷ 8 ∷ 9 ∷ []) → ⊥
unfolding walk_tested every every_two sound ordered overlap core_apart task_apart frame_pieces frame_table first_pieces bad_frame bad_cores bad_job_count first_bad_job bad_job early lowest first_asking covers covered sum_to begin_of
other_finish h = too_late (h.finishes 0 (lit< tt))

-- "finish places beyond the job count, keep what they held"
other_rest : Walk Accepted (1 ∷ 8 ∷ 0 ∷ []) → ⊥
unfolding walk_tested every every_two sound ordered overlap core_apart task_apart frame_pieces frame_table first_pieces bad_frame bad_cores bad_job_count first_bad_job bad_job early lowest first_asking covers covered sum_to
other_rest h =
    let e : ◌≡◌ {A = ℕ} 0 9 = ap (λ (l : List ℕ). get_or l 1 0) h.kept in
    omega arith

-- a place that is lost is not one that holds 0
lost_place : WalkDone 6 (0 ∷ 3 ∷ 2 ∷ 3 ∷ []) 3 (0 ∷ []) (0 ∷ []) (7 ∷ []) Accepted [] → ⊥
lost_place h =
    let e : ◌≡◌ {A = ℕ} 0 1 = h.size in
    omega arith
