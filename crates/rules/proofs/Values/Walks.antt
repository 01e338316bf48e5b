-- Units, begins, job lists and the walker's tests in their order, worked out by hand.
-- Assumes nothing.
use mathlib.Core.Path.{◌≡◌, refl}
use mathlib.Core.Bool.{true, false}
use mathlib.Core.List.{List, [], ◌∷◌}
use Prim.Native.Nat.{ℕ}
use lib.ListN.{replicate}
use Rattle.rules.specs.Sum.{sum_to, lowest}
use Rattle.rules.specs.Piece.{Piece, first_pieces}
use Rattle.rules.specs.FrameTable.{every, every_two, sound, ordered, overlap, core_apart, task_apart, frame_pieces, frame_table}
use Rattle.rules.specs.Service.{covers, covered, unit, units}
use Rattle.rules.specs.Finish.{begin_of}
use Rattle.rules.specs.Tests.{bad_frame, bad_cores, Tested, refused, passed}
use Rattle.rules.specs.Jobs.{bad_job_count, early, bad_job, first_bad_job, first_asking}
use Rattle.rules.specs.Walked.{walk_tested}
use Rattle.rules.specs.Plan.{at}
use Rattle.rules.specs.declared.Answer.TheVariants.{FrameLength, CoreCount, NotTable, JobList, NoUnits, ShortFinishes}

abbrev piece : ℕ → ℕ → ℕ → ℕ → Piece
piece core task start len = record { core = core; task = task; start = start; len = len }

-- task 3 from 2 up to, not including, 5
covers_edges :
    covers 3 1 (piece 0 3 2 3) ∷ covers 3 2 (piece 0 3 2 3) ∷ covers 3 4 (piece 0 3 2 3) ∷ covers 3 5 (piece 0 3 2 3) ∷ covers 4 3 (piece 0 3 2 3) ∷ covers 0 3 (piece 0 3 2 3) ∷ [] ≡
    false ∷ true ∷ true ∷ false ∷ false ∷ false ∷ []
unfolding covers
covers_edges = refl

-- by the first piece, by the last, by none
covered_values :
    covered 3 1 (piece 0 3 0 2 ∷ piece 1 3 4 2 ∷ []) ∷ covered 3 5 (piece 0 3 0 2 ∷ piece 1 3 4 2 ∷ []) ∷ covered 3 2 (piece 0 3 0 2 ∷ piece 1 3 4 2 ∷ []) ∷ [] ≡
    1 ∷ 1 ∷ 0 ∷ []
unfolding covers covered
covered_values = refl

-- F 6: "The table repeats from instant 0"
unit_values : unit 6 (piece 0 3 2 3 ∷ []) 3 2 ∷ unit 6 (piece 0 3 2 3 ∷ []) 3 7 ∷ unit 6 (piece 0 3 2 3 ∷ []) 3 8 ∷ unit 6 (piece 0 3 2 3 ∷ []) 3 10 ∷ unit 6 (piece 0 3 2 3 ∷ []) 3 11 ∷ [] ≡
    1 ∷ 0 ∷ 1 ∷ 1 ∷ 0 ∷ []
unfolding covers covered
unit_values = refl

units_values : units 6 (piece 0 3 2 3 ∷ []) 3 2 ∷ units 6 (piece 0 3 2 3 ∷ []) 3 3 ∷ units 6 (piece 0 3 2 3 ∷ []) 3 6 ∷ units 6 (piece 0 3 2 3 ∷ []) 3 9 ∷ [] ≡
    0 ∷ 1 ∷ 3 ∷ 4 ∷ []
unfolding covers covered sum_to
units_values = refl

-- the first job's release; then the finish of the job before, or a later release
begin_values :
    begin_of (at (3 ∷ 5 ∷ 7 ∷ [])) (at (9 ∷ 4 ∷ 20 ∷ [])) 0 ∷ begin_of (at (3 ∷ 5 ∷ 7 ∷ [])) (at (9 ∷ 4 ∷ 20 ∷ [])) 1 ∷ begin_of (at (3 ∷ 5 ∷ 7 ∷ [])) (at (9 ∷ 4 ∷ 20 ∷ [])) 2 ∷ [] ≡
    3 ∷ 9 ∷ 7 ∷ []
unfolding begin_of
begin_values = refl

-- "releases and units differ in number, or more than 4,096 jobs"
job_count_edges :
    bad_job_count [] [] ∷
    bad_job_count (1 ∷ []) [] ∷
    bad_job_count [] (1 ∷ []) ∷
    bad_job_count (replicate 4096 0) (replicate 4096 0) ∷
    bad_job_count (replicate 4097 0) (replicate 4097 0) ∷ [] ≡ false ∷ true ∷ true ∷ false ∷ true ∷ []
unfolding bad_job_count
job_count_edges = refl

-- the first has none before it; an equal release is not below
early_values : early (5 ∷ 7 ∷ 6 ∷ 6 ∷ []) 0 ∷ early (5 ∷ 7 ∷ 6 ∷ 6 ∷ []) 1 ∷ early (5 ∷ 7 ∷ 6 ∷ 6 ∷ []) 2 ∷ early (5 ∷ 7 ∷ 6 ∷ 6 ∷ []) 3 ∷ [] ≡
    false ∷ false ∷ true ∷ false ∷ []
unfolding early
early_values = refl

-- a release and units at their limits and one above, and a release below the one before it
job_edges :
    bad_job (1000000000000 ∷ []) (1000000 ∷ []) 0 ∷
    bad_job (5 ∷ 1000000000000 ∷ []) (1 ∷ 1000000 ∷ []) 1 ∷
    bad_job (5 ∷ 1000000000001 ∷ []) (1 ∷ 1000000 ∷ []) 1 ∷
    bad_job (5 ∷ 1000000000000 ∷ []) (1 ∷ 1000001 ∷ []) 1 ∷
    bad_job (5 ∷ 4 ∷ []) (1 ∷ 1 ∷ []) 1 ∷ [] ≡ 0 ∷ 0 ∷ 1 ∷ 1 ∷ 1 ∷ []
unfolding bad_job early
job_edges = refl

-- the first of two; the number of jobs where there is none
first_job_values : first_bad_job (5 ∷ 7 ∷ 6 ∷ 4 ∷ []) (1 ∷ 1 ∷ 1 ∷ 1 ∷ []) ∷ first_bad_job (5 ∷ 7 ∷ []) (1 ∷ 1 ∷ []) ∷ [] ≡ 2 ∷ 2 ∷ []
unfolding first_bad_job bad_job early lowest
first_job_values = refl

asking_values : first_asking (0 ∷ 0 ∷ 4 ∷ 5 ∷ []) ∷ first_asking (0 ∷ 0 ∷ 0 ∷ []) ∷ [] ≡ 2 ∷ 3 ∷ []
unfolding first_asking lowest
asking_values = refl

-- what the walker's tests say over a frame of six with one piece: task 3 on core 0 from 2 up to 5
abbrev said : ℕ → ℕ → List ℕ → ℕ → List ℕ → List ℕ → List ℕ → Tested
said = walk_tested

one_piece : List ℕ
one_piece = 0 ∷ 3 ∷ 2 ∷ 3 ∷ []

-- 1 before 2 before 8 before 9
tests_in_order :
    said 0 0 (1 ∷ []) 3 (5 ∷ []) [] [] ∷ said 6 0 (1 ∷ []) 3 (5 ∷ []) [] [] ∷ said 6 17 (1 ∷ []) 3 (5 ∷ []) [] [] ∷ said 6 1 (1 ∷ []) 3 (5 ∷ []) [] [] ∷ said 4 1 one_piece 3 [] [] [] ∷ [] ≡
    refused FrameLength ∷ refused CoreCount ∷ refused CoreCount ∷ refused NotTable ∷ refused NotTable ∷ []
unfolding one_piece walk_tested every every_two sound ordered overlap core_apart task_apart frame_pieces frame_table first_pieces bad_frame bad_cores bad_job_count first_bad_job bad_job early lowest first_asking covers covered sum_to
tests_in_order = refl

-- a job list that differs in number carries job 0, although job 1 has an early release; else the first bad job, before 10 and 11
jobs_in_order :
    said 6 1 one_piece 3 (5 ∷ 4 ∷ 3 ∷ []) (1 ∷ []) [] ∷ said 6 1 one_piece 2 (5 ∷ 4 ∷ 3 ∷ []) (1 ∷ 1 ∷ 1 ∷ []) [] ∷ [] ≡ refused (JobList 0) ∷ refused (JobList 1) ∷ []
unfolding one_piece walk_tested every every_two sound ordered overlap core_apart task_apart frame_pieces frame_table first_pieces bad_frame bad_cores bad_job_count first_bad_job bad_job early lowest first_asking covers covered sum_to
jobs_in_order = refl

-- 10 before 11, with "first such job"; a task without units whose jobs ask none passes, and so does one with units
units_in_order :
    said 6 1 one_piece 2 (1 ∷ 2 ∷ 3 ∷ []) (0 ∷ 1 ∷ 1 ∷ []) [] ∷
    said 6 1 one_piece 2 (1 ∷ 2 ∷ []) (0 ∷ 0 ∷ []) (0 ∷ []) ∷
    said 6 1 one_piece 2 (1 ∷ 2 ∷ []) (0 ∷ 0 ∷ []) (0 ∷ 0 ∷ []) ∷
    said 6 1 one_piece 3 (1 ∷ 2 ∷ []) (0 ∷ 1 ∷ []) (0 ∷ []) ∷
    said 6 1 one_piece 3 (1 ∷ 2 ∷ []) (0 ∷ 1 ∷ []) (0 ∷ 0 ∷ 0 ∷ []) ∷
    said 6 1 one_piece 3 [] [] [] ∷ [] ≡ refused (NoUnits 1) ∷ refused ShortFinishes ∷ passed ∷ refused ShortFinishes ∷ passed ∷ passed ∷ []
unfolding one_piece walk_tested every every_two sound ordered overlap core_apart task_apart frame_pieces frame_table first_pieces bad_frame bad_cores bad_job_count first_bad_job bad_job early lowest first_asking covers covered sum_to
units_in_order = refl
