-- The tests 1, 2, 3, 4, 13, 5, 6: each at its edges, and each pair that stand one after another in their order.
-- Assumes nothing.
use mathlib.Core.Path.{◌≡◌, refl}
use mathlib.Core.Bool.{true, false}
use mathlib.Core.List.{[], ◌∷◌}
use lib.ListN.{replicate}
use Rattle.std.specs.Prelude.{Ok, Err}
use Rattle.rules.specs.Sum.{first_at, lowest}
use Rattle.rules.specs.Sets.{has}
use Rattle.rules.specs.Tests.{tested_set, bad_frame, bad_cores, bad_tasks, empty_mask, past_cores, lowest_missing, mask_tested, bad_budget, short_table, refused, passed, tested}
use Rattle.rules.specs.declared.Answer.TheVariants.{FrameLength, CoreCount, TaskCount, EmptyMask, Budget, ShortTable, MissingCore}
use Rattle.rules.specs.declared.MaskFault.TheVariants.{Empty, Missing}

-- "1 to 1,000,000"
frame_edges : bad_frame 0 ∷ bad_frame 1 ∷ bad_frame 1000000 ∷ bad_frame 1000001 ∷ [] ≡ true ∷ false ∷ false ∷ true ∷ []
unfolding bad_frame
frame_edges = refl

-- "1 to 16"
core_edges : bad_cores 0 ∷ bad_cores 1 ∷ bad_cores 16 ∷ bad_cores 17 ∷ [] ≡ true ∷ false ∷ false ∷ true ∷ []
unfolding bad_cores
core_edges = refl

-- "0 to 64", and as many masks as budgets
task_edges :
    bad_tasks [] [] ∷
    bad_tasks (replicate 64 1) (replicate 64 1) ∷
    bad_tasks (replicate 65 1) (replicate 65 1) ∷
    bad_tasks (1 ∷ 1 ∷ []) (1 ∷ []) ∷
    bad_tasks (1 ∷ []) (1 ∷ 1 ∷ []) ∷ [] ≡ false ∷ false ∷ true ∷ true ∷ true ∷ []
unfolding bad_tasks
task_edges = refl

empty_edges : empty_mask 0 ∷ empty_mask 1 ∷ empty_mask 0x8000 ∷ [] ≡ true ∷ false ∷ false ∷ []
unfolding empty_mask
empty_edges = refl

-- two cores: {0}, {0,1} and {} name none that is missing, {2} and {0,2} do; sixteen cores have all sixteen bits and no more
past_edges :
    past_cores 2 0b01 ∷ past_cores 2 0b11 ∷ past_cores 2 0b00 ∷ past_cores 2 0b100 ∷ past_cores 2 0b101 ∷ past_cores 16 0xffff ∷ past_cores 16 0x10000 ∷ [] ≡
    false ∷ false ∷ false ∷ true ∷ true ∷ false ∷ true ∷ []
unfolding past_cores
past_edges = refl

-- two cores: {0,2} misses 2, {15} misses 15, {3,15} and {0,1,3,4} miss 3 first; fifteen cores: 15; none in {0,1}, and none of sixteen
lowest_edges :
    lowest_missing 2 0b101 ∷ lowest_missing 2 0x8000 ∷ lowest_missing 2 0x8008 ∷ lowest_missing 2 0b11011 ∷ lowest_missing 15 0xffff ∷ lowest_missing 2 0b11 ∷
    lowest_missing 16 0xffff ∷ [] ≡ 2 ∷ 15 ∷ 3 ∷ 3 ∷ 15 ∷ 16 ∷ 16 ∷ []
unfolding lowest_missing lowest has
lowest_edges = refl

-- an empty mask is not also one without missing cores
mask_values : mask_tested 2 0b00 ∷ mask_tested 2 0b11 ∷ mask_tested 2 0x8008 ∷ mask_tested 16 0xffff ∷ [] ≡ Err Empty ∷ Ok tt ∷ Err (Missing 3) ∷ Ok tt ∷ []
unfolding mask_tested empty_mask past_cores lowest_missing lowest has
mask_values = refl

budget_edges : bad_budget 9 0 ∷ bad_budget 9 9 ∷ bad_budget 9 10 ∷ [] ≡ false ∷ false ∷ true ∷ []
unfolding bad_budget
budget_edges = refl

-- three tasks on two cores want 3 + 2 × 2 − 1 = 6 pieces
room_edges : short_table 3 2 5 ∷ short_table 3 2 6 ∷ short_table 3 2 7 ∷ short_table 0 1 0 ∷ short_table 0 1 1 ∷ [] ≡ true ∷ false ∷ false ∷ true ∷ false ∷ []
unfolding short_table
room_edges = refl

-- F 0 beside m 0, m 0 beside unlike lists, unlike lists beside an empty mask
frame_first : tested 0 0 [] [] [] ≡ refused FrameLength
unfolding tested tested_set bad_frame bad_cores bad_tasks empty_mask past_cores bad_budget first_at
frame_first = refl

cores_next : tested 9 0 (9 ∷ []) [] [] ≡ refused CoreCount
unfolding tested tested_set bad_frame bad_cores bad_tasks empty_mask past_cores bad_budget first_at
cores_next = refl

tasks_next : tested 9 2 (10 ∷ 10 ∷ []) (0 ∷ []) [] ≡ refused TaskCount
unfolding tested tested_set bad_frame bad_cores bad_tasks empty_mask past_cores bad_budget first_at
tasks_next = refl

-- unlike lists beside a missing core
tasks_before_missing : tested 9 2 (1 ∷ []) (4 ∷ 4 ∷ []) [] ≡ refused TaskCount
unfolding tested tested_set bad_frame bad_cores bad_tasks empty_mask past_cores bad_budget first_at
tasks_before_missing = refl

-- an empty mask of task 1 beside a missing core of task 0: 13 is "tested after 4 over all tasks"
empty_before_missing : tested 9 2 (1 ∷ 1 ∷ 1 ∷ []) (4 ∷ 0 ∷ 0 ∷ []) [] ≡ refused (EmptyMask 1)
unfolding tested tested_set bad_frame bad_cores bad_tasks empty_mask past_cores bad_budget first_at
empty_before_missing = refl

-- an empty mask of task 1 beside a bad budget of task 0
empty_before_budget : tested 9 2 (10 ∷ 1 ∷ []) (1 ∷ 0 ∷ []) [] ≡ refused (EmptyMask 1)
unfolding tested tested_set bad_frame bad_cores bad_tasks empty_mask past_cores bad_budget first_at
empty_before_budget = refl

-- missing cores of tasks 1 and 2 beside a bad budget of task 0: 13 is tested "before 5", and names the lowest task, though task 2 misses a lower core
missing_before_budget : tested 9 2 (10 ∷ 1 ∷ 1 ∷ []) (3 ∷ 0b11001 ∷ 4 ∷ []) [] ≡ refused (MissingCore 1 3)
unfolding tested tested_set bad_frame bad_cores bad_tasks empty_mask past_cores lowest_missing lowest has bad_budget first_at
missing_before_budget = refl

-- "lowest such task", beside a table without room
budget_before_room : tested 9 2 (9 ∷ 10 ∷ 10 ∷ []) (1 ∷ 2 ∷ 3 ∷ []) [] ≡ refused (Budget 1)
unfolding tested tested_set bad_frame bad_cores bad_tasks empty_mask past_cores bad_budget first_at
budget_before_room = refl

-- one task on one core wants two whole pieces: seven numbers are one piece
short_value : tested 9 1 (9 ∷ []) (1 ∷ []) (replicate 7 0) ≡ refused ShortTable
unfolding tested tested_set bad_frame bad_cores bad_tasks empty_mask past_cores bad_budget first_at short_table
short_value = refl

room_value : tested 9 1 (9 ∷ []) (1 ∷ []) (replicate 8 0) ≡ passed
unfolding tested tested_set bad_frame bad_cores bad_tasks empty_mask past_cores bad_budget first_at short_table
room_value = refl

-- two tasks on one core want three: the room goes by the tasks first, then by the cores
unlike_room : tested 9 1 (4 ∷ 5 ∷ []) (1 ∷ 1 ∷ []) (replicate 12 0) ≡ passed
unfolding tested tested_set bad_frame bad_cores bad_tasks empty_mask past_cores bad_budget first_at short_table
unlike_room = refl

no_tasks_value : tested_set 9 1 [] [] ≡ passed
unfolding tested_set bad_frame bad_cores bad_tasks empty_mask past_cores bad_budget first_at
no_tasks_value = refl
