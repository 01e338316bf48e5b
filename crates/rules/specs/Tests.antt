-- Document 01, "Numbered answers", with document 02, (ii): the tests 1, 2, 3, 4, 13, 5, 6, each over all tasks before the next.
-- Assumes nothing.
use Rattle.std.specs.Prelude.{ℕ, ◌+◌, ◌*◌, ◌/◌, ◌^◌, Bool, cond, not, ◌||◌, List, [], ◌∷◌, eqb, ltb, length, get_or, Result, Ok, Err}
use Rattle.rules.specs.Sizes.{max_frame, max_cores, max_tasks}
use Rattle.rules.specs.Sum.{first_at, lowest}
use Rattle.rules.specs.Sets.{has}
use Rattle.rules.specs.Piece.{whole_pieces}
use Rattle.rules.specs.declared.Answer.{Answer}
use Rattle.rules.specs.declared.Answer.TheVariants.{FrameLength, CoreCount, TaskCount, EmptyMask, Budget, ShortTable, MissingCore}
use Rattle.rules.specs.declared.MaskFault.{MaskFault}
use Rattle.rules.specs.declared.MaskFault.TheVariants.{Empty, Missing}

-- 1: "F is 0 or above 1,000,000"
unfoldable pub bad_frame : ℕ → Bool
bad_frame F = eqb F 0 || ltb max_frame F

-- 2: "m is 0 or above 16"
unfoldable pub bad_cores : ℕ → Bool
bad_cores m = eqb m 0 || ltb max_cores m

-- 3: "more than 64 tasks, or budgets and masks differ in number"
unfoldable pub bad_tasks : List ℕ → List ℕ → Bool
bad_tasks budgets masks = ltb max_tasks (length budgets) || not (eqb (length budgets) (length masks))

-- 4: "the empty mask"
unfoldable pub empty_mask : ℕ → Bool
empty_mask mask = eqb mask 0

-- 13: "a mask that names a missing core", which is a bit at or above m: shifted right by m something is left
unfoldable pub past_cores : ℕ → ℕ → Bool
past_cores m mask = not (eqb (mask / 2 ^ m) 0)

-- "the lowest such core": the lowest at or above m in a mask of 16 bits; 16 where there is none
unfoldable pub lowest_missing : ℕ → ℕ → ℕ
lowest_missing m mask = lowest max_cores (λ j. cond (ltb j m) 0 (has mask j))

-- "The mask test itself should promise this": what it says of one mask
unfoldable pub mask_tested : ℕ → ℕ → Result Unit MaskFault
mask_tested m mask = cond (empty_mask mask) (Err Empty) (cond (past_cores m mask) (Err (Missing (lowest_missing m mask))) (Ok tt))

-- 5: a budget "above F"
unfoldable pub bad_budget : ℕ → ℕ → Bool
bad_budget F budget = ltb F budget

-- 6: "lent table holds fewer than n + 2 × m − 1 pieces"
unfoldable pub short_table : ℕ → ℕ → ℕ → Bool
short_table n m room = ltb (room + 1) (n + 2 * m)

-- what tests say: a refusal, or passed
pub data Tested : Type 0 where
  refused : Answer → Tested
  passed : Tested

-- "the task": the lowest whose mask names a missing core
abbrev pub missing_task : ℕ → List ℕ → ℕ
missing_task m masks = first_at (past_cores m) masks

-- .. and "the lowest such core" of that task's mask
abbrev pub missing_core : ℕ → List ℕ → ℕ
missing_core m masks = lowest_missing m (get_or masks (missing_task m masks) 0)

-- the tests that look at the set alone, in their order: 13 is "tested after 4 over all tasks and before 5"
unfoldable pub tested_set : ℕ → ℕ → List ℕ → List ℕ → Tested
tested_set F m budgets masks =
    cond (bad_frame F) (refused FrameLength)
    (cond (bad_cores m) (refused CoreCount)
    (cond (bad_tasks budgets masks) (refused TaskCount)
    (cond (ltb (first_at empty_mask masks) (length masks)) (refused (EmptyMask (first_at empty_mask masks)))
    (cond (ltb (missing_task m masks) (length masks)) (refused (MissingCore (missing_task m masks) (missing_core m masks)))
    (cond (ltb (first_at (bad_budget F) budgets) (length budgets)) (refused (Budget (first_at (bad_budget F) budgets))) passed)))))

-- 6 comes after them: `short` says whether the lent table is
abbrev pub then_room : Bool → Tested → Tested
then_room short (refused a) = refused a
then_room short passed = cond short (refused ShortTable) passed

-- all of them
unfoldable pub tested : ℕ → ℕ → List ℕ → List ℕ → List ℕ → Tested
tested F m budgets masks table = then_room (short_table (length budgets) m (whole_pieces table)) (tested_set F m budgets masks)

-- the column "carries" of the answers that these tests give, by their number: "lowest such task" for 4 and 5, the task and the core for 13,
-- otherwise nothing
unfoldable pub plan_carries : ℕ → ℕ → List ℕ → List ℕ → ℕ → List ℕ
plan_carries F m budgets masks number =
    cond (eqb number 4) (first_at empty_mask masks ∷ [])
    (cond (eqb number 13) (missing_task m masks ∷ missing_core m masks ∷ [])
    (cond (eqb number 5) (first_at (bad_budget F) budgets ∷ []) []))
