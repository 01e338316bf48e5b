-- Each answer's number and what it carries, by the table of document 01 and by document 02, (ii).
-- Assumes nothing.
use mathlib.Core.Path.{◌≡◌, refl}
use mathlib.Core.List.{List, [], ◌∷◌}
use Prim.Native.Nat.{ℕ}
use Rattle.std.specs.Prelude.{Ok, Err}
use Rattle.rules.specs.Answer.{number_of, NumberOf, values_of, answer_of, AnswerOf}
use Rattle.rules.specs.declared.Answer.{Answer}
use Rattle.rules.specs.declared.Answer.TheVariants.{Accepted, FrameLength, CoreCount, TaskCount, EmptyMask, Budget, ShortTable, Overloaded, NotTable, JobList, NoUnits, ShortFinishes, BadLine, MissingCore}

-- an answer's number and values as one list
abbrev shown : Answer → List ℕ
shown a = number_of a ∷ values_of a

-- those that carry nothing
bare_values : shown Accepted ∷ shown FrameLength ∷ shown CoreCount ∷ shown TaskCount ∷ shown ShortTable ∷ shown NotTable ∷ shown ShortFinishes ∷ shown BadLine ∷ [] ≡
    (0 ∷ []) ∷ (1 ∷ []) ∷ (2 ∷ []) ∷ (3 ∷ []) ∷ (6 ∷ []) ∷ (8 ∷ []) ∷ (11 ∷ []) ∷ (12 ∷ []) ∷ []
bare_values = refl

-- "lowest such task", "job number", "first such job"
place_values : shown (EmptyMask 63) ∷ shown (Budget 63) ∷ shown (JobList 4095) ∷ shown (NoUnits 4095) ∷ [] ≡
    (4 ∷ 63 ∷ []) ∷ (5 ∷ 63 ∷ []) ∷ (9 ∷ 4095 ∷ []) ∷ (10 ∷ 4095 ∷ []) ∷ []
place_values = refl

-- "group and its cores"
group_values : shown (Overloaded 5 3) ≡ 7 ∷ 5 ∷ 3 ∷ []
group_values = refl

-- "the task and the lowest such core"
core_values : shown (MissingCore 63 15) ≡ 13 ∷ 63 ∷ 15 ∷ []
core_values = refl

-- tests that refuse nothing accept; a refusal is the answer
tested_values : answer_of (Ok tt) ∷ answer_of (Err (Budget 63)) ∷ [] ≡ Accepted ∷ Budget 63 ∷ []
tested_values = refl

-- what the two conversions say leaves one number, and one answer
number_said : (n : ℕ) → NumberOf BadLine n → n ≡ 12
number_said n e = e

answer_said : (a : Answer) → AnswerOf (Err (JobList 0)) a → a ≡ JobList 0
answer_said a e = e
