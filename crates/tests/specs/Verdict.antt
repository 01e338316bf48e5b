-- What the code's tests say, in the words of the rules.
-- Assumes nothing.
use Rattle.std.specs.Prelude.{ℕ, ◌<◌, cond, List, ltb, length, get_or, Result, Ok, Err, OnOk, IfErr}
use Rattle.std.specs.List.{HoldsAt}
use Rattle.rules.specs.Sum.{first_at}
use Rattle.rules.specs.Tests.{Tested, refused, passed, bad_frame, bad_cores, empty_mask, missing_task, missing_core, bad_budget}
use Rattle.rules.specs.declared.Answer.{Answer}
use Rattle.rules.specs.declared.Answer.TheVariants.{FrameLength, CoreCount, EmptyMask, Budget, MissingCore}

abbrev pub verdict_of : Result Unit Answer → Tested
verdict_of (Err a) = refused a
verdict_of (Ok _) = passed

-- the tests 1 and 2, the first two of `tested_set`
unfoldable pub tested_rack : ℕ → ℕ → Tested
tested_rack F m = cond (bad_frame F) (refused FrameLength) (cond (bad_cores m) (refused CoreCount) passed)

-- the tests 4, 13 and 5, the last three of `tested_set`, each alone
unfoldable pub tested_empty : List ℕ → Tested
tested_empty masks = cond (ltb (first_at empty_mask masks) (length masks)) (refused (EmptyMask (first_at empty_mask masks))) passed

unfoldable pub tested_missing : ℕ → List ℕ → Tested
tested_missing m masks = cond (ltb (missing_task m masks) (length masks)) (refused (MissingCore (missing_task m masks) (missing_core m masks))) passed

unfoldable pub tested_budgets : ℕ → List ℕ → Tested
tested_budgets F budgets = cond (ltb (first_at (bad_budget F) budgets) (length budgets)) (refused (Budget (first_at (bad_budget F) budgets))) passed

-- A test over a list, where Says i x r is that the test of the value x at place i may answer r: nothing below n is refused, ..
abbrev pub NoneRefused : {X : Type 0} → (ℕ → X → Result Unit Answer → Type 0) → List X → ℕ → Type 0
NoneRefused {X} Says xs n = (k : ℕ) (d : X) → k < n → Says k (get_or xs k d) (Ok tt)

-- .. and the first refusal
pub record FirstRefusal {X : Type 0} (Says : ℕ → X → Result Unit Answer → Type 0) (xs : List X) (r : Result Unit Answer) : Type 0 where
  pub passed : OnOk r (NoneRefused Says xs (length xs))
  pub refused : IfErr r (λ a. (i : ℕ) × (i < length xs) × HoldsAt (λ x. Says i x (Err a)) xs i × NoneRefused Says xs i)
