-- Any two answers that the contract of walk allows for one input are equal, and so are the lists that it leaves.
-- Assumes nothing.
use mathlib.Core.Path.{◌≡◌}
use mathlib.Core.List.{List}
use Prim.Native.Nat.{ℕ}
use Rattle.rules.specs.Walked.{walk_tested, WalkAnswer}
use Rattle.rules.specs.declared.Answer.{Answer}
use Rattle.rules.proofs.Walked.{walked_unique}

pub walk_answer_unique : (F m : ℕ) (table : List ℕ) (task : ℕ) (releases jobs before : List ℕ) (r s : Answer) (x y : List ℕ)
    → WalkAnswer F m table task releases jobs before r x → WalkAnswer F m table task releases jobs before s y → (r ≡ s) × (x ≡ y)
walk_answer_unique F m table task releases jobs before r s x y p q =
    walked_unique F table task releases jobs before r s x y (walk_tested F m table task releases jobs before) p q
