-- Any two answers that the contract of `excess` allows are equal.
-- Assumes nothing.
use mathlib.Core.Path.{◌≡◌, sym, ◌∙◌}
use mathlib.Core.List.{List}
use Prim.Native.Nat.{ℕ, ◌-◌}
use lib.ListN.{length}
use Rattle.rules.specs.Allocation.{limit_of}
use Rattle.rules.specs.Plan.{at}
use Rattle.rules.specs.Excess.{group_budget, capacity}

pub excess_unique : (F : ℕ) (budgets : List ℕ) (g c : ℕ) {r q : ℕ} → r ≡ group_budget (length budgets) (at budgets) g - capacity 16 (limit_of F) c
    → q ≡ group_budget (length budgets) (at budgets) g - capacity 16 (limit_of F) c → r ≡ q
excess_unique F budgets g c a b = a ∙ sym b
