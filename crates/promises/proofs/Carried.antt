-- What plan's answers carry, by the rules' number and values: the column "carries", for every number that the tests give.
-- Assumes nothing.
use mathlib.Core.Path.{◌≡◌, refl, sym, ◌∙◌, ap, subst}
use mathlib.Core.Bool.{cond}
use mathlib.Core.List.{List, [], ◌∷◌}
use Prim.Native.Nat.{ℕ}
use lib.Dec.{eqb}
use Rattle.rules.specs.Sum.{first_at}
use Rattle.rules.specs.Answer.{number_of, values_of}
use Rattle.rules.specs.Tests.{Tested, refused, passed, tested, empty_mask, missing_task, missing_core, bad_budget, plan_carries}
use Rattle.rules.specs.Plan.{Decided, planned, overloaded, PlanAnswer, PlanAnswerAt}
use Rattle.rules.specs.declared.Answer.{Answer}
use Rattle.rules.specs.declared.Planned.{Planned}
use Rattle.tests.proofs.Cases.{tested_cases}

-- what a number carries where 4 carries i, 13 carries k and c, and 5 carries j
abbrev Carries : ℕ → ℕ → ℕ → ℕ → Tested → Type 0
Carries i k c j (refused a) = values_of a ≡ cond (eqb (number_of a) 4) (i ∷ []) (cond (eqb (number_of a) 13) (k ∷ c ∷ []) (cond (eqb (number_of a) 5) (j ∷ []) []))
Carries i k c j passed = Unit {0}

module _ (F m : ℕ) (budgets masks before : List ℕ) where
  refused_carries : (a : Answer) → tested F m budgets masks before ≡ refused a → values_of a ≡ plan_carries F m budgets masks (number_of a)
  unfolding plan_carries
  refused_carries a e = subst carries e (tested_cases F m budgets masks before carries refl refl refl (λ z e. refl) (λ z e k. refl) (λ z g b. refl) (λ z g s. refl) (λ z g. tt))
    where
      carries : Tested → Type 0
      carries = Carries (first_at empty_mask masks) (missing_task m masks) (missing_core m masks) (first_at (bad_budget F) budgets)

  module _ (r : Planned) (after : List ℕ) where
    carries_as : (a : Answer) → r.answer ≡ a → values_of a ≡ plan_carries F m budgets masks (number_of a)
        → values_of r.answer ≡ plan_carries F m budgets masks (number_of r.answer)
    carries_as a e h = ap values_of e ∙ h ∙ ap (λ (b : Answer). plan_carries F m budgets masks (number_of b)) (sym e)

    decided_carries : Decided F m budgets masks before r after → (number_of r.answer ≡ 7 → ⊥)
        → values_of r.answer ≡ plan_carries F m budgets masks (number_of r.answer)
    unfolding plan_carries
    decided_carries (planned x p) n = carries_as _ p.answer refl
    decided_carries (overloaded g p) n = absurd (n (ap number_of p.refusal.answer))

    carries_at : (t : Tested) → tested F m budgets masks before ≡ t → PlanAnswerAt t F m budgets masks before r after → (number_of r.answer ≡ 7 → ⊥)
        → values_of r.answer ≡ plan_carries F m budgets masks (number_of r.answer)
    carries_at (refused a) e h n = carries_as a h.answer (refused_carries a e)
    carries_at passed e h n = decided_carries h n

    -- what 7 carries is said by `RefusedExactly.named`
    pub plan_carries_lem : PlanAnswer F m budgets masks before r after → (number_of r.answer ≡ 7 → ⊥)
        → values_of r.answer ≡ plan_carries F m budgets masks (number_of r.answer)
    plan_carries_lem h n = carries_at (tested F m budgets masks before) refl h n
