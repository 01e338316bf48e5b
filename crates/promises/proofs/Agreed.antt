-- "Any two answers allowed by it are proved equal", but for the choice among loop-free allocations. What that choice leaves open is said in full.
-- Assumes nothing.
use mathlib.Core.Path.{◌≡◌, sym, ◌∙◌, subst}
use mathlib.Core.List.{List}
use Prim.Native.Nat.{ℕ, ◌*◌, ◌≤◌}
use lib.ListN.{length, drop}
use Rattle.rules.specs.Sets.{union}
use Rattle.rules.specs.Allocation.{limit_of, Allocation}
use Rattle.rules.specs.Excess.{Exceeds, Smallest}
use Rattle.rules.specs.Tests.{Tested, refused, passed, tested}
use Rattle.rules.specs.Plan.{at, Refusal, PlannedBy, OverloadedBy, Decided, planned, overloaded, PlanAnswer, PlanAnswerAt}
use Rattle.rules.specs.declared.Answer.{Answer}
use Rattle.rules.specs.declared.Answer.TheVariants.{Overloaded}
use Rattle.rules.specs.declared.Planned.{Planned}
use Rattle.overload.proofs.Exists.{overloaded_exactly_without_allocation}
use Rattle.overload.proofs.NoRoom.{smallest_group_is_unique}
use Rattle.promises.proofs.Stands.{rest_stands}

module _ (F m : ℕ) (budgets masks before : List ℕ) where
  -- both accept, each by a loop-free allocation of its own, and every place beyond both tables holds the same
  pub record Chosen (r q : Planned) (after later : List ℕ) : Type 0 where
    pub x : ℕ → ℕ → ℕ
    pub y : ℕ → ℕ → ℕ
    pub one : PlannedBy F m budgets masks before r after x
    pub other : PlannedBy F m budgets masks before q later y
    pub beyond : (k : ℕ) → 4 * r.pieces ≤ k → 4 * q.pieces ≤ k → drop k after ≡ drop k later

  -- two answers are equal, table and all, or differ by that choice alone
  pub data Agree (r q : Planned) (after later : List ℕ) : Type 0 where
    equal : r ≡ q → after ≡ later → Agree r q after later
    chosen : Chosen r q after later → Agree r q after later

same_planned : (a b : Planned) → a.answer ≡ b.answer → a.pieces ≡ b.pieces → a ≡ b
same_planned a b p q = λ i. record { answer = p i; pieces = q i }

module _ (F m : ℕ) (budgets masks before : List ℕ) (r q : Planned) (after later : List ℕ) where
  abbrev Agrees : Type 0
  Agrees = Agree F m budgets masks before r q after later

  -- given the allocation, everything is fixed
  pub planned_once : (x : ℕ → ℕ → ℕ) → PlannedBy F m budgets masks before r after x → PlannedBy F m budgets masks before q later x → (r ≡ q) × (after ≡ later)
  planned_once x a b = (same_planned r q (a.answer ∙ sym b.answer) (a.pieces ∙ sym b.pieces), a.table ∙ sym b.table)

  refused_once : (a : Answer) → Refusal a before r after → Refusal a before q later → Agrees
  refused_once a u v = equal (same_planned r q (u.answer ∙ sym v.answer) (u.pieces ∙ sym v.pieces)) (u.kept ∙ sym v.kept)

  overloaded_once : (g h : ℕ) → OverloadedBy F m budgets masks before r after g → OverloadedBy F m budgets masks before q later h → Agrees
  overloaded_once g h u v =
      let e = smallest_group_is_unique v.smallest u.smallest in
      refused_once (Overloaded g (union (length budgets) (at masks) g)) u.refusal
      (subst (λ (k : ℕ). Refusal (Overloaded k (union (length budgets) (at masks) k)) before q later) e v.refusal)

  not_both : (x : ℕ → ℕ → ℕ) (g : ℕ) → Allocation (length budgets) m (limit_of F) (at budgets) (at masks) x
      → Smallest (length budgets) m (limit_of F) (at budgets) (at masks) g → Exceeds (length budgets) m (limit_of F) (at budgets) (at masks) g → ⊥
  not_both x g a s e = overloaded_exactly_without_allocation.0 (g, s.tasks, e) x a

  both_planned : (x y : ℕ → ℕ → ℕ) → PlannedBy F m budgets masks before r after x → PlannedBy F m budgets masks before q later y → Agrees
  both_planned x y a b =
      chosen
      (record {
        x = x;
        y = y;
        one = a;
        other = b;
        beyond = λ k h l. rest_stands F m budgets masks before r after x a k h ∙ sym (rest_stands F m budgets masks before q later y b k l);
      })

  decided_once : Decided F m budgets masks before r after → Decided F m budgets masks before q later → Agrees
  decided_once (planned x a) (planned y b) = both_planned x y a b
  decided_once (planned x a) (overloaded h b) = absurd (not_both x h a.allocation b.smallest b.exceeds)
  decided_once (overloaded g a) (planned y b) = absurd (not_both y g b.allocation a.smallest a.exceeds)
  decided_once (overloaded g a) (overloaded h b) = overloaded_once g h a b

  answers_at : (t : Tested) → PlanAnswerAt t F m budgets masks before r after → PlanAnswerAt t F m budgets masks before q later → Agrees
  answers_at (refused a) u v = refused_once a u v
  answers_at passed u v = decided_once u v

  pub plan_answers_agree : PlanAnswer F m budgets masks before r after → PlanAnswer F m budgets masks before q later → Agrees
  plan_answers_agree u v = answers_at (tested F m budgets masks before) u v
