-- Document 02, (ii), of what plan answers and of what its call hands C: 4 exactly where some mask is empty, 13 exactly where none is and some mask
-- names a missing core, each with its lowest task, 13 also with the lowest such core of that task's mask; after 3, and before 5.
-- Assumes nothing.
use mathlib.Core.Path.{◌≡◌, refl, sym, ◌∙◌, ap, subst}
use mathlib.Core.Bool.{true}
use mathlib.Core.List.{List}
use Prim.Native.Nat.{ℕ, ◌^◌, ◌<◌}
use native.Mathlib.Omega.{arith}
use Rattle.rules.specs.Answer.{number_of}
use Rattle.rules.specs.Tests.{Tested, refused, passed, tested}
use Rattle.rules.specs.MaskFaults.{Sized, EmptyAt, MissingAt, GoodMasks, after_masks}
use Rattle.rules.specs.Plan.{at, planned, overloaded, PlanAnswer, PlanAnswerAt}
use Rattle.rules.specs.Reply.{reply_of}
use Rattle.rules.specs.Replies.{PlanReply}
use Rattle.rules.specs.declared.Answer.{Answer}
use Rattle.rules.specs.declared.Answer.TheVariants.{EmptyMask, MissingCore}
use Rattle.rules.specs.declared.Planned.{Planned}
use Rattle.rules.specs.declared.Reply.{Reply}
use Rattle.tests.proofs.Cases.{number_told}
use Rattle.tests.proofs.MaskFaults.{tested_four, four_tested, tested_thirteen, thirteen_tested, tested_later}

module _ (F m : ℕ) (budgets masks before : List ℕ) (r : Planned) (after : List ℕ) where
  -- a number that is neither 0 nor 7 is the tests'
  told_at : (t : Tested) (n : ℕ) → PlanAnswerAt t F m budgets masks before r after → number_of r.answer ≡ n → (n ≡ 0 → ⊥) → (n ≡ 7 → ⊥) → number_told t ≡ n
  told_at (refused a) n h e z s = sym (ap number_of h.answer) ∙ e
  told_at passed n (planned x p) e z s = absurd (z (sym e ∙ ap number_of p.answer))
  told_at passed n (overloaded g p) e z s = absurd (s (sym e ∙ ap number_of p.refusal.answer))

  -- an answer after both faults was not refused for either
  later_at : (t : Tested) → PlanAnswerAt t F m budgets masks before r after → after_masks (number_of r.answer) ≡ true → after_masks (number_told t) ≡ true
  unfolding after_masks
  later_at (refused a) h e = ap (λ (b : Answer). after_masks (number_of b)) (sym h.answer) ∙ e
  later_at passed h e = refl

  module _ (h : PlanAnswer F m budgets masks before r after) where
    told : (n : ℕ) → number_of r.answer ≡ n → (n ≡ 0 → ⊥) → (n ≡ 7 → ⊥) → number_told (tested F m budgets masks before) ≡ n
    told n = told_at (tested F m budgets masks before) n h

    answered : (a : Answer) → tested F m budgets masks before ≡ refused a → r.answer ≡ a
    answered a e = (subst (λ (t : Tested). PlanAnswerAt t F m budgets masks before r after) e h).answer

    pub four_named : number_of r.answer ≡ 4 → (i : ℕ) × (r.answer ≡ EmptyMask i) × Sized F m budgets masks × EmptyAt masks i
    four_named e =
        let s = tested_four F m budgets masks before (told 4 e (λ z. omega arith) (λ z. omega arith)) in
        (s.task, answered (EmptyMask s.task) s.answer, s.sized, s.named)

    pub empty_is_four : (i : ℕ) → Sized F m budgets masks → EmptyAt masks i → r.answer ≡ EmptyMask i
    empty_is_four i z x = answered (EmptyMask i) (four_tested F m budgets masks before i z x)

    pub later_has_good_masks : after_masks (number_of r.answer) ≡ true → Sized F m budgets masks × GoodMasks m masks
    later_has_good_masks e = let s = tested_later F m budgets masks before (later_at (tested F m budgets masks before) h e) in (s.sized, s.good)

    -- masks are numbers of 16 bits
    module _ (wide : (k : ℕ) → at masks k < 2 ^ 16) where
      pub thirteen_named : number_of r.answer ≡ 13 → (i : ℕ) × (c : ℕ) × (r.answer ≡ MissingCore i c) × Sized F m budgets masks × MissingAt m masks i c
      thirteen_named e =
          let s = tested_thirteen F m budgets masks before wide (told 13 e (λ z. omega arith) (λ z. omega arith)) in
          (s.task, s.core, answered (MissingCore s.task s.core) s.answer, s.sized, s.named)

      pub missing_is_thirteen : (i c : ℕ) → Sized F m budgets masks → MissingAt m masks i c → r.answer ≡ MissingCore i c
      missing_is_thirteen i c z x = answered (MissingCore i c) (thirteen_tested F m budgets masks before wide i c z x)

-- the same of a reply: `first` is the task, `second` the core
module _ (F m : ℕ) (budgets masks before : List ℕ) (r : Reply) (after : List ℕ) (p : PlanReply F m budgets masks before r after) where
  number_is : r.number ≡ number_of p.planned.answer
  unfolding reply_of
  number_is = ap (λ (q : Reply). q.number) p.reply

  replied : (a : Answer) → p.planned.answer ≡ a → r ≡ reply_of a p.planned.pieces
  replied a e = p.reply ∙ ap (λ (b : Answer). reply_of b p.planned.pieces) e

  pub reply_four_named : r.number ≡ 4 → Sized F m budgets masks × EmptyAt masks r.first
  unfolding reply_of
  reply_four_named e =
      let s = four_named F m budgets masks before p.planned after p.answer (sym number_is ∙ e) in
      (s.2, subst (EmptyAt masks) (sym (ap (λ (q : Reply). q.first) (replied (EmptyMask s.0) s.1))) s.3)

  pub reply_empty_is_four : (i : ℕ) → Sized F m budgets masks → EmptyAt masks i → (r.number ≡ 4) × (r.first ≡ i)
  unfolding reply_of
  reply_empty_is_four i z x =
      let s = replied (EmptyMask i) (empty_is_four F m budgets masks before p.planned after p.answer i z x) in
      (ap (λ (q : Reply). q.number) s, ap (λ (q : Reply). q.first) s)

  module _ (wide : (k : ℕ) → at masks k < 2 ^ 16) where
    pub reply_thirteen_named : r.number ≡ 13 → Sized F m budgets masks × MissingAt m masks r.first r.second
    unfolding reply_of
    reply_thirteen_named e =
        let s = thirteen_named F m budgets masks before p.planned after p.answer wide (sym number_is ∙ e) in
        let q = replied (MissingCore s.0 s.1) s.2 in (
          s.3,
          subst (λ (c : ℕ). MissingAt m masks r.first c) (sym (ap (λ (t : Reply). t.second) q))
              (subst (λ (i : ℕ). MissingAt m masks i s.1) (sym (ap (λ (t : Reply). t.first) q)) s.4),
        )

    pub reply_missing_is_thirteen : (i c : ℕ) → Sized F m budgets masks → MissingAt m masks i c → (r.number ≡ 13) × (r.first ≡ i) × (r.second ≡ c)
    unfolding reply_of
    reply_missing_is_thirteen i c z x =
        let s = replied (MissingCore i c) (missing_is_thirteen F m budgets masks before p.planned after p.answer wide i c z x) in
        (ap (λ (q : Reply). q.number) s, ap (λ (q : Reply). q.first) s, ap (λ (q : Reply). q.second) s)
