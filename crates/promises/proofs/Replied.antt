-- What plan's call hands C: any two replies agree as plan's answers do, a reply tells the answer and the piece count, and what a customer signs
-- holds of the reply alone.
-- Assumes nothing.
use mathlib.Core.Path.{◌≡◌, refl, sym, ◌∙◌, ap, subst}
use mathlib.Core.Bool.{Bool, true, false, cond}
use mathlib.Core.List.{List}
use Prim.Native.Nat.{ℕ}
use lib.Dec.{eqb}
use lib.ListN.{get_or}
use Rattle.rules.specs.Answer.{number_of}
use Rattle.rules.specs.Tests.{Tested, refused, passed, tested}
use Rattle.rules.specs.Plan.{PlanAnswerAt, Decided, planned, overloaded}
use Rattle.rules.specs.Signed.{SignedTable, NamedGroup, NoneObeys, RefusedExactly}
use Rattle.rules.specs.Reply.{reply_of}
use Rattle.rules.specs.Replies.{PlanReply}
use Rattle.rules.specs.declared.Answer.{Answer}
use Rattle.rules.specs.declared.Answer.TheVariants.{Accepted}
use Rattle.rules.specs.declared.Planned.{Planned}
use Rattle.rules.specs.declared.Reply.{Reply}
use Rattle.rules.proofs.Replies.{no_two_answers_share_a_reply, accepted_reply, accepted_counts}
use Rattle.promises.proofs.Agreed.{Agree, equal, chosen, Chosen, plan_answers_agree}
use Rattle.promises.proofs.Signed.{accepted_signed, refused_exactly}

module _ (F m : ℕ) (budgets masks before : List ℕ) where
  -- both accept, each by a loop-free allocation of its own: the replies are those of two answers that `Chosen` lets differ
  pub record ChosenReply (r s : Reply) (after later : List ℕ) : Type 0 where
    pub one : Planned
    pub other : Planned
    pub choice : Chosen F m budgets masks before one other after later
    pub one_reply : r ≡ reply_of one.answer one.pieces
    pub other_reply : s ≡ reply_of other.answer other.pieces

  -- two replies are equal, table and all, or differ by that choice alone
  pub data AgreeReply (r s : Reply) (after later : List ℕ) : Type 0 where
    equal_reply : r ≡ s → after ≡ later → AgreeReply r s after later
    chosen_reply : ChosenReply r s after later → AgreeReply r s after later

  module _ (r s : Reply) (after later : List ℕ) where
    pub plan_replies_agree : PlanReply F m budgets masks before r after → PlanReply F m budgets masks before s later → AgreeReply r s after later
    plan_replies_agree p q = by_answers (plan_answers_agree F m budgets masks before p.planned q.planned after later p.answer q.answer)
      where
        by_answers : Agree F m budgets masks before p.planned q.planned after later → AgreeReply r s after later
        by_answers (equal e t) = equal_reply (p.reply ∙ ap (λ (a : Planned). reply_of a.answer a.pieces) e ∙ sym q.reply) t
        by_answers (chosen c) =
            chosen_reply (record { one = p.planned; other = q.planned; choice = c; one_reply = p.reply; other_reply = q.reply })

module _ (F m : ℕ) (budgets masks before : List ℕ) (r : Reply) (after : List ℕ) (p : PlanReply F m budgets masks before r after) where
  number_is : r.number ≡ number_of p.planned.answer
  unfolding reply_of
  number_is = ap (λ (q : Reply). q.number) p.reply

  counted : (a : Answer) → p.planned.answer ≡ a → (reply_of a p.planned.pieces).count ≡ p.planned.pieces → r.count ≡ p.planned.pieces
  counted a e h = ap (λ (q : Reply). q.count) (p.reply ∙ ap (λ (b : Answer). reply_of b p.planned.pieces) e) ∙ h

  none : (a : Answer) → p.planned.pieces ≡ 0 → (reply_of a p.planned.pieces).count ≡ p.planned.pieces
  unfolding reply_of
  none a e = rw e (either (eqb (number_of a) 0))
    where
      either : (b : Bool) → ◌≡◌ {A = ℕ} (cond b 0 0) 0
      either true = refl
      either false = refl

  counted_decided : Decided F m budgets masks before p.planned after → r.count ≡ p.planned.pieces
  counted_decided (planned x h) = counted Accepted h.answer (accepted_counts p.planned.pieces)
  counted_decided (overloaded g h) = counted _ refl (none p.planned.answer h.refusal.pieces)

  counted_at : (t : Tested) → PlanAnswerAt t F m budgets masks before p.planned after → r.count ≡ p.planned.pieces
  counted_at (refused a) h = counted _ refl (none p.planned.answer h.pieces)
  counted_at passed h = counted_decided h

  -- "count" is the number of pieces written, of a refusal too
  pub reply_counts_pieces : r.count ≡ p.planned.pieces
  reply_counts_pieces = counted_at (tested F m budgets masks before) p.answer

  -- demand 2 from the reply alone: a number of 0, and as many pieces at the front of the lent table as are counted
  pub reply_signed : r.number ≡ 0 → SignedTable F m budgets masks before (record { answer = Accepted; pieces = r.count }) after
  reply_signed e = subst (λ (q : Planned). SignedTable F m budgets masks before q after) same (accepted_signed F m budgets masks before p.planned after p.answer accepted)
    where
      accepted : p.planned.answer ≡ Accepted
      accepted = accepted_reply p.planned.answer p.planned.pieces r p.reply e

      same : ◌≡◌ {A = Planned} p.planned (record { answer = Accepted; pieces = r.count })
      same = λ i. record { answer = accepted i; pieces = sym reply_counts_pieces i }

  module _ (pass : tested F m budgets masks before ≡ passed) where
    exactly : RefusedExactly F m budgets masks p.planned.answer
    exactly = refused_exactly F m budgets masks before p.planned after pass p.answer

    -- "overload is refused exactly when no such table exists", by the number of the reply
    pub reply_refused_exactly : (r.number ≡ 7 → NoneObeys F m budgets masks) × (NoneObeys F m budgets masks → r.number ≡ 7) × ((r.number ≡ 7 → ⊥) → r.number ≡ 0)
    reply_refused_exactly = (
      λ e. exactly.refused_has_none (sym number_is ∙ e),
      λ none. number_is ∙ exactly.none_is_refused none,
      λ other. number_is ∙ ap number_of (exactly.else_accepted (λ e. other (number_is ∙ e))),
    )

    -- "with the smallest group of greatest excess": the first value, and its cores, the second
    pub reply_names_group : r.number ≡ 7 → NamedGroup F m budgets masks r.first r.second
    unfolding reply_of
    reply_names_group e =
        let named = exactly.named (sym number_is ∙ e) in
        let first : r.first ≡ named.0 = ap (λ (q : Reply). q.first) p.reply ∙ ap (λ (l : List ℕ). get_or l 0 0) named.2 in
        let second : r.second ≡ named.1 = ap (λ (q : Reply). q.second) p.reply ∙ ap (λ (l : List ℕ). get_or l 1 0) named.2 in
        subst (λ (c : ℕ). NamedGroup F m budgets masks r.first c) (sym second) (subst (λ (g : ℕ). NamedGroup F m budgets masks g named.1) (sym first) named.3)

-- two sets, any at all, whose replies are the same: so are the answers and the piece counts
module _ (F m : ℕ) (budgets masks before : List ℕ) (r : Reply) (after : List ℕ) (p : PlanReply F m budgets masks before r after)
    (G k : ℕ) (others theirs lent : List ℕ) (s : Reply) (later : List ℕ) (q : PlanReply G k others theirs lent s later) where
  pub no_two_plans_share_a_reply : r ≡ s → p.planned ≡ q.planned
  no_two_plans_share_a_reply e = λ i. record { answer = answer i; pieces = pieces i }
    where
      answer : p.planned.answer ≡ q.planned.answer
      answer =
          no_two_answers_share_a_reply p.planned.answer q.planned.answer p.planned.pieces q.planned.pieces (sym p.reply ∙ e ∙ q.reply)

      pieces : p.planned.pieces ≡ q.planned.pieces
      pieces =
          sym (reply_counts_pieces F m budgets masks before r after p) ∙ ap (λ (t : Reply). t.count) e ∙ reply_counts_pieces G k others theirs lent s later q
