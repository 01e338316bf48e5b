-- Planned, walked, bounded: a task of a planned set, walked on the planned table, finishes each job by its release + T + F, and by its
-- release + T where F divides T. It starts from what plan and walk answered alone.
-- Assumes nothing.
use mathlib.Core.Path.{◌≡◌, sym, ◌∙◌, ap, subst}
use mathlib.Core.List.{List}
use Prim.Native.Nat.{ℕ, ◌*◌, ◌≤◌, ◌<◌}
use lib.ListN.{length, get_or, take}
use Rattle.rules.specs.Piece.{Piece, pieces_of}
use Rattle.rules.specs.Service.{units}
use Rattle.rules.specs.Paced.{Paced, Bounded}
use Rattle.rules.specs.Plan.{at, PlanAnswer}
use Rattle.rules.specs.Walked.{WalkAnswer}
use Rattle.rules.specs.declared.Answer.{Answer}
use Rattle.rules.specs.declared.Answer.TheVariants.{Accepted}
use Rattle.rules.specs.declared.Planned.{Planned}
use Rattle.stretches.proofs.Numbers.{pieces_of_front}
use Rattle.promises.proofs.Signed.{accepted_signed}
use Rattle.walker.proofs.Accepted.{walked_bounded}

module _ (F m : ℕ) (budgets masks before : List ℕ) (r : Planned) (after : List ℕ) (p : PlanAnswer F m budgets masks before r after) (yes-planned : r.answer ≡ Accepted) where
  -- "For planner tables b is the task's budget"
  pub planned_units_are_budget : (i : ℕ) → i < length budgets → units F (pieces_of (take (4 * r.pieces) after)) i F ≡ at budgets i
  planned_units_are_budget i l =
      let s = accepted_signed F m budgets masks before r after p yes-planned in
      ap (λ (ps : List Piece). units F ps i F) (pieces_of_front after r.pieces (subst (λ (k : ℕ). 4 * r.pieces ≤ k) (sym s.size) s.held)) ∙ s.exact i l

  pub planned_walked_bounded : (i : ℕ) → i < length budgets → (releases jobs finishes : List ℕ) (a : Answer) (later : List ℕ)
      → WalkAnswer F m (take (4 * r.pieces) after) i releases jobs finishes a later → a ≡ Accepted
      → (T c : ℕ) → Paced F (at budgets i) T c (length releases) (λ k. get_or releases k 0) (λ k. get_or jobs k 0)
      → Bounded F T (length releases) (λ k. get_or releases k 0) (λ k. get_or later k 0)
  planned_walked_bounded i l releases jobs finishes a later w yes-walked T c h =
      walked_bounded F m (take (4 * r.pieces) after) i releases jobs finishes a later w yes-walked T c
      (subst (λ (b : ℕ). Paced F b T c (length releases) (λ k. get_or releases k 0) (λ k. get_or jobs k 0)) (sym (planned_units_are_budget i l)) h)
