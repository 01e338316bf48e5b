-- "there 6 can't occur, as it lends 95 pieces": no line is answered with 6.
-- Assumes nothing.
use mathlib.Core.Path.{◌≡◌, sym, ◌∙◌, ap}
use mathlib.Core.Bool.{Bool, true, false, not, true≢false}
use mathlib.Core.List.{List, []}
use Prim.Native.Nat.{ℕ, ◌+◌, ◌*◌}
use native.Mathlib.Omega.{arith}
use lib.Dec.{eqb, ltb}
use lib.ListN.{length}
use borrow.Author.Tests.{ltb-false, le-ltb}
use Rattle.rules.specs.Answer.{number_of}
use Rattle.rules.specs.Piece.{first_pieces, whole_pieces}
use Rattle.rules.specs.Tests.{Tested, refused, passed, tested, bad_cores, bad_tasks, short_table}
use Rattle.rules.specs.Plan.{PlanAnswerAt, Decided, planned, overloaded}
use Rattle.rules.specs.Line.{digits_at, well_written, line_frame, line_cores, line_budgets, line_masks}
use Rattle.rules.specs.LineCall.{lent_table, LineAnswerAt, LineAnswer}
use Rattle.rules.specs.declared.Answer.TheVariants.{BadLine}
use Rattle.rules.specs.declared.Planned.{Planned}
use Rattle.tests.proofs.Cases.{number_told, tested_cases}
use Rattle.sums.proofs.Both.{or_left, or_right}
use Rattle.answerline.proofs.Distinct.{number_back}

-- at most 64 tasks and 16 cores need at most 95 pieces
enough : (m : ℕ) (bs ms : List ℕ) → bad_cores m ≡ false → bad_tasks bs ms ≡ false → short_table (length bs) m (whole_pieces lent_table) ≡ false
unfolding bad_cores bad_tasks short_table lent_table
enough m bs ms c t =
    le-ltb 96 (length bs + 2 * m)
    (omega (arith, ltb-false 16 m (or_right (eqb m 0) (ltb 16 m) c), ltb-false 64 (length bs) (or_left (ltb 64 (length bs)) (not (eqb (length bs) (length ms))) t)))

-- no way through the tests ends at 6
tested_never_six : (F m : ℕ) (bs ms : List ℕ) → number_told (tested F m bs ms lent_table) ≡ 6 → ⊥
tested_never_six F m bs ms e =
    tested_cases F m bs ms lent_table (λ t. number_told t ≡ 6 → ⊥) (λ z. omega arith) (λ z. omega arith) (λ z. omega arith) (λ s e z. omega arith) (λ s e k z. omega arith)
    (λ s g b z. omega arith) (λ s g short z. true≢false (sym short ∙ enough m bs ms s.cores s.tasks)) (λ s g z. omega arith) e

module _ (F m : ℕ) (bs ms : List ℕ) (r : Planned) (t : List ℕ) where
  decided_never_six : Decided F m bs ms lent_table r t → number_of r.answer ≡ 6 → ⊥
  decided_never_six (planned x p) e = let z : ◌≡◌ {A = ℕ} 0 6 = sym (ap number_of p.answer) ∙ e in omega arith
  decided_never_six (overloaded g o) e = let z : ◌≡◌ {A = ℕ} 7 6 = sym (ap number_of o.refusal.answer) ∙ e in omega arith

  answer_never_six : (w : Tested) → (number_told w ≡ 6 → ⊥) → PlanAnswerAt w F m bs ms lent_table r t → number_of r.answer ≡ 6 → ⊥
  answer_never_six (refused a) h p e = h (sym (ap number_of p.answer) ∙ e)
  answer_never_six passed h p e = decided_never_six p e

line_at : (b : Bool) (l x : List ℕ) → LineAnswerAt b l x → digits_at x 0 2 ≡ 6 → ⊥
line_at true l x p e =
    answer_never_six (line_frame l) (line_cores l) (line_budgets l) (line_masks l) p.answer p.table (tested (line_frame l) (line_cores l) (line_budgets l) (line_masks l) lent_table)
    (tested_never_six (line_frame l) (line_cores l) (line_budgets l) (line_masks l)) p.planned
    (sym (number_back p.answer.answer (first_pieces p.table p.answer.pieces)) ∙ ap (λ (y : List ℕ). digits_at y 0 2) (sym p.written) ∙ e)
line_at false l x p e = let z : ◌≡◌ {A = ℕ} 12 6 = sym (number_back BadLine []) ∙ ap (λ (y : List ℕ). digits_at y 0 2) (sym p) ∙ e in omega arith

pub no_line_is_answered_with_six : (l x : List ℕ) → LineAnswer l x → digits_at x 0 2 ≡ 6 → ⊥
no_line_is_answered_with_six l x p e = line_at (well_written l) l x p e
