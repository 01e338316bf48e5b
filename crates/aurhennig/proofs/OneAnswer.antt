-- "Any two answers allowed by it are proved equal": the line call leaves open only which loop-free allocation an accepted set gets.
-- Assumes nothing.
use mathlib.Core.Path.{◌≡◌, sym, ◌∙◌, ap}
use mathlib.Core.Bool.{Bool, true, false}
use mathlib.Core.List.{List, ◌++◌}
use Prim.Native.Nat.{ℕ, ◌≤◌}
use native.Mathlib.Omega.{arith}
use lib.Dec.{ltb}
use lib.ListN.{length, drop}
use Rattle.rules.specs.Allocation.{limit_of, Allocation}
use Rattle.rules.specs.Loops.{LoopFree}
use Rattle.rules.specs.Piece.{Piece, first_pieces}
use Rattle.rules.specs.Table.{table_of}
use Rattle.rules.specs.Plan.{at, PlannedBy}
use Rattle.rules.specs.Line.{line_frame, line_cores, line_budgets, line_masks, well_written, answer_line}
use Rattle.rules.specs.LineCall.{lent_table, LinePlanned, LineAnswerAt, LineAnswer, CallDone, CallAnswerAt, CallAnswer}
use Rattle.rules.specs.declared.Answer.TheVariants.{Accepted}
use Rattle.rules.specs.declared.Planned.{Planned}
use Rattle.promises.proofs.Agreed.{Agree, equal, chosen, plan_answers_agree}
use Rattle.promises.proofs.Stands.{drop_past, pieces_stand}

-- the line x accepts the set of the line l, with the table that the loop-free allocation u fixes
pub record AcceptedBy (l x : List ℕ) (u : ℕ → ℕ → ℕ) : Type 0 where
  pub allocation : Allocation (length (line_budgets l)) (line_cores l) (limit_of (line_frame l)) (at (line_budgets l)) (at (line_masks l)) u
  pub loop_free : LoopFree (length (line_budgets l)) (line_cores l) u
  pub line : x ≡ answer_line Accepted (table_of (line_frame l) (length (line_budgets l)) (line_cores l) u)

-- two answer lines of the line l are the same, or both accept its set, each by an allocation of its own
pub data SameLine (l x y : List ℕ) : Type 0 where
  same_line : x ≡ y → SameLine l x y
  accepted_line : (u v : ℕ → ℕ → ℕ) → AcceptedBy l x u → AcceptedBy l y v → SameLine l x y

module _ (l : List ℕ) where
  accepted_by : (x : List ℕ) (p : LinePlanned l x) (u : ℕ → ℕ → ℕ)
      → PlannedBy (line_frame l) (line_cores l) (line_budgets l) (line_masks l) lent_table p.answer p.table u → AcceptedBy l x u
  accepted_by x p u q =
      record {
        allocation = q.allocation;
        loop_free = q.loop_free;
        line =
            p.written ∙
            ap (λ (ps : List Piece). answer_line p.answer.answer ps)
            (pieces_stand (line_frame l) (line_cores l) (line_budgets l) (line_masks l) lent_table p.answer p.table u q) ∙
            simp q.answer;
      }

  planned_lines : (x y : List ℕ) (p : LinePlanned l x) (q : LinePlanned l y)
      → Agree (line_frame l) (line_cores l) (line_budgets l) (line_masks l) lent_table p.answer q.answer p.table q.table → SameLine l x y
  planned_lines x y p q (equal r t) =
      same_line
      (p.written
      ∙ ap (λ (s : Planned). answer_line s.answer (first_pieces p.table s.pieces)) r
      ∙ ap (λ (u : List ℕ). answer_line q.answer.answer (first_pieces u q.answer.pieces)) t
      ∙ sym q.written)
  planned_lines x y p q (chosen c) = accepted_line c.x c.y (accepted_by x p c.x c.one) (accepted_by y q c.y c.other)

  lines_at : (t : Bool) (x y : List ℕ) → LineAnswerAt t l x → LineAnswerAt t l y → SameLine l x y
  lines_at true x y p q =
      planned_lines x y p q
      (plan_answers_agree (line_frame l) (line_cores l) (line_budgets l) (line_masks l) lent_table p.answer q.answer p.table q.table p.planned q.planned)
  lines_at false x y p q = same_line (p ∙ sym q)

  -- any two answers of a line
  pub line_answers_agree : (x y : List ℕ) → LineAnswer l x → LineAnswer l y → SameLine l x y
  line_answers_agree x y p q = lines_at (well_written l) x y p q

-- both calls wrote an accepted set's line, each by an allocation of its own, and every place beyond both lines holds the same
pub record ChosenCall (l o : List ℕ) (r s : ℕ) (a b : List ℕ) : Type 0 where
  pub x : List ℕ
  pub y : List ℕ
  pub u : ℕ → ℕ → ℕ
  pub v : ℕ → ℕ → ℕ
  pub one : AcceptedBy l x u
  pub other : AcceptedBy l y v
  pub one_written : (r ≡ length x) × (a ≡ x ++ drop (length x) o)
  pub other_written : (s ≡ length y) × (b ≡ y ++ drop (length y) o)
  pub beyond : (k : ℕ) → r ≤ k → s ≤ k → drop k a ≡ drop k b

-- two answers of the call on the line l and an output that held o: what is handed back and what the output holds are the same, or differ by that
-- choice alone
pub data SameCall (l o : List ℕ) (r s : ℕ) (a b : List ℕ) : Type 0 where
  same_call : r ≡ s → a ≡ b → SameCall l o r s a b
  chosen_call : ChosenCall l o r s a b → SameCall l o r s a b

past_line : (x o a : List ℕ) (r k : ℕ) → r ≡ length x → a ≡ x ++ drop (length x) o → r ≤ k → drop k a ≡ drop k o
past_line x o a r k e g h = ap (drop k) g ∙ drop_past x o k (omega (arith, e, h))

module _ (l o : List ℕ) (r s : ℕ) (a b : List ℕ) where
  done_agree : (p : CallDone l o r a) (q : CallDone l o s b) → SameLine l p.line q.line → SameCall l o r s a b
  done_agree p q (same_line e) = same_call (p.bytes ∙ ap length e ∙ sym q.bytes) (p.written ∙ ap (λ (x : List ℕ). x ++ drop (length x) o) e ∙ sym q.written)
  done_agree p q (accepted_line u v e g) =
      chosen_call
      (record {
        x = p.line;
        y = q.line;
        u = u;
        v = v;
        one = e;
        other = g;
        one_written = (p.bytes, p.written);
        other_written = (q.bytes, q.written);
        beyond = λ k h j. past_line p.line o a r k p.bytes p.written h ∙ sym (past_line q.line o b s k q.bytes q.written j);
      })

  calls_at : (t : Bool) → CallAnswerAt t l o r a → CallAnswerAt t l o s b → SameCall l o r s a b
  calls_at true p q = same_call (p.0 ∙ sym q.0) (p.1 ∙ sym q.1)
  calls_at false p q = done_agree p q (line_answers_agree l p.line q.line p.answer q.answer)

  -- any two answers of the call
  pub call_answers_agree : CallAnswer l o r a → CallAnswer l o s b → SameCall l o r s a b
  call_answers_agree p q = calls_at (ltb (length o) 1906) p q
