-- Laws on the line call: the pieces that an allowed answer has, and each way out.
-- Assumes nothing.
use mathlib.Core.Path.{◌≡◌, refl, sym, subst, ◌∙◌, ap}
use mathlib.Core.Bool.{Bool, false}
use mathlib.Core.List.{List, [], ◌++◌}
use Prim.Native.Nat.{ℕ, ◌+◌, ◌-◌, ◌*◌, ◌≤◌, ◌<◌}
use native.Mathlib.Omega.{arith}
use lib.ListN.{length, take, drop, replicate, length-append, length-drop}
use borrow.Author.Tests.{lt-ltb, le-ltb}
use Rattle.rules.specs.Piece.{first_pieces}
use Rattle.rules.specs.Table.{table_of}
use Rattle.rules.specs.Tests.{Tested, refused, passed, tested}
use Rattle.rules.specs.Plan.{PlanAnswerAt, PlanAnswer, Decided, planned, overloaded}
use Rattle.rules.specs.Line.{line_frame, line_cores, line_budgets, line_masks, well_written, answer_line}
use Rattle.rules.specs.LineCall.{lent_table, LineAnswerAt, CallDone, CallAnswerAt, CallAnswer}
use Rattle.rules.specs.declared.Answer.TheVariants.{BadLine}
use Rattle.rules.specs.declared.Planned.{Planned}
use Rattle.answerline.specs.Put.{PutAnswer}
use Rattle.aurhennig.specs.Answered.{SetAnswered}
use Rattle.setline.proofs.Handed.{LineRead}
use Rattle.answerline.proofs.PutLaws.{was_put}
use Rattle.rules.proofs.Numbers.{length_numbers}

-- the pieces of any answer that the rules allow fit the lent table, as it keeps its length
module _ (F m : ℕ) (bs ms t₀ : List ℕ) (r : Planned) (t : List ℕ) (same : length t ≡ length t₀) where
  few_decided : Decided F m bs ms t₀ r t → 4 * r.pieces ≤ length t₀
  few_decided (planned x p) =
      let ps = table_of F (length bs) m x in
      let long : length t ≡ 4 * length ps + (length t₀ - 4 * length ps) = ap length p.table ∙ simp (length-append, length_numbers, length-drop) in
      omega (arith, p.pieces)
  few_decided (overloaded g o) = omega (arith, o.refusal.pieces)

  few_at : (w : Tested) → PlanAnswerAt w F m bs ms t₀ r t → 4 * r.pieces ≤ length t₀
  few_at (refused a) p = omega (arith, p.pieces)
  few_at passed p = few_decided p

  pub few_pieces : PlanAnswer F m bs ms t₀ r t → 4 * r.pieces ≤ length t₀
  few_pieces p = few_at (tested F m bs ms t₀) p

-- "it lends 95 pieces"
pub lent : replicate 380 0 ≡ lent_table
unfolding lent_table
lent = refl

-- answer 12 has no pieces
pub bad_put : (t o : List ℕ) (r : ℕ) (x : List ℕ) → 1906 ≤ length o → PutAnswer BadLine t 0 o r x
    → (r ≡ length (answer_line BadLine [])) × (x ≡ answer_line BadLine [] ++ drop (length (answer_line BadLine [])) o)
unfolding first_pieces
bad_put t o r x h p = was_put BadLine t 0 o r x h (omega arith) (omega arith) p

pub set_answered : (F m : ℕ) (bs ms t₀ : List ℕ) (p : Planned) (t o : List ℕ) (r : ℕ) (x : List ℕ) → t₀ ≡ lent_table → length t ≡ length t₀ → length t ≡ 380 → 1906 ≤ length o
    → PlanAnswer F m bs ms t₀ p t → PutAnswer p.answer t p.pieces o r x → SetAnswered F m bs ms o r x
set_answered F m bs ms t₀ p t o r x lend same long h plan wrote =
    let few : 4 * p.pieces ≤ length t₀ = few_pieces F m bs ms t₀ p t same plan in
    let put = was_put p.answer t p.pieces o r x h (omega (arith, few, same, long)) (omega (arith, few, same)) wrote in
    record { answer = p; table = t; planned = subst (λ (y : List ℕ). PlanAnswer F m bs ms y p t) lend plan; line = _; shown = refl; bytes = put.0; written = put.1 }

-- a line's set that was answered is the line's answer
module _ (l o : List ℕ) (r : ℕ) (x : List ℕ) where
  pub planned_done : (F m n : ℕ) (b k : List ℕ) → LineRead l F m n b k → SetAnswered F m (take n b) (take n k) o r x → CallDone l o r x
  planned_done F m n b k e p =
      record {
        line = p.line;
        answer = subst (λ (t : Bool). LineAnswerAt t l p.line) (sym e.well) (record { answer = p.answer; table = p.table; planned = line_planned p.planned; written = p.shown });
        bytes = p.bytes;
        written = p.written;
      }
    where
      line_planned : PlanAnswer F m (take n b) (take n k) lent_table p.answer p.table → PlanAnswer (line_frame l) (line_cores l) (line_budgets l) (line_masks l) lent_table p.answer p.table
      line_planned q = simp (← e.frame, ← e.cores, ← e.budgets, ← e.masks) q

  pub refused_done : well_written l ≡ false → (r ≡ length (answer_line BadLine [])) × (x ≡ answer_line BadLine [] ++ drop (length (answer_line BadLine [])) o) → CallDone l o r x
  refused_done e p = record { line = answer_line BadLine []; answer = subst (λ (t : Bool). LineAnswerAt t l (answer_line BadLine [])) (sym e) refl; bytes = p.0; written = p.1 }

-- "tested before 12: it hands back 0 and writes nothing"
pub call_short : (l o : List ℕ) → length o < 1906 → CallAnswer l o 0 o
call_short l o h = subst (λ (t : Bool). CallAnswerAt t l o 0 o) (sym (lt-ltb (length o) 1906 h)) (refl, refl)

pub call_done : (l o a : List ℕ) (k : ℕ) → 1906 ≤ length o → CallDone l o k a → CallAnswer l o k a
call_done l o a k h d = subst (λ (t : Bool). CallAnswerAt t l o k a) (sym (le-ltb (length o) 1906 h)) d
