-- The lines of P1, P2 and P8, by the definitions of the line forms over the answer of the set.
-- Assumes nothing.
use mathlib.Core.Path.{◌≡◌, refl, sym, ◌∙◌, ap, subst, subst⁻¹}
use mathlib.Core.Bool.{Bool, true}
use mathlib.Core.List.{List, [], ◌++◌}
use Prim.Native.Nat.{ℕ, ◌*◌}
use native.Mathlib.Omega.{arith}
use lib.ListN.{length, drop}
use Rattle.rules.specs.Piece.{first_pieces}
use Rattle.rules.specs.Tests.{short_table}
use Rattle.rules.specs.Plan.{PlanAnswer}
use Rattle.rules.specs.Line.{is_decimal, is_letter, is_digit, digit_value, digit_of, digits_at, digits, task_fields, all_digits, well_written, line_frame, line_cores, line_budgets, line_masks, piece_line, piece_lines, line_widths, values_line, answer_rest, answer_line}
use Rattle.rules.specs.LineCall.{lent_table, LinePlanned, LineAnswer, LineAnswerAt}
use Rattle.rules.specs.Settled.{Roomy, Only, Holds, answers, tableP1}
use Rattle.rules.specs.declared.Answer.{Answer}
use Rattle.rules.specs.declared.Answer.TheVariants.{Accepted, Overloaded}
use Rattle.rules.specs.declared.Planned.{Planned}
use Rattle.rules.proofs.Settled.Accepted.{p1, p8}
use Rattle.rules.proofs.Settled.Overloads.{p2}

-- a well-written line whose set has only one answer has only that answer's line
module _ (input output : List ℕ) (F m : ℕ) (budgets masks : List ℕ) (a : Answer) (table : List ℕ) (only : Only F m budgets masks a table)
    (well : well_written input ≡ true) (frame : line_frame input ≡ F) (cores : line_cores input ≡ m)
    (bs : line_budgets input ≡ budgets) (ms : line_masks input ≡ masks) (roomy : Roomy (length budgets) m lent_table)
    (shown : (k : ℕ) → 4 * k ≡ length table → answer_line a (first_pieces (table ++ drop (length table) lent_table) k) ≡ output) where
  Sets : Planned → List ℕ → Type 0
  Sets r after = PlanAnswer F m budgets masks lent_table r after

  same : (r : Planned) (after : List ℕ) → Sets r after → answer_line r.answer (first_pieces after r.pieces) ≡ output
  unfolding Sets
  same r after h =
      let o = only.only lent_table roomy r after h in
      ap (λ (b : Answer). answer_line b (first_pieces after r.pieces)) o.0 ∙
      ap (λ (t : List ℕ). answer_line a (first_pieces t r.pieces)) o.2 ∙ shown r.pieces o.1

  one_way : (line : List ℕ) → LinePlanned input line → line ≡ output
  unfolding Sets
  one_way line h = h.written ∙ same h.answer h.table (rw (frame, cores, bs, ms) at h.planned)

  other : LinePlanned input output
  unfolding Sets
  other =
      let s = only.some lent_table roomy in
      record { answer = s.0; table = s.1; planned = rw (frame, cores, bs, ms) s.2; written = sym (same s.0 s.1 s.2) }

  pub line_only : ((line : List ℕ) → LineAnswer input line → line ≡ output) × LineAnswer input output
  line_only = (
    λ line h. one_way line (subst (λ (b : Bool). LineAnswerAt b input line) well h),
    subst⁻¹ (λ (b : Bool). LineAnswerAt b input output) well other,
  )

five : (k : ℕ) → 4 * k ≡ 20 → k ≡ 5
five k e = omega arith

nought : (k : ℕ) → 4 * k ≡ 0 → k ≡ 0
nought k e = omega arith

pub line1 : Holds (answers 48 0x000000060203000000040003000000030001000000050002 106 0x0000050000000000000000000300010000000300000003010200000000000000030100000000030000000101020000000400000002)
unfolding is_decimal is_letter is_digit digit_value digit_of digits_at digits task_fields all_digits well_written piece_line piece_lines line_widths values_line answer_rest answer_line lent_table first_pieces short_table
line1 = line_only (digits 48 0x000000060203000000040003000000030001000000050002) (digits 106 0x0000050000000000000000000300010000000300000003010200000000000000030100000000030000000101020000000400000002) 6 2 _ _ Accepted tableP1 p1 refl refl refl refl refl refl (λ k e. rw (five k e))

pub line2 : Holds (answers 48 0x0000000a0203000000080001000000080001000000030002 22 0x0700000000000000030001)
unfolding is_decimal is_letter is_digit digit_value digit_of digits_at digits task_fields all_digits well_written piece_line piece_lines line_widths values_line answer_rest answer_line lent_table first_pieces short_table
line2 = line_only (digits 48 0x0000000a0203000000080001000000080001000000030002) (digits 22 0x0700000000000000030001) 10 2 _ _ (Overloaded 0b011 0b01) [] p2.0 refl refl refl refl refl refl (λ k e. refl)

pub line8 : Holds (answers 24 0x0000000a0101000000000001 6 0x000000)
unfolding is_decimal is_letter is_digit digit_value digit_of digits_at digits task_fields all_digits well_written piece_line piece_lines line_widths values_line answer_rest answer_line lent_table first_pieces short_table
line8 = line_only (digits 24 0x0000000a0101000000000001) (digits 6 0x000000) 10 1 _ _ Accepted [] p8 refl refl refl refl refl refl (λ k e. rw (nought k e))
