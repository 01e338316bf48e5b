-- Document 02, (ii), of a line's answer: 04 and its task exactly at an empty mask, 0d with its task and core exactly at a missing core.
-- Assumes nothing.
use mathlib.Core.Path.{◌≡◌, sym, ◌∙◌, ap, subst}
use mathlib.Core.List.{List, []}
use Prim.Native.Nat.{ℕ}
use native.Mathlib.Omega.{arith}
use Rattle.rules.specs.Answer.{number_of}
use Rattle.rules.specs.Tests.{tested}
use Rattle.rules.specs.MaskFaults.{Sized, EmptyAt, MissingAt}
use Rattle.rules.specs.Line.{digits_at, field, line_frame, line_cores, line_budgets, line_masks, answer_line}
use Rattle.rules.specs.LineCall.{lent_table, LinePlanned}
use Rattle.rules.specs.declared.Answer.{Answer}
use Rattle.rules.specs.declared.Answer.TheVariants.{EmptyMask, MissingCore}
use Rattle.setline.proofs.Narrow.{masks_narrow}
use Rattle.answerline.specs.Shown.{Shown}
use Rattle.answerline.proofs.Distinct.{number_back, empty_back, missing_back}
use Rattle.promises.proofs.MaskFaults.{four_named, empty_is_four, thirteen_named, missing_is_thirteen}
use Rattle.aurhennig.proofs.Told.{shown_pieces, planned_fits, refuses_at}

module _ (l x : List ℕ) (p : LinePlanned l x) where
  abbrev SizedLine : Type 0
  SizedLine = Sized (line_frame l) (line_cores l) (line_budgets l) (line_masks l)

  fits : Shown p.answer.answer (shown_pieces p.answer p.table)
  fits = planned_fits (line_frame l) (line_cores l) (line_budgets l) (line_masks l) lent_table p.answer p.table p.planned

  number_is : field x 0 1 ≡ number_of p.answer.answer
  number_is = ap (λ (y : List ℕ). digits_at y 0 2) p.written ∙ number_back p.answer.answer (shown_pieces p.answer p.table)

  line_of : (a : Answer) → p.answer.answer ≡ a → x ≡ answer_line a (shown_pieces p.answer p.table)
  line_of a e = p.written ∙ ap (λ (b : Answer). answer_line b (shown_pieces p.answer p.table)) e

  fits_of : (a : Answer) → p.answer.answer ≡ a → Shown a (shown_pieces p.answer p.table)
  fits_of a e = subst (λ (b : Answer). Shown b (shown_pieces p.answer p.table)) e fits

  -- a refusal's line shows no pieces
  bare_line : (a : Answer) → p.answer.answer ≡ a → (number_of a ≡ 0 → ⊥) → x ≡ answer_line a []
  bare_line a e n = line_of a e ∙ ap (answer_line a) none
    where
      none : shown_pieces p.answer p.table ≡ []
      none =
          refuses_at (line_frame l) (line_cores l) (line_budgets l) (line_masks l) lent_table p.answer p.table
          (tested (line_frame l) (line_cores l) (line_budgets l) (line_masks l) lent_table) p.planned (λ z. n (ap number_of (sym e ∙ z)))

  pub line_four_named : field x 0 1 ≡ 4 → SizedLine × EmptyAt (line_masks l) (field x 1 1)
  line_four_named e =
      let s = four_named (line_frame l) (line_cores l) (line_budgets l) (line_masks l) lent_table p.answer p.table p.planned (sym number_is ∙ e) in
      let back = ap (λ (y : List ℕ). digits_at y 2 2) (line_of (EmptyMask s.0) s.1) ∙ empty_back s.0 (shown_pieces p.answer p.table) (fits_of (EmptyMask s.0) s.1) in
      (s.2, subst (EmptyAt (line_masks l)) (sym back) s.3)

  pub line_empty_is_four : (i : ℕ) → SizedLine → EmptyAt (line_masks l) i → x ≡ answer_line (EmptyMask i) []
  line_empty_is_four i z e =
      bare_line (EmptyMask i) (empty_is_four (line_frame l) (line_cores l) (line_budgets l) (line_masks l) lent_table p.answer p.table p.planned i z e) (λ n. omega arith)

  pub line_thirteen_named : field x 0 1 ≡ 13 → SizedLine × MissingAt (line_cores l) (line_masks l) (field x 1 1) (field x 2 1)
  line_thirteen_named e =
      let s = thirteen_named (line_frame l) (line_cores l) (line_budgets l) (line_masks l) lent_table p.answer p.table p.planned (masks_narrow l) (sym number_is ∙ e) in
      let written = line_of (MissingCore s.0 s.1) s.2 in
      let back = missing_back s.0 s.1 (shown_pieces p.answer p.table) (fits_of (MissingCore s.0 s.1) s.2) in (
        s.3,
        subst (λ (c : ℕ). MissingAt (line_cores l) (line_masks l) (field x 1 1) c) (sym (ap (λ (y : List ℕ). digits_at y 4 2) written ∙ back.1))
            (subst (λ (i : ℕ). MissingAt (line_cores l) (line_masks l) i s.1) (sym (ap (λ (y : List ℕ). digits_at y 2 2) written ∙ back.0)) s.4),
      )

  pub line_missing_is_thirteen : (i c : ℕ) → SizedLine → MissingAt (line_cores l) (line_masks l) i c → x ≡ answer_line (MissingCore i c) []
  line_missing_is_thirteen i c z m =
      bare_line (MissingCore i c) (missing_is_thirteen (line_frame l) (line_cores l) (line_budgets l) (line_masks l) lent_table p.answer p.table p.planned (masks_narrow l) i c z m)
      (λ n. omega arith)
