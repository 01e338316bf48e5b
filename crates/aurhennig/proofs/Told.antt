-- "No two answers share a line", of the answers that the planner gives: whatever two sets were planned, equal lines tell the same answer and the
-- same table.
-- Assumes nothing.
use mathlib.Core.Path.{◌≡◌, refl, sym, ◌∙◌, ap, subst}
use mathlib.Core.Bool.{true, false, not, ◌&&◌}
use mathlib.Core.List.{List, [], ◌∷◌}
use Prim.Native.Nat.{ℕ, zero, suc, ◌^◌, ◌≤◌, ◌<◌}
use native.Mathlib.Nat.{lt_of_lt_of_le}
use native.Mathlib.Omega.{arith}
use borrow.Author.Tests.{ltb-true, ltb-false, leb-true, eqb-true, not-false}
use lib.Dec.{eqb, leb, ltb}
use lib.ListN.{length, get_or}
use lib.Pow.{pow_mono}
use Rattle.rules.specs.Sum.{first_at}
use Rattle.rules.specs.Sets.{union}
use Rattle.rules.specs.Answer.{number_of}
use Rattle.rules.specs.Piece.{Piece, first_pieces}
use Rattle.rules.specs.FrameTable.{every, every_two, sound, ordered, core_apart, task_apart, frame_pieces}
use Rattle.rules.specs.Tests.{Tested, refused, passed, tested, bad_tasks, empty_mask, missing_task, missing_core, lowest_missing, bad_budget}
use Rattle.rules.specs.Plan.{at, Refusal, Decided, planned, overloaded, PlanAnswer, PlanAnswerAt}
use Rattle.rules.specs.Line.{answer_line}
use Rattle.rules.specs.declared.Answer.{Answer}
use Rattle.rules.specs.declared.Answer.TheVariants.{Accepted, Overloaded}
use Rattle.rules.specs.declared.Planned.{Planned}
use Rattle.rules.proofs.Numbers.{length_first}
use Rattle.rules.proofs.Replies.{number_zero}
use Rattle.sums.proofs.Both.{and_left, and_right, or_left, or_right}
use Rattle.sums.proofs.Lowest.{lowest_le}
use Rattle.sums.proofs.Sets.{union_lt}
use Rattle.stretches.proofs.Readings.{Sound, sound_reads}
use Rattle.tests.specs.Given.{Admitted}
use Rattle.tests.proofs.Cases.{tested_cases}
use Rattle.tests.proofs.MaskLaws.{missing}
use Rattle.tests.proofs.PassedLaws.{passed_ready}
use Rattle.answerline.specs.Shown.{PieceFits, PiecesFit, Shown}
use Rattle.answerline.proofs.Distinct.{no_two_answers_share_a_line, no_two_tables_share_a_line}
use Rattle.promises.proofs.Signed.{planned_within}

-- what the tests refuse with fits its line
Fits : Tested → Type 0
Fits (refused a) = Shown a []
Fits passed = Unit {0}

module _ (F m : ℕ) (budgets masks before : List ℕ) where
  low : (n k : ℕ) → n ≤ 64 → ltb k n ≡ true → k < 2 ^ 8
  low n k h e = omega (arith, ltb-true k n e)

  tasks : bad_tasks budgets masks ≡ false → length budgets ≤ 64
  unfolding bad_tasks
  tasks e = ltb-false 64 (length budgets) (or_left (ltb 64 (length budgets)) (not (eqb (length budgets) (length masks))) e)

  paired : bad_tasks budgets masks ≡ false → length masks ≤ 64
  unfolding bad_tasks
  paired e = omega (arith, tasks e, eqb-true (length budgets) (length masks) (not-false _ (or_right (ltb 64 (length budgets)) (not (eqb (length budgets) (length masks))) e)))

  core_low : missing_core m masks < 2 ^ 8
  unfolding lowest_missing
  core_low = omega (arith, lowest_le 16 (missing m (get_or masks (missing_task m masks) 0)))

  refused_fits : (a : Answer) → tested F m budgets masks before ≡ refused a → Shown a []
  unfolding Fits
  refused_fits a e =
      subst Fits e
      (tested_cases F m budgets masks before Fits tt tt tt (λ z e. low (length masks) (first_at empty_mask masks) (paired z.tasks) e)
      (λ z e k. (low (length masks) (missing_task m masks) (paired z.tasks) k, core_low)) (λ z g b. low (length budgets) (first_at (bad_budget F) budgets) (tasks z.tasks) b) (λ z g s. tt) (λ z g. tt))

-- the pieces of a frame table fit their fields
module _ (F m : ℕ) (frame : F ≤ 1000000) (cores : m ≤ 16) where
  piece_fits : (p : Piece) → Sound F m p → PieceFits p
  piece_fits p s = record { core = omega (arith, s.core, cores); task = omega (arith, s.task); start = omega (arith, s.end, frame); len = omega (arith, s.end, frame) }

  pieces_fit : (ps : List Piece) → every (sound F m) ps ≡ true → PiecesFit ps
  unfolding every
  pieces_fit [] e = tt
  pieces_fit (p ∷ ps) e = (
    piece_fits p (sound_reads F m p (and_left (sound F m p) (every (sound F m) ps) e)),
    pieces_fit ps (and_right (sound F m p) (every (sound F m) ps) e),
  )

  table_fits : (ps : List Piece) → frame_pieces F m ps ≡ true → Shown Accepted ps
  unfolding frame_pieces
  table_fits ps e =
      let b = and_left (leb (length ps) 95 && every (sound F m) ps) (every_two ordered ps) (and_left (leb (length ps) 95 && every (sound F m) ps && every_two ordered ps) (every_two core_apart ps) (and_left (leb (length ps) 95 && every (sound F m) ps && every_two ordered ps && every_two core_apart ps) (every_two task_apart ps) e)) in
      (omega (arith, leb-true (length ps) 95 (and_left (leb (length ps) 95) (every (sound F m) ps) b)), pieces_fit ps (and_right (leb (length ps) 95) (every (sound F m) ps) b))

-- the pieces that an answer shows: none beside a refusal
abbrev pub shown_pieces : Planned → List ℕ → List Piece
shown_pieces r after = first_pieces after r.pieces

module _ (F m : ℕ) (budgets masks before : List ℕ) (r : Planned) (after : List ℕ) where
  none_shown : (a : Answer) → Refusal a before r after → shown_pieces r after ≡ []
  unfolding first_pieces
  none_shown a h = rw h.pieces refl

  refusal_fits : (a : Answer) → Refusal a before r after → Shown a [] → Shown r.answer (shown_pieces r after)
  refusal_fits a h s = rw (h.answer, none_shown a h) s

  decided_fits : tested F m budgets masks before ≡ passed → Decided F m budgets masks before r after → Shown r.answer (shown_pieces r after)
  decided_fits pass (planned x p) =
      let w = planned_within F m budgets masks before pass r after x p in rw p.answer (table_fits F m w.1 w.2 (shown_pieces r after) w.0)
  decided_fits pass (overloaded g p) =
      refusal_fits (Overloaded g (union (length budgets) (at masks) g)) p.refusal
      (below_64 d.given.tasks p.smallest.tasks, below_16 d.given.cores (union_lt (length budgets) (at masks) g m d.given.narrow))
    where
      d : Admitted F m budgets masks before
      d = passed_ready F m budgets masks before pass

      below_64 : length budgets ≤ 64 → g < 2 ^ length budgets → g < 2 ^ 64
      below_64 h l = lt_of_lt_of_le l (pow_mono h)

      below_16 : m ≤ 16 → union (length budgets) (at masks) g < 2 ^ m → union (length budgets) (at masks) g < 2 ^ 16
      below_16 h l = lt_of_lt_of_le l (pow_mono h)

  fits_at : (t : Tested) → tested F m budgets masks before ≡ t → PlanAnswerAt t F m budgets masks before r after → Shown r.answer (shown_pieces r after)
  fits_at (refused a) e h = refusal_fits a h (refused_fits F m budgets masks before a e)
  fits_at passed e h = decided_fits e h

  -- whatever the planner answers fits its line
  pub planned_fits : PlanAnswer F m budgets masks before r after → Shown r.answer (shown_pieces r after)
  planned_fits h = fits_at (tested F m budgets masks before) refl h

  decided_refuses : Decided F m budgets masks before r after → (r.answer ≡ Accepted → ⊥) → shown_pieces r after ≡ []
  decided_refuses (planned x p) n = absurd (n p.answer)
  decided_refuses (overloaded g p) n = none_shown (Overloaded g (union (length budgets) (at masks) g)) p.refusal

  -- a refusal shows no pieces
  pub refuses_at : (t : Tested) → PlanAnswerAt t F m budgets masks before r after → (r.answer ≡ Accepted → ⊥) → shown_pieces r after ≡ []
  refuses_at (refused a) h n = none_shown a h
  refuses_at passed h n = decided_refuses h n

-- two sets, any at all, whose answers have one line
module _ (F m : ℕ) (budgets masks before : List ℕ) (r : Planned) (after : List ℕ) (one : PlanAnswer F m budgets masks before r after)
    (G k : ℕ) (others theirs lent : List ℕ) (q : Planned) (later : List ℕ) (other : PlanAnswer G k others theirs lent q later)
    (shared : answer_line r.answer (shown_pieces r after) ≡ answer_line q.answer (shown_pieces q later)) where
  same_answer : r.answer ≡ q.answer
  same_answer =
      no_two_answers_share_a_line r.answer q.answer (shown_pieces r after) (shown_pieces q later) (planned_fits F m budgets masks before r after one)
      (planned_fits G k others theirs lent q later other) shared

  both_accepted : r.answer ≡ Accepted → shown_pieces r after ≡ shown_pieces q later
  both_accepted e =
      no_two_tables_share_a_line (shown_pieces r after) (shown_pieces q later)
      (subst (λ (a : Answer). Shown a (shown_pieces r after)) e (planned_fits F m budgets masks before r after one))
      (subst (λ (a : Answer). Shown a (shown_pieces q later)) (sym same_answer ∙ e) (planned_fits G k others theirs lent q later other))
      (ap (λ (a : Answer). answer_line a (shown_pieces r after)) (sym e) ∙ shared ∙ ap (λ (a : Answer). answer_line a (shown_pieces q later)) (sym same_answer ∙ e))

  neither : (r.answer ≡ Accepted → ⊥) → shown_pieces r after ≡ shown_pieces q later
  neither n =
      refuses_at F m budgets masks before r after (tested F m budgets masks before) one n ∙
      sym (refuses_at G k others theirs lent q later (tested G k others theirs lent) other (λ e. n (same_answer ∙ e)))

  same_pieces : shown_pieces r after ≡ shown_pieces q later
  same_pieces = by_case (number_of r.answer) refl
    where
      by_case : (n : ℕ) → number_of r.answer ≡ n → shown_pieces r after ≡ shown_pieces q later
      by_case zero e = both_accepted (number_zero r.answer e)
      by_case (suc n) e = neither (λ a. apart (sym e ∙ ap number_of a))
        where
          apart : suc n ≡ 0 → ⊥
          apart z = omega arith

  -- the line tells the answer, the number of pieces and the table
  pub no_two_plans_share_a_line : (r ≡ q) × (shown_pieces r after ≡ shown_pieces q later)
  no_two_plans_share_a_line = (
    (λ i. record { answer = same_answer i; pieces = same_count i }),
    same_pieces,
  )
    where
      same_count : r.pieces ≡ q.pieces
      same_count = sym (length_first after r.pieces) ∙ ap length same_pieces ∙ length_first later q.pieces
