-- Demand 2 as a customer signs it: what an answer that plan's contract allows says. Each statement starts from the contract alone.
-- Assumes nothing.
use mathlib.Core.Path.{◌≡◌, refl, sym, ◌∙◌, ap, subst}
use mathlib.Core.Bool.{true, false}
use mathlib.Core.List.{List}
use Prim.Native.Nat.{ℕ, ◌+◌, ◌*◌, ◌≤◌}
use native.Mathlib.Nat.{le_refl}
use native.Mathlib.Omega.{arith}
use borrow.Author.Tests.{le-ltb, ne_eqb, eqb-false}
use lib.Dec.{eqb}
use lib.ListN.{length, drop, length-append, length-drop}
use Rattle.rules.specs.Sets.{union}
use Rattle.rules.specs.Answer.{number_of, values_of}
use Rattle.rules.specs.Piece.{Piece, first_pieces, numbers_of}
use Rattle.rules.specs.FrameTable.{every, every_two, task_apart, frame_pieces, frame_table}
use Rattle.rules.specs.Service.{units}
use Rattle.rules.specs.Allocation.{limit_of}
use Rattle.rules.specs.Excess.{Overload}
use Rattle.rules.specs.Table.{table_of}
use Rattle.rules.specs.Tests.{Tested, refused, passed, tested, bad_frame, bad_cores}
use Rattle.rules.specs.Obeys.{allowed, Obeys}
use Rattle.rules.specs.Check.{check_answer}
use Rattle.rules.specs.Plan.{at, Refusal, PlannedBy, Decided, planned, overloaded, PlanAnswer, PlanAnswerAt}
use Rattle.rules.specs.Signed.{SignedTable, RefusedExactly}
use Rattle.rules.specs.declared.Answer.{Answer}
use Rattle.rules.specs.declared.Answer.TheVariants.{Accepted, Overloaded}
use Rattle.rules.specs.declared.Planned.{Planned}
use Rattle.rules.proofs.Numbers.{length_numbers}
use Rattle.sums.proofs.Sets.{has_zero}
use Rattle.tests.specs.Given.{Admitted}
use Rattle.tests.proofs.Cases.{tested_cases}
use Rattle.tests.proofs.PassedLaws.{passed_ready}
use Rattle.forest.proofs.Forest.{extra_below_cores}
use Rattle.overload.proofs.Exists.{overloaded_exactly_without_allocation}
use Rattle.overload.proofs.NoZero.{smallest_holds_no_zero}
use Rattle.frames.specs.Ready.{Ready}
use Rattle.frames.proofs.FrameTables.{table_is_frame_table, pieces_at_most, cores_allowed, never_two_at_once}
use Rattle.promises.proofs.Extras.{extra_counted}
use Rattle.promises.proofs.Stands.{pieces_stand, numbers_stand, rest_stands}
use Rattle.promises.proofs.Obeyed.{ready, table_obeys, overloaded_exactly_without_table}

-- within the sizes the table check looks at the table alone
check_accepts : (F m : ℕ) (l : List ℕ) → 1 ≤ F → F ≤ 1000000 → 1 ≤ m → m ≤ 16 → frame_table F m l ≡ true → check_answer F m l ≡ Accepted
unfolding check_answer bad_frame bad_cores
check_accepts F m l a b c d e = rw (ne_eqb F 0 (some a), le-ltb 1000000 F b, ne_eqb m 0 (some c), le-ltb 16 m d, e) refl
  where
    some : {k : ℕ} → 1 ≤ k → k ≡ 0 → ⊥
    some h z = omega arith

-- a set that passed the tests, planned by the allocation x
module _ (F m : ℕ) (budgets masks before : List ℕ) (pass : tested F m budgets masks before ≡ passed) (r : Planned) (after : List ℕ) (x : ℕ → ℕ → ℕ)
    (p : PlannedBy F m budgets masks before r after x) where
  d : Admitted F m budgets masks before
  d = passed_ready F m budgets masks before pass

  abbrev n : ℕ
  n = length budgets

  abbrev ps : List Piece
  ps = table_of F n m x

  all_ready : Ready F n m x
  all_ready = ready F n m (at budgets) (at masks) x d.given.frame_some d.given.frame d.given.tasks d.given.cores_some d.given.cores d.given.small p.allocation p.loop_free

  obeys : Obeys F n m (at budgets) (at masks) ps
  obeys = table_obeys F n m (at budgets) (at masks) x d.given.frame_some d.given.frame d.given.tasks d.given.cores_some d.given.cores d.given.small p.allocation p.loop_free

  stand : first_pieces after r.pieces ≡ ps
  stand = pieces_stand F m budgets masks before r after x p

  few : r.pieces + 1 ≤ n + 2 * m
  few = subst (λ (k : ℕ). k + 1 ≤ n + 2 * m) (sym p.pieces) (pieces_at_most F n m x all_ready)

  held : 4 * r.pieces ≤ length before
  held = omega (arith, few, d.room)

  size : length after ≡ length before
  size = ap length p.table ∙ length-append (numbers_of ps) (drop (4 * length ps) before) ∙ added
    where
      added : length (numbers_of ps) + length (drop (4 * length ps) before) ≡ length before
      added = omega (arith, length-drop (4 * length ps) before, length_numbers ps, held, p.pieces)

  pub planned_signed : SignedTable F m budgets masks before r after
  planned_signed =
      record {
        checked = ap (check_answer F m) (numbers_stand F m budgets masks before r after x p) ∙ accepts;
        exact = λ i l. ap (λ (qs : List Piece). units F qs i F) stand ∙ obeys.exact i l;
        on_mask = ap (every (allowed n (at masks))) stand ∙ obeys.on_mask;
        apart = ap (every_two task_apart) stand ∙ never_two_at_once F n m x all_ready;
        extra = rw stand (omega (arith, extra_counted n m x ps (cores_allowed F n m x all_ready), extra_below_cores all_ready.peeled d.given.cores_some));
        few = few;
        held = held;
        size = size;
        beyond = rest_stands F m budgets masks before r after x p (4 * r.pieces) (le_refl _);
      }
    where
      accepts : check_answer F m (numbers_of ps) ≡ Accepted
      accepts = check_accepts F m (numbers_of ps) d.given.frame_some d.given.frame d.given.cores_some d.given.cores (table_is_frame_table F n m x all_ready)

  -- the pieces that stand there are those of a frame table, within the sizes
  pub planned_within : (frame_pieces F m (first_pieces after r.pieces) ≡ true) × (F ≤ 1000000) × (m ≤ 16)
  planned_within = (ap (frame_pieces F m) stand ∙ obeys.table, d.given.frame, d.given.cores)

-- the number with which the tests refuse; 1 where they are passed, which is neither that of an accepted set nor of an overload
by_tests : Tested → ℕ
by_tests (refused a) = number_of a
by_tests passed = 1

module _ (F m : ℕ) (budgets masks before : List ℕ) where
  -- no test refuses with 0 or 7
  pub refused_by_tests : (a : Answer) → tested F m budgets masks before ≡ refused a → (number_of a ≡ 0 → ⊥) × (number_of a ≡ 7 → ⊥)
  unfolding by_tests
  refused_by_tests a e =
      subst neither e
      (tested_cases F m budgets masks before neither (apart 1 refl refl) (apart 2 refl refl) (apart 3 refl refl) (λ z e. apart 4 refl refl)
      (λ z e k. apart 13 refl refl) (λ z g b. apart 5 refl refl) (λ z g s. apart 6 refl refl) (λ z g. apart 1 refl refl))
    where
      neither : Tested → Type 0
      neither t = (by_tests t ≡ 0 → ⊥) × (by_tests t ≡ 7 → ⊥)

      apart : (n : ℕ) → eqb n 0 ≡ false → eqb n 7 ≡ false → (n ≡ 0 → ⊥) × (n ≡ 7 → ⊥)
      apart n p q = (eqb-false n 0 p, eqb-false n 7 q)

  module _ (r : Planned) (after : List ℕ) where
    not_by_tests : (a : Answer) → tested F m budgets masks before ≡ refused a → Refusal a before r after → r.answer ≡ Accepted → ⊥
    not_by_tests a e h y = let z : number_of a ≡ 0 = ap number_of (sym h.answer ∙ y) in (refused_by_tests a e).0 z

    differ : (g c : ℕ) → r.answer ≡ Overloaded g c → r.answer ≡ Accepted → ⊥
    differ g c p q = let z : ◌≡◌ {A = ℕ} 7 0 = ap number_of (sym p ∙ q) in omega (arith, z)

    decided_signed : tested F m budgets masks before ≡ passed → Decided F m budgets masks before r after → r.answer ≡ Accepted → SignedTable F m budgets masks before r after
    decided_signed pass (planned x p) y = planned_signed F m budgets masks before pass r after x p
    decided_signed pass (overloaded g p) y = absurd (differ g (union (length budgets) (at masks) g) p.refusal.answer y)

    signed_at : (t : Tested) → tested F m budgets masks before ≡ t → PlanAnswerAt t F m budgets masks before r after → r.answer ≡ Accepted → SignedTable F m budgets masks before r after
    signed_at (refused a) e h y = absurd (not_by_tests a e h y)
    signed_at passed e h y = decided_signed e h y

    -- demand 2 from the answer alone
    pub accepted_signed : PlanAnswer F m budgets masks before r after → r.answer ≡ Accepted → SignedTable F m budgets masks before r after
    accepted_signed h y = signed_at (tested F m budgets masks before) refl h y

    module _ (pass : tested F m budgets masks before ≡ passed) where
      e : Admitted F m budgets masks before
      e = passed_ready F m budgets masks before pass

      exactly : (Overload (length budgets) m (limit_of F) (at budgets) (at masks) → (ps : List Piece) × Obeys F (length budgets) m (at budgets) (at masks) ps → ⊥) ×
          (((ps : List Piece) × Obeys F (length budgets) m (at budgets) (at masks) ps → ⊥) → Overload (length budgets) m (limit_of F) (at budgets) (at masks))
      exactly =
          overloaded_exactly_without_table F (length budgets) m (at budgets) (at masks) e.given.frame_some e.given.frame e.given.tasks
          e.given.cores_some e.given.cores e.given.small

      decided_exactly : Decided F m budgets masks before r after → RefusedExactly F m budgets masks r.answer
      decided_exactly (planned x p) =
          record {
            refused_has_none = λ z. absurd (not_seven z);
            none_is_refused = λ none. absurd (overloaded_exactly_without_allocation.0 (exactly.1 (λ t. none t.0 t.1)) x p.allocation);
            else_accepted = λ z. p.answer;
            named = λ z. absurd (not_seven z);
          }
        where
          not_seven : number_of r.answer ≡ 7 → ⊥
          not_seven z = let y : ◌≡◌ {A = ℕ} 0 7 = ap number_of (sym p.answer) ∙ z in omega (arith, y)
      decided_exactly (overloaded g p) =
          record {
            refused_has_none = λ z qs o. exactly.0 (g, p.smallest.tasks, p.exceeds) (qs, o);
            none_is_refused = λ none. seven;
            else_accepted = λ z. absurd (z seven);
            named = λ z. (
              g,
              union (length budgets) (at masks) g,
              ap values_of p.refusal.answer,
              record {
                smallest = p.smallest;
                exceeds = p.exceeds;
                no_zero = λ i l b. has_zero g i (smallest_holds_no_zero (length budgets) m (limit_of F) (at budgets) (at masks) g p.smallest i l b);
                cores = refl;
              },
            );
          }
        where
          seven : number_of r.answer ≡ 7
          seven = ap number_of p.refusal.answer

      -- "overload is refused exactly when no such table exists, with the smallest group of greatest excess"
      pub refused_exactly : PlanAnswer F m budgets masks before r after → RefusedExactly F m budgets masks r.answer
      refused_exactly h = decided_exactly (subst (λ (t : Tested). PlanAnswerAt t F m budgets masks before r after) pass h)
