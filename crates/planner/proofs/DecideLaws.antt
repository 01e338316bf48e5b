-- For decide.rt and plan: the parts of the planner make up its answer.
-- Assumes nothing.
use mathlib.Core.Path.{◌≡◌, refl, sym, ◌∙◌, ap, subst}
use mathlib.Core.List.{List, ◌++◌}
use Prim.Native.Nat.{ℕ, ◌*◌, ◌/◌, ◌≤◌}
use native.Mathlib.Omega.{arith}
use lib.ListN.{length, drop}
use Rattle.rules.specs.Piece.{numbers_of}
use Rattle.rules.specs.Allocation.{limit_of, Allocation}
use Rattle.rules.specs.Table.{table_of}
use Rattle.rules.specs.Tests.{Tested, passed, tested}
use Rattle.rules.specs.Plan.{at, Decided, planned, overloaded, PlanAnswer, PlanAnswerAt}
use Rattle.rules.specs.declared.Answer.TheVariants.{Accepted, Overloaded}
use Rattle.rules.specs.declared.Planned.{Planned}
use Rattle.stretches.specs.Cell.{cell}
use Rattle.forest.specs.Peeled.{Peeled}
use Rattle.forest.specs.Ring.{Kept}
use Rattle.fitting.specs.Fits.{Fits}
use Rattle.layout.specs.Laid.{LayAnswer}
use Rattle.layout.proofs.Answered.{fits_laid}
use Rattle.planner.specs.Fill.{demand}
use Rattle.planner.specs.Filled.{WholeBy, ShortBy}
use Rattle.tests.specs.Given.{Admitted}
use Rattle.planner.specs.Plan.{Settled}
use Rattle.forest.proofs.Forest.{used_at_most, peeled_has_no_loop}
use Rattle.forest.proofs.Unlooped.{kept_allocation}
use Rattle.std.specs.Prelude.{Option, Some, None, IsSome}

pieces_of : Option ℕ → ℕ
pieces_of (Some r) = r
pieces_of None = 0

module _ (F m : ℕ) (budgets masks table : List ℕ) (d : Admitted F m budgets masks table) where
  module _ (units : List ℕ) (w : WholeBy (demand F m budgets masks) units) where
    module _ (after : List ℕ) (k : Kept (length budgets) m (cell units) (cell after)) (p : Peeled (length budgets) m (cell after)) where
      again : Allocation (length budgets) m (limit_of F) (at budgets) (at masks) (cell after)
      again = kept_allocation w.allocation k

      -- the units fit, and the lent table has room: a forest has fewer links than vertices
      layout_fits : Fits F (length budgets) m (cell after) (length table / 4)
      layout_fits =
          record {
            frame_some = d.given.frame_some;
            frame_most = d.given.frame;
            tasks_most = d.given.tasks;
            cores_some = d.given.cores_some;
            cores_most = d.given.cores;
            rows = λ i l. subst (λ (v : ℕ). v ≤ F) (sym (again.exact i l)) (d.given.small i l);
            cols = again.within;
            room_for = omega (arith, used_at_most p d.given.cores_some, d.room);
          }

      settled_at : (r : ℕ) (now : List ℕ) → r ≡ length (table_of F (length budgets) m (cell after))
          → now ≡ numbers_of (table_of F (length budgets) m (cell after)) ++ drop (4 * length (table_of F (length budgets) m (cell after))) table
          → Settled (demand F m budgets masks) table r now (cell after)
      settled_at r now e f = record { allocation = again; loop_free = peeled_has_no_loop p; pieces = e; table = f }

      laid_at : {o : Option ℕ} {now : List ℕ} → LayAnswer F (length budgets) m after table o now
          → (o ≡ Some (length (table_of F (length budgets) m (cell after))))
          × (now ≡ numbers_of (table_of F (length budgets) m (cell after)) ++ drop (4 * length (table_of F (length budgets) m (cell after))) table)
      laid_at a = fits_laid F (length budgets) m after table layout_fits a

      pub settled_some : {o : Option ℕ} {now : List ℕ} → LayAnswer F (length budgets) m after table o now → IsSome o
      settled_some a = let P : Option ℕ → Type 0 = λ o. IsSome o in subst P (sym (laid_at a).0) refl

      pub settled_by : {o : Option ℕ} (r : ℕ) {now : List ℕ} → LayAnswer F (length budgets) m after table o now → o ≡ Some r → Settled (demand F m budgets masks) table r now (cell after)
      unfolding pieces_of
      settled_by r a e = settled_at r _ (ap pieces_of (sym e ∙ (laid_at a).0)) (laid_at a).1

  pub decided_whole : (r : ℕ) (now : List ℕ) (x : ℕ → ℕ → ℕ) → Settled (demand F m budgets masks) table r now x
      → Decided F m budgets masks table (record { answer = Accepted; pieces = r }) now
  decided_whole r now x s =
      planned x (record { allocation = s.allocation; loop_free = s.loop_free; answer = refl; pieces = s.pieces; table = s.table })

  pub decided_short : (g c : ℕ) → ShortBy (demand F m budgets masks) g c → Decided F m budgets masks table (record { answer = Overloaded g c; pieces = 0 }) table
  decided_short g c s =
      overloaded g
      (record { exceeds = s.exceeds; smallest = s.smallest; refusal = record { answer = ap (Overloaded g) s.cores; pieces = refl; kept = refl } })

module _ (F m : ℕ) (budgets masks before : List ℕ) where
  pub answer_decided : (r : Planned) (after : List ℕ) → passed ≡ tested F m budgets masks before → Decided F m budgets masks before r after → PlanAnswer F m budgets masks before r after
  answer_decided r after h d = subst (λ (t : Tested). PlanAnswerAt t F m budgets masks before r after) h d
