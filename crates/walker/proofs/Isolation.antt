-- Other models' pieces change no finish: two frame tables with the same pieces of the walked task give the same answer and the same list.
-- Assumes nothing.
use mathlib.Core.Path.{◌≡◌, refl, sym, ◌∙◌, ap}
use mathlib.Core.Bool.{Bool, true, false, cond}
use mathlib.Core.List.{List, [], ◌∷◌}
use Prim.Native.Nat.{ℕ, ◌%◌}
use native.Mathlib.Decide.{ℕ_discrete}
use native.Mathlib.Omega.{arith}
use lib.Dec.{eqb}
use borrow.Author.Tests.{eq-eqb, ne_eqb}
use Rattle.rules.specs.Tests.{Tested, refused, passed}
use Rattle.rules.specs.Piece.{Piece, pieces_of}
use Rattle.rules.specs.FrameTable.{frame_table}
use Rattle.rules.specs.Service.{covers, covered, units}
use Rattle.rules.specs.Finish.{Finish}
use Rattle.rules.specs.Walked.{walk_tested, WalkAnswerAt, WalkAnswer}
use Rattle.rules.specs.declared.Answer.{Answer}
use Rattle.sums.proofs.Sum.{sum_cong}
use Rattle.walker.proofs.Unique.{walk_answer_unique}

-- the task's pieces of a list, in its order
unfoldable pub own_pieces : ℕ → List Piece → List Piece
own_pieces task [] = []
own_pieces task (p ∷ l) = cond (eqb p.task task) (p ∷ own_pieces task l) (own_pieces task l)

other_misses : (task t : ℕ) (p : Piece) → (p.task ≡ task → ⊥) → covers task t p ≡ false
unfolding covers
other_misses task t p e = rw (ne_eqb _ _ e)

-- what a task is given, its own pieces say
pub covered_by_own : (task t : ℕ) (ps : List Piece) → covered task t ps ≡ covered task t (own_pieces task ps)
unfolding covered own_pieces
covered_by_own task t [] = refl
covered_by_own task t (p ∷ ps) =
    elim (ℕ_discrete p.task task) [
      | yes e ↦ rw (eq-eqb _ _ e) (ap (pick (covers task t p)) (covered_by_own task t ps))
      | no e ↦ rw (ne_eqb _ _ e) (other e (covered_by_own task t ps))
    ]
  where
    pick : Bool → ℕ → ℕ
    pick b n = elim b [ true ↦ 1 | false ↦ n ]

    other : (p.task ≡ task → ⊥) → covered task t ps ≡ covered task t (own_pieces task ps) → covered task t (p ∷ ps) ≡ covered task t (own_pieces task ps)
    other e h = ap (λ (b : Bool). pick b (covered task t ps)) (other_misses task t p e) ∙ h

pub units_by_own : (F : ℕ) (ps qs : List Piece) (task : ℕ) → own_pieces task ps ≡ own_pieces task qs → (e : ℕ) → units F ps task e ≡ units F qs task e
units_by_own F ps qs task same e =
    sum_cong e (λ t h. covered_by_own task (t % F) ps ∙ ap (covered task (t % F)) same ∙ sym (covered_by_own task (t % F) qs))

module _ (F m : ℕ) (table other : List ℕ) (task : ℕ) (releases jobs before : List ℕ) (framed : frame_table F m table ≡ true) (framed' : frame_table F m other ≡ true)
    (same : own_pieces task (pieces_of table) ≡ own_pieces task (pieces_of other)) where
  same_units : (e : ℕ) → units F (pieces_of other) task e ≡ units F (pieces_of table) task e
  same_units e = sym (units_by_own F (pieces_of table) (pieces_of other) task same e)

  same_tests : walk_tested F m other task releases jobs before ≡ walk_tested F m table task releases jobs before
  unfolding walk_tested
  same_tests = rw (framed, framed', same_units F)

  same_finish : (begin job e : ℕ) → Finish F (pieces_of other) task begin job e → Finish F (pieces_of table) task begin job e
  same_finish begin job e f =
      record {
        not_before = f.not_before;
        enough = omega (arith, f.enough, same_units begin, same_units e);
        least = λ d h g. f.least d h (omega (arith, same_units begin, same_units d));
      }

  moved : (s : Answer) (y : List ℕ) → WalkAnswer F m other task releases jobs before s y → WalkAnswer F m table task releases jobs before s y
  moved s y w = rw (← same_tests) (go (walk_tested F m other task releases jobs before) w)
    where
      go : (t : Tested) → WalkAnswerAt t F other task releases jobs before s y → WalkAnswerAt t F table task releases jobs before s y
      go (refused a) h = h
      go passed h = record { answer = h.answer; finishes = λ k l. same_finish _ _ _ (h.finishes k l); size = h.size; kept = h.kept }

  pub other_pieces_change_no_finish : (r s : Answer) (x y : List ℕ)
      → WalkAnswer F m table task releases jobs before r x → WalkAnswer F m other task releases jobs before s y → (r ≡ s) × (x ≡ y)
  other_pieces_change_no_finish r s x y p q = walk_answer_unique F m table task releases jobs before r s x y p (moved s y q)
