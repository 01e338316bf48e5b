-- The units of a task's pieces by start are the instants that some piece of the task covers, on every frame table.
-- Assumes nothing.
use mathlib.Core.Path.{◌≡◌, refl, sym, ◌∙◌, ap}
use mathlib.Core.Bool.{true, ◌&&◌, and-false}
use mathlib.Core.List.{List, [], ◌∷◌}
use mathlib.Core.Logic.{inl, inr}
use Prim.Native.Nat.{ℕ, ◌+◌, ◌%◌, ◌≤◌, ◌<◌}
use native.Mathlib.Decide.{ℕ_discrete, dec_lt, dec_le}
use native.Mathlib.Omega.{arith}
use lib.Dec.{eqb, leb}
use lib.ListN.{length}
use borrow.Author.Tests.{lt-ltb, le-ltb, le-leb, lt-leb, eq-eqb, ne_eqb}
use Rattle.rules.specs.Piece.{Piece, pieces_of}
use Rattle.rules.specs.FrameTable.{every, every_two, sound, ordered, core_apart, task_apart, frame_pieces, frame_table}
use Rattle.rules.specs.Moves.{insert, by_start}
use Rattle.rules.specs.Service.{covers, covered}
use Rattle.sums.proofs.Both.{and_left, and_right}
use Rattle.sums.proofs.Inserted.{insert_later, insert_here}
use Rattle.stretches.proofs.Readings.{Disjoint, task_apart_reads}
use Rattle.moves.proofs.Member.{In, by_start_own, by_start_other, in_by_start, every_in}
use Rattle.walker.specs.Served.{inside}
use Rattle.walker.proofs.Units.{inside_in, inside_before, inside_after}

-- how many pieces of the list cover the instant t of the frame
unfoldable pub insides : List Piece → ℕ → ℕ
insides [] t = 0
insides (p ∷ l) t = inside p.start p.len t + insides l t

insides_insert : (p : Piece) (l : List Piece) (t : ℕ) → insides (insert p l) t ≡ inside p.start p.len t + insides l t
unfolding insides insert
insides_insert p [] t = refl
insides_insert p (q ∷ l) t =
    elim (dec_le q.start p.start) [
      | yes a ↦ ap (λ (s : List Piece). insides s t) (insert_later p q l a) ∙ omega (arith, insides_insert p l t)
      | no a ↦ ap (λ (s : List Piece). insides s t) (insert_here p q l (omega arith))
    ]

insides_none : (l : List Piece) (t : ℕ) → ((q : Piece) → In q l → inside q.start q.len t ≡ 0) → insides l t ≡ 0
unfolding insides
insides_none [] t f = refl
insides_none (p ∷ l) t f = omega (arith, f p (inl refl), insides_none l t (λ q i. f q (inr i)))

module _ (task t : ℕ) (p : Piece) (l : List Piece) where
  covered_own : p.task ≡ task → p.start ≤ t → t < p.start + p.len → covered task t (p ∷ l) ≡ 1
  unfolding covered covers
  covered_own e g h = rw (covered, eq-eqb _ _ e, le-leb _ _ g, lt-ltb _ _ h)

  covered_other : (p.task ≡ task → ⊥) → covered task t (p ∷ l) ≡ covered task t l
  unfolding covered covers
  covered_other e = rw (covered, ne_eqb _ _ e)

  covered_before : t < p.start → covered task t (p ∷ l) ≡ covered task t l
  unfolding covered covers
  covered_before h = rw (covered, lt-leb _ _ h, and-false (eqb p.task task))

  covered_after : p.start + p.len ≤ t → covered task t (p ∷ l) ≡ covered task t l
  unfolding covered covers
  covered_after h = rw (covered, le-ltb _ _ h, and-false (eqb p.task task && leb p.start t))

pub insides_covered : (task t : ℕ) (ps : List Piece) → every_two task_apart ps ≡ true → insides (by_start task ps) t ≡ covered task t ps
unfolding by_start insides covered every_two
insides_covered task t [] a = refl
insides_covered task t (p ∷ ps) a =
    elim (ℕ_discrete p.task task) [
      | no e ↦ ap (λ (s : List Piece). insides s t) (by_start_other task p ps e) ∙ insides_covered task t ps later ∙ sym (covered_other task t p ps e)
      | yes e ↦
          ap (λ (s : List Piece). insides s t) (by_start_own task p ps e) ∙ insides_insert p (by_start task ps) t
          ∙ elim (dec_lt t p.start) [
            | yes h ↦ omega (arith, inside_before p.start p.len t h, covered_before task t p ps h, insides_covered task t ps later)
            | no g ↦
                elim (dec_lt t (p.start + p.len)) [
                  | yes h ↦ omega (arith, inside_in p.start p.len t (omega arith) h, covered_own task t p ps e (omega arith) h, alone e (omega arith) h)
                  | no h ↦ omega (arith, inside_after p.start p.len t (omega arith), covered_after task t p ps (omega arith), insides_covered task t ps later)
                ]
          ]
    ]
  where
    later : every_two task_apart ps ≡ true
    later = and_right (every (task_apart p) ps) (every_two task_apart ps) a

    away : (q : Piece) → Disjoint p q → p.start ≤ t → t < p.start + p.len → inside q.start q.len t ≡ 0
    away q (inl d) g h = inside_before q.start q.len t (omega arith)
    away q (inr d) g h = inside_after q.start q.len t (omega arith)

    alone : p.task ≡ task → p.start ≤ t → t < p.start + p.len → insides (by_start task ps) t ≡ 0
    alone e g h = insides_none (by_start task ps) t (λ q i. away q (apart q (in_by_start task q ps i)) g h)
      where
        apart : (q : Piece) → In q ps × (q.task ≡ task) → Disjoint p q
        apart q i = task_apart_reads p q (every_in (task_apart p) ps q (and_left (every (task_apart p) ps) (every_two task_apart ps) a) i.0) (e ∙ sym i.1)

pub table_covered : (F m : ℕ) (l : List ℕ) (task t : ℕ) → frame_table F m l ≡ true → insides (by_start task (pieces_of l)) t ≡ covered task t (pieces_of l)
unfolding frame_table frame_pieces
table_covered F m l task t e =
    insides_covered task t ps
    (and_right (leb (length ps) 95 && every (sound F m) ps && every_two ordered ps && every_two core_apart ps) (every_two task_apart ps)
    (and_right (eqb (length l % 4) 0) (leb (length ps) 95 && every (sound F m) ps && every_two ordered ps && every_two core_apart ps && every_two task_apart ps) e))
  where
    ps : List Piece
    ps = pieces_of l
