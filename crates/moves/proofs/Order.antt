-- A task's pieces by start follow each other without overlap, on every frame table.
-- Assumes nothing.
use mathlib.Core.Path.{◌≡◌, refl, sym, ◌∙◌, ap}
use mathlib.Core.Bool.{Bool, true, ◌&&◌}
use mathlib.Core.List.{List, [], ◌∷◌}
use mathlib.Core.Logic.{inl, inr}
use Prim.{Unit, tt}
use Prim.Native.Nat.{ℕ, ◌+◌, ◌%◌, ◌≤◌, ◌<◌}
use native.Mathlib.Decide.{ℕ_discrete, dec_le}
use native.Mathlib.Omega.{arith}
use lib.Dec.{eqb, leb}
use lib.ListN.{length}
use Rattle.rules.specs.Piece.{Piece, pieces_of}
use Rattle.rules.specs.FrameTable.{every, every_two, sound, ordered, core_apart, task_apart, frame_pieces, frame_table}
use Rattle.rules.specs.Moves.{insert, by_start}
use Rattle.sums.proofs.Both.{and_left, and_right}
use Rattle.moves.proofs.Member.{In, by_start_own, by_start_other, in_by_start, every_in}
use Rattle.stretches.proofs.Readings.{Disjoint, task_apart_reads, sound_reads}
use Rattle.sums.proofs.Inserted.{insert_later, insert_here}

-- no piece before b; each has a length, and starts at the end of the one before it or later
abbrev pub Chain : ℕ → List Piece → Type 0
Chain b [] = Unit {0}
Chain b (q ∷ l) = (b ≤ q.start) × (1 ≤ q.len) × Chain (q.start + q.len) l

pub chain_start : (b : ℕ) (l : List Piece) (q : Piece) → Chain b l → In q l → b ≤ q.start
chain_start b [] q c i = absurd i
chain_start b (p ∷ l) q c (inl e) = rw (ap (λ (r : Piece). r.start) e) c.0
chain_start b (p ∷ l) q c (inr i) = omega (arith, chain_start (p.start + p.len) l q c.2 i, c.0)

pub chain_insert : (b : ℕ) (p : Piece) (l : List Piece) → Chain b l → b ≤ p.start → 1 ≤ p.len → ((q : Piece) → In q l → Disjoint p q) → Chain b (insert p l)
unfolding insert
chain_insert b p [] c h n d = (h, n, tt)
chain_insert b p (q ∷ l) c h n d =
    elim (dec_le q.start p.start) [
      | yes a ↦
          rw (insert_later p q l a)
          (c.0, c.1, chain_insert (q.start + q.len) p l c.2 (after a (d q (inl refl))) n (λ r i. d r (inr i)))
      | no a ↦ rw (insert_here p q l (omega arith)) (h, n, (before (omega arith) (d q (inl refl)), c.1, c.2))
    ]
  where
    after : q.start ≤ p.start → Disjoint p q → q.start + q.len ≤ p.start
    after a (inl g) = omega arith
    after a (inr g) = g

    before : p.start < q.start → Disjoint p q → p.start + p.len ≤ q.start
    before a (inl g) = g
    before a (inr g) = omega (arith, c.1)

-- pieces with a length each, no two of one task with an instant in common
pub chain_by_start : (F m t : ℕ) (ps : List Piece) → every (sound F m) ps ≡ true → every_two task_apart ps ≡ true → Chain 0 (by_start t ps)
unfolding by_start every every_two
chain_by_start F m t [] s a = tt
chain_by_start F m t (p ∷ ps) s a =
    elim (ℕ_discrete p.task t) [
      | yes e ↦
          rw (by_start_own t p ps e)
          (chain_insert 0 p (by_start t ps) (chain_by_start F m t ps (and_right (sound F m p) (every (sound F m) ps) s) (and_right (every (task_apart p) ps) (every_two task_apart ps) a)) (omega arith) (sound_reads F m p (and_left (sound F m p) (every (sound F m) ps) s)).len
          (λ q i. apart q (in_by_start t q ps i) e))
      | no e ↦ rw (by_start_other t p ps e) (chain_by_start F m t ps (and_right (sound F m p) (every (sound F m) ps) s) (and_right (every (task_apart p) ps) (every_two task_apart ps) a))
    ]
  where
    apart : (q : Piece) → In q ps × (q.task ≡ t) → p.task ≡ t → Disjoint p q
    apart q i e = task_apart_reads p q (every_in (task_apart p) ps q (and_left (every (task_apart p) ps) (every_two task_apart ps) a) i.0) (e ∙ sym i.1)

pub chain_of_table : (F m : ℕ) (l : List ℕ) (t : ℕ) → frame_table F m l ≡ true → Chain 0 (by_start t (pieces_of l))
unfolding frame_table frame_pieces
chain_of_table F m l t e =
    chain_by_start F m t ps
    (and_right (leb (length ps) 95) s (and_left (leb (length ps) 95 && s) o (and_left (leb (length ps) 95 && s && o) c three)))
    (and_right (leb (length ps) 95 && s && o && c) a four)
  where
    ps : List Piece
    ps = pieces_of l

    s : Bool
    s = every (sound F m) ps

    o : Bool
    o = every_two ordered ps

    c : Bool
    c = every_two core_apart ps

    a : Bool
    a = every_two task_apart ps

    four : (leb (length ps) 95 && s && o && c && a) ≡ true
    four = and_right (eqb (length l % 4) 0) (leb (length ps) 95 && s && o && c && a) e

    three : (leb (length ps) 95 && s && o && c) ≡ true
    three = and_left (leb (length ps) 95 && s && o && c) a four
