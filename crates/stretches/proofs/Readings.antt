-- The tests of the rules on one piece and on two, read as facts: each is true exactly where its facts hold.
-- Assumes nothing.
use mathlib.Core.Path.{◌≡◌, refl, sym, ◌∙◌}
use mathlib.Core.Bool.{Bool, true, false, not, ◌&&◌, true≢false}
use mathlib.Core.Logic.{◌⊎◌, inl, inr}
use Prim.Native.Nat.{ℕ, ◌+◌, ◌≤◌, ◌<◌}
use native.Mathlib.Decide.{ℕ_discrete, dec_lt}
use native.Mathlib.Omega.{arith}
use lib.Dec.{eqb, leb, ltb}
use borrow.Author.Tests.{lt-ltb, le-ltb, le-leb, eq-eqb, ne_eqb, ltb-true, leb-true, eqb-true}
use Rattle.rules.specs.Piece.{Piece}
use Rattle.rules.specs.FrameTable.{sound, ordered, overlap, core_apart, task_apart}
use Rattle.sums.proofs.Both.{and_left, and_right}

-- "each core below m, each task below 64, length at least 1, start + length at most F"
pub record Sound (F m : ℕ) (p : Piece) : Type 0 where
  pub core : p.core < m
  pub task : p.task < 64
  pub len : 1 ≤ p.len
  pub end : p.start + p.len ≤ F

-- two pieces have no instant in common: one ends before the other starts
abbrev pub Disjoint : Piece → Piece → Type 0
Disjoint p q = (p.start + p.len ≤ q.start) ⊎ (q.start + q.len ≤ p.start)

-- "in order of core and then start"
abbrev pub InOrder : Piece → Piece → Type 0
InOrder p q = (p.core < q.core) ⊎ ((p.core ≡ q.core) × (p.start ≤ q.start))

module _ (F m : ℕ) (p : Piece) where
  pub sound_reads : sound F m p ≡ true → Sound F m p
  unfolding sound
  sound_reads e =
      record {
        core = ltb-true _ _ (and_left a b (and_left (a && b) c (and_left ((a && b) && c) d e)));
        task = ltb-true _ _ (and_right a b (and_left (a && b) c (and_left ((a && b) && c) d e)));
        len = leb-true _ _ (and_right (a && b) c (and_left ((a && b) && c) d e));
        end = leb-true _ _ (and_right ((a && b) && c) d e);
      }
    where
      a : Bool
      a = ltb p.core m

      b : Bool
      b = ltb p.task 64

      c : Bool
      c = leb 1 p.len

      d : Bool
      d = leb (p.start + p.len) F

  pub reads_sound : Sound F m p → sound F m p ≡ true
  unfolding sound
  reads_sound s = simp (lt-ltb _ _ s.core, lt-ltb _ _ s.task, le-leb _ _ s.len, le-leb _ _ s.end)

flip : (o : Bool) → not o ≡ true → o ≡ false
flip true h = sym h
flip false h = refl

module _ (p q : Piece) where
  -- no instant in common, by the rules' test
  pub overlap_reads : overlap p q ≡ false → Disjoint p q
  unfolding overlap
  overlap_reads e =
      elim (dec_lt p.start (q.start + q.len)) [
        | no g ↦ inr (omega arith)
        | yes h ↦
            elim (dec_lt q.start (p.start + p.len)) [
              | no g ↦ inl (omega arith)
              | yes k ↦ absurd (true≢false (sym (rw (lt-ltb _ _ h, lt-ltb _ _ k)) ∙ e))
            ]
      ]

  pub reads_overlap : Disjoint p q → overlap p q ≡ false
  unfolding overlap
  reads_overlap (inl h) =
      elim (dec_lt p.start (q.start + q.len)) [ yes g ↦ rw (lt-ltb _ _ g, le-ltb _ _ h) | no g ↦ rw (le-ltb p.start (q.start + q.len) (omega arith)) ]
  reads_overlap (inr h) = rw (le-ltb p.start (q.start + q.len) h)

  pub core_apart_reads : core_apart p q ≡ true → p.core ≡ q.core → Disjoint p q
  unfolding core_apart
  core_apart_reads e c = overlap_reads (flip (overlap p q) (rw (eq-eqb _ _ c) at e))

  pub reads_core_apart : (p.core ≡ q.core → Disjoint p q) → core_apart p q ≡ true
  unfolding core_apart
  reads_core_apart f =
      elim (ℕ_discrete p.core q.core) [ yes c ↦ rw (eq-eqb _ _ c, reads_overlap (f c)) | no c ↦ rw (ne_eqb _ _ c) ]

  pub task_apart_reads : task_apart p q ≡ true → p.task ≡ q.task → Disjoint p q
  unfolding task_apart
  task_apart_reads e c = overlap_reads (flip (overlap p q) (rw (eq-eqb _ _ c) at e))

  pub reads_task_apart : (p.task ≡ q.task → Disjoint p q) → task_apart p q ≡ true
  unfolding task_apart
  reads_task_apart f =
      elim (ℕ_discrete p.task q.task) [ yes c ↦ rw (eq-eqb _ _ c, reads_overlap (f c)) | no c ↦ rw (ne_eqb _ _ c) ]

  pub ordered_reads : ordered p q ≡ true → InOrder p q
  unfolding ordered
  ordered_reads e =
      elim (dec_lt p.core q.core) [
        | yes h ↦ inl h
        | no h ↦ inr (equal (rw (le-ltb p.core q.core (omega arith)) at e))
      ]
    where
      equal : (eqb p.core q.core && leb p.start q.start) ≡ true → (p.core ≡ q.core) × (p.start ≤ q.start)
      equal h = (
        eqb-true _ _ (and_left (eqb p.core q.core) (leb p.start q.start) h),
        leb-true _ _ (and_right (eqb p.core q.core) (leb p.start q.start) h),
      )

  pub reads_ordered : InOrder p q → ordered p q ≡ true
  unfolding ordered
  reads_ordered (inl h) = rw (lt-ltb _ _ h)
  reads_ordered (inr h) = rw (le-ltb p.core q.core (omega arith), eq-eqb _ _ h.0, le-leb _ _ h.1)
