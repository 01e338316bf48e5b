-- What a frame table is, read as facts about its pieces.
-- Assumes nothing.
use mathlib.Core.Path.{◌≡◌, sym, ◌∙◌, ap}
use mathlib.Core.Bool.{Bool, true, ◌&&◌}
use mathlib.Core.List.{List}
use Prim.Native.Nat.{ℕ, ◌%◌, ◌≤◌, ◌<◌}
use lib.Dec.{eqb, leb}
use lib.ListN.{length}
use borrow.Author.Tests.{leb-true, eqb-true, lt-ltb}
use Rattle.std.specs.Prelude.{Option, Some, unwrap_or}
use Rattle.rules.specs.Piece.{piece_at, whole_pieces}
use Rattle.rules.specs.FrameTable.{sound, ordered, core_apart, task_apart, frame_table}
use Rattle.table.specs.Read.{stretch_at, stretch_get, together, follows, passes}
use Rattle.table.specs.declared.Stretch.{Stretch}
use Rattle.sums.proofs.Both.{and_left, and_right}
use Rattle.stretches.proofs.Readings.{Sound, Disjoint, InOrder, sound_reads, ordered_reads, core_apart_reads, task_apart_reads}
use Rattle.table.proofs.All.{all_true, frame_table_passes}

-- the facts of a frame table
pub record TableReads (F m : ℕ) (l : List ℕ) : Type 0 where
  pub whole : length l % 4 ≡ 0
  pub few : whole_pieces l ≤ 95
  pub sound : (k : ℕ) → k < whole_pieces l → Sound F m (piece_at l k)
  pub order : (j k : ℕ) → j < k → k < whole_pieces l → InOrder (piece_at l j) (piece_at l k)
  pub cores_apart : (j k : ℕ) → j < k → k < whole_pieces l → (piece_at l j).core ≡ (piece_at l k).core → Disjoint (piece_at l j) (piece_at l k)
  pub tasks_apart : (j k : ℕ) → j < k → k < whole_pieces l → (piece_at l j).task ≡ (piece_at l k).task → Disjoint (piece_at l j) (piece_at l k)

module _ (F m : ℕ) (l : List ℕ) where
  pub table_reads : frame_table F m l ≡ true → TableReads F m l
  unfolding passes follows together
  table_reads e =
      record {
        whole = eqb-true _ _ (and_left w (f && a) all);
        few = leb-true _ _ (and_left f a (and_right w (f && a) all));
        sound = λ k h. sound_reads F m (piece_at l k) (and_left (sound F m (piece_at l k)) (follows l k) (at k h));
        order = λ j k g h. ordered_reads (piece_at l j) (piece_at l k) (and_left (ordered (piece_at l j) (piece_at l k)) (apart j k) (two j k g h));
        cores_apart = λ j k g h. core_apart_reads (piece_at l j) (piece_at l k) (and_left (core_apart (piece_at l j) (piece_at l k)) (task_apart (piece_at l j) (piece_at l k)) (and_right (ordered (piece_at l j) (piece_at l k)) (apart j k) (two j k g h)));
        tasks_apart = λ j k g h. task_apart_reads (piece_at l j) (piece_at l k) (and_right (core_apart (piece_at l j) (piece_at l k)) (task_apart (piece_at l j) (piece_at l k)) (and_right (ordered (piece_at l j) (piece_at l k)) (apart j k) (two j k g h)));
      }
    where
      w : Bool
      w = eqb (length l % 4) 0

      f : Bool
      f = leb (whole_pieces l) 95

      a : Bool
      a = passes F m l (whole_pieces l)

      all : (w && (f && a)) ≡ true
      all = sym (frame_table_passes l F m) ∙ e

      at : (k : ℕ) → k < whole_pieces l → (sound F m (piece_at l k) && follows l k) ≡ true
      at = all_true (whole_pieces l) (λ k. sound F m (piece_at l k) && follows l k) (and_right f a (and_right w (f && a) all))

      apart : ℕ → ℕ → Bool
      apart j k = core_apart (piece_at l j) (piece_at l k) && task_apart (piece_at l j) (piece_at l k)

      two : (j k : ℕ) → j < k → k < whole_pieces l → (ordered (piece_at l j) (piece_at l k) && apart j k) ≡ true
      two j k g h = all_true k (λ i. ordered (piece_at l i) (piece_at l k) && apart i k) (and_right (sound F m (piece_at l k)) (follows l k) (at k h)) j g

-- a piece that was read, of a list that has so many
pub stretch_some : (l : List ℕ) (k : ℕ) (o : Option Stretch) → o ≡ stretch_get l k → k < whole_pieces l → o ≡ Some (stretch_at l k)
stretch_some l k o e h = e ∙ some
  where
    some : stretch_get l k ≡ Some (stretch_at l k)
    some = rw (lt-ltb _ _ h)

pub stretch_got : (l : List ℕ) (k : ℕ) (o : Option Stretch) (p : Stretch) → o ≡ stretch_get l k → o ≡ Some p → k < whole_pieces l → p ≡ stretch_at l k
stretch_got l k o p e f h = ap (λ (q : Option Stretch). unwrap_or q p) (sym f ∙ stretch_some l k o e h)
