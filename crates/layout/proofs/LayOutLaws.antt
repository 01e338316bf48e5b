-- Laws for `lay_all` of `laying`: the walk and the pieces of all cores make the table of the units, and the lent list has room for it.
-- Assumes nothing.
use mathlib.Core.Path.{◌≡◌, sym, ◌∙◌, ap, subst}
use mathlib.Core.List.{List, ◌++◌}
use Prim.Native.Nat.{ℕ, ◌+◌, ◌*◌, ◌/◌, ◌≤◌, ◌<◌}
use native.Mathlib.Nat.{le_refl, le_trans}
use native.Mathlib.Omega.{arith}
use lib.ListN.{length, drop}
use Rattle.rules.specs.Sizes.{max_cores}
use Rattle.rules.specs.Sum.{sum_to, positive}
use Rattle.rules.specs.Piece.{Piece, numbers_of}
use Rattle.rules.specs.Layout.{Walk, layout}
use Rattle.rules.specs.Table.{cells, cell_at, cores_to, table_of_cells, table_of}
use Rattle.sums.proofs.Sum.{sum_le, sum_const, sum_count, sum_swap, positive_le}
use Rattle.stretches.specs.Cell.{cell}
use Rattle.stretches.specs.Small.{Small, Bounded}
use Rattle.stretches.proofs.Bounds.{bounded_more, bounded_visits}
use Rattle.stretches.proofs.Lengths.{cores_length}
use Rattle.stretches.proofs.Cells.{cell_at_lem}
use Rattle.stretches.proofs.Agree.{layout_agree, cores_agree}
use Rattle.fitting.specs.Fits.{Fits}
use Rattle.layout.specs.Walking.{walk_of, latest_start, Kept}
use Rattle.layout.specs.Pieces.{most_pieces, cores_pieces, OnCores}
use Rattle.layout.specs.declared.walking.Walked.{Walked}

pub fits_small : {F n m : ℕ} {x : ℕ → ℕ → ℕ} {room : ℕ} → Fits F n m x room → Small n m x
fits_small r =
    record {
      tasks = r.tasks_most;
      cores = r.cores_most;
      rows = λ t l. le_trans (r.rows t l) r.frame_most;
      cols = λ j l. le_trans (r.cols j l) r.frame_most;
    }

module _ (F n m : ℕ) (x : ℕ → ℕ → ℕ) (room : ℕ) (r : Fits F n m x room) where
  bounded_layout : Bounded n (latest_start max_cores) (layout n m x)
  unfolding layout
  bounded_layout = bounded_more (omega (arith, r.cores_most)) (bounded_visits n m x (fits_small r) m (le_refl _))

  -- the table of the rules, made from the units as they stand
  table_from : cores_to F n m x (layout n m x) m ≡ table_of F n m x
  unfolding table_of table_of_cells
  table_from =
      cores_agree n m x (cell_at m (cells n m x)) agree F (layout n m x) bounded_layout.firsts m (le_refl _)
      ∙ ap (λ (w : Walk). cores_to F n m (cell_at m (cells n m x)) w m) (layout_agree n m x (cell_at m (cells n m x)) agree (fits_small r))
    where
      agree : (i j : ℕ) → i < n → j < m → x i j ≡ cell_at m (cells n m x) i j
      agree i j a b = sym (cell_at_lem n m x i j a b)

  -- how many cells are used
  used : ℕ
  used = sum_to n (λ t. sum_to m (λ j. positive (x t j)))

  used_few : used + m ≤ most_pieces
  unfolding used
  used_few = omega (arith, r.tasks_most, r.cores_most, sum_const n max_cores, sum_le n {f = λ t. sum_to m (λ j. positive (x t j))} {g = λ t. max_cores} (λ t l. le_trans (sum_count m (λ j. positive (x t j)) (λ j k. positive_le (x t j))) r.cores_most))

  laid_length : length (cores_to F n m x (layout n m x) m) ≤ used + m
  unfolding used
  laid_length =
      omega (arith, cores_length F n m x (layout n m x) r.frame_some r.cols bounded_layout.firsts m (le_refl _), sum_swap n m (λ t j. positive (x t j)))

module _ (F n m : ℕ) (units : List ℕ) (long : ℕ) (r : Fits F n m (cell units) (long / 4)) where
  module _ (s : Walked) (k : Kept (layout n m (cell units)) s) where
    pieces_are : cores_pieces F n m units s m ≡ cores_to F n m (cell units) (layout n m (cell units)) m
    pieces_are = ap (λ (w : Walk). cores_to F n m (cell units) w m) k.same

    bounded : Bounded n (latest_start max_cores) (walk_of s)
    bounded = rw k.same (bounded_layout F n m (cell units) (long / 4) r)

    pub out_asks : OnCores F n m units s long
    unfolding used
    out_asks =
        record {
          frame_some = r.frame_some;
          frame_most = r.frame_most;
          starts = bounded.starts;
          firsts = bounded.firsts;
          columns = r.cols;
          room =
              rw pieces_are
              (record {
                few = le_trans (laid_length F n m (cell units) (long / 4) r) (used_few F n m (cell units) (long / 4) r);
                room_for = omega (arith, laid_length F n m (cell units) (long / 4) r, r.room_for);
              });
        }

    pub out_done : (c : ℕ) (l u : List ℕ)
        → (c ≡ length (cores_pieces F n m units s m)) × (u ≡ numbers_of (cores_pieces F n m units s m) ++ drop (4 * c) l)
        → (c ≡ length (table_of F n m (cell units))) × (u ≡ numbers_of (table_of F n m (cell units)) ++ drop (4 * c) l)
    out_done c l u h =
        subst (λ (t : List Piece). (c ≡ length t) × (u ≡ numbers_of t ++ drop (4 * c) l)) (pieces_are ∙ table_from F n m (cell units) (long / 4) r) h
