-- The table that an allocation fixes is a frame table with the exact budgets, on allowed cores, of at most n + 2m - 1 pieces.
-- Assumes nothing.
use mathlib.Core.Path.{◌≡◌, refl, sym, ◌∙◌}
use mathlib.Core.Bool.{true}
use mathlib.Core.List.{List, [], ◌∷◌}
use Prim.Native.Nat.{ℕ, ◌+◌, ◌*◌, ◌≤◌, ◌<◌}
use native.Mathlib.Nat.{le_refl, le_trans}
use native.Mathlib.Omega.{arith}
use lib.ListN.{length}
use borrow.Author.Tests.{le-leb}
use Rattle.rules.specs.Sizes.{max_pieces, max_tasks}
use Rattle.rules.specs.Sum.{sum_to}
use Rattle.rules.specs.Piece.{Piece, numbers_of}
use Rattle.rules.specs.Layout.{Walk, layout}
use Rattle.rules.specs.Table.{cells, cell_at, cores_to, table_of_cells, table_of}
use Rattle.rules.specs.FrameTable.{every_two, sound, ordered, core_apart, task_apart, frame_pieces, frame_table}
use Rattle.rules.specs.Service.{units}
use Rattle.sums.proofs.Sum.{sum_cong, sum_term}
use Rattle.forest.specs.Peeled.{Peeled}
use Rattle.frames.specs.Ready.{Ready}
use Rattle.frames.proofs.LaidOut.{laid_out, layout_firsts}
use Rattle.stretches.proofs.PieceLists.{Every, Pairs, every_map, every_true, pairs_map, pairs_true}
use Rattle.frames.proofs.Parts.{Clear, Both, Part, PartBelow, cores_parts, cores_both}
use Rattle.frames.proofs.Counts.{cores_at_most}
use Rattle.stretches.proofs.Readings.{reads_sound, reads_core_apart, reads_task_apart, reads_ordered}
use Rattle.stretches.proofs.Numbers.{pieces_of_numbers, numbers_whole}
use Rattle.stretches.proofs.Cells.{cell_at_lem}
use Rattle.frames.proofs.Budgets.{Inside, units_are_weight, cores_weight}

part_sound : (F n m : ℕ) (x : ℕ → ℕ → ℕ) (w : Walk) → n ≤ max_tasks → (p : Piece) → Part F n m x w p → sound F m p ≡ true
part_sound F n m x w h p a =
    reads_sound F m p (record { core = a.core; task = omega (arith, a.task); len = a.some; end = a.inside })

-- of an allocation read as it stands
module _ (F n m : ℕ) (x : ℕ → ℕ → ℕ) (r : Ready F n m x) where
  abbrev pub made : List Piece
  made = cores_to F n m x (layout n m x) m

  pub made_parts : Every (PartBelow F n m x (layout n m x) r.frame_some r.rows r.cols (layout_firsts n m x r.peeled) (laid_out n m x r.peeled) m) made
  made_parts = cores_parts F n m x (layout n m x) r.frame_some r.rows r.cols (layout_firsts n m x r.peeled) (laid_out n m x r.peeled) m (le_refl _)

  pub made_both : Pairs Both made
  made_both = cores_both F n m x (layout n m x) r.frame_some r.rows r.cols (layout_firsts n m x r.peeled) (laid_out n m x r.peeled) m (le_refl _)

  pub made_length : length made + 1 ≤ n + 2 * m
  made_length = cores_at_most F n m x (layout n m x) r.frame_some r.cols (layout_firsts n m x r.peeled) r.peeled r.cores_some

  made_pieces : frame_pieces F m made ≡ true
  unfolding frame_pieces
  made_pieces =
      rw (
        le-leb (length made) max_pieces (omega (arith, made_length, r.tasks_most, r.cores_most)),
        every_true (sound F m) made (every_map (PartBelow F n m x (layout n m x) r.frame_some r.rows r.cols (layout_firsts n m x r.peeled) (laid_out n m x r.peeled) m) (λ p. sound F m p ≡ true) made (λ p h. part_sound F n m x (layout n m x) r.tasks_most p h.0) made_parts),
        pairs_true Both ordered made (λ a b h. reads_ordered a b h.1.order) made_both,
        pairs_true Both core_apart made (λ a b h. reads_core_apart a b h.0.on_core) made_both,
        pairs_true Both task_apart made (λ a b h. reads_task_apart a b h.0.of_task) made_both,
      )

  made_tasks : every_two task_apart made ≡ true
  made_tasks = pairs_true Both task_apart made (λ a b h. reads_task_apart a b h.0.of_task) made_both

  made_clear : Pairs Clear made
  made_clear = pairs_map (λ p. Unit {0}) Both Clear made (λ a b u v h. h.0) (all made) made_both
    where
      all : (l : List Piece) → Every (λ p. Unit {0}) l
      all [] = tt
      all (a ∷ l) = (tt, all l)

  made_units : (i : ℕ) → i < n → units F made i F ≡ sum_to m (x i)
  made_units i l =
      units_are_weight i F made
      (every_map (PartBelow F n m x (layout n m x) r.frame_some r.rows r.cols (layout_firsts n m x r.peeled) (laid_out n m x r.peeled) m) (Inside i F) made (λ p h. h.0.inside) made_parts)
      made_clear
      ∙ cores_weight i F n m x (layout n m x) r.frame_some m l (λ j b. le_trans (sum_term m j (x i) b) (r.rows i l))

module _ (n m : ℕ) (x y : ℕ → ℕ → ℕ) (agree : (i j : ℕ) → i < n → j < m → y i j ≡ x i j) where
  pub peeled_same : Peeled n m x → Peeled n m y
  peeled_same p =
      record {
        task_rank = p.task_rank;
        core_rank = p.core_rank;
        apart = λ i a j b h. p.apart i a j b (rw (sym (agree i j a b)) h);
        task_one = λ i a j k b c u v. p.task_one i a j k b c (rw (sym (agree i j a b)) u) (rw (sym (agree i k a c)) v);
        core_one = λ j b i k a c u v. p.core_one j b i k a c (rw (sym (agree i j a b)) u) (rw (sym (agree k j c b)) v);
      }

  pub ready_same : (F : ℕ) → Ready F n m x → Ready F n m y
  ready_same F r =
      record {
        frame_some = r.frame_some;
        frame_most = r.frame_most;
        tasks_most = r.tasks_most;
        cores_some = r.cores_some;
        cores_most = r.cores_most;
        peeled = peeled_same r.peeled;
        rows = λ t tn. rw (sum_cong m {f = y t} {g = x t} (λ j b. agree t j tn b)) (r.rows t tn);
        cols = λ j jm. rw (sum_cong n {f = λ i. y i j} {g = λ i. x i j} (λ i a. agree i j a jm)) (r.cols j jm);
      }

-- a piece of task i on core j stands where the allocation has units
pub record Allowed (n m : ℕ) (x : ℕ → ℕ → ℕ) (p : Piece) : Type 0 where
  pub task : p.task < n
  pub core : p.core < m
  pub units : 0 < x p.task p.core

module _ (F n m : ℕ) (x : ℕ → ℕ → ℕ) (r : Ready F n m x) where
  -- the units as the table's definition reads them
  abbrev pub read : ℕ → ℕ → ℕ
  read = cell_at m (cells n m x)

  pub read_ready : Ready F n m read
  read_ready = ready_same n m x read (λ i j a b. cell_at_lem n m x i j a b) F r

  pub table_made : table_of F n m x ≡ made F n m read read_ready
  unfolding table_of table_of_cells
  table_made = refl

  -- "What counts as a frame table"
  pub table_is_frame_table : frame_table F m (numbers_of (table_of F n m x)) ≡ true
  unfolding frame_table
  table_is_frame_table =
      rw (numbers_whole (table_of F n m x), pieces_of_numbers (table_of F n m x), table_made) (made_pieces F n m read read_ready)

  -- "n + 2 × m − 1 pieces"
  pub pieces_at_most : length (table_of F n m x) + 1 ≤ n + 2 * m
  pieces_at_most = rw table_made (made_length F n m read read_ready)

  -- "each task's units add up to its budget": in the table too
  pub budgets_exact : (i : ℕ) → i < n → units F (table_of F n m x) i F ≡ sum_to m (x i)
  budgets_exact i l = rw table_made (made_units F n m read read_ready i l) ∙ sum_cong m {f = read i} {g = x i} (λ j b. cell_at_lem n m x i j l b)

  -- "none outside its mask": only where the allocation has units
  pub cores_allowed : Every (Allowed n m x) (table_of F n m x)
  cores_allowed =
      rw table_made
      (every_map (PartBelow F n m read (layout n m read) read_ready.frame_some read_ready.rows read_ready.cols (layout_firsts n m read read_ready.peeled) (laid_out n m read read_ready.peeled) m) (Allowed n m x) (made F n m read read_ready)
      (λ p h. record { task = h.0.task; core = h.0.core; units = rw (sym (cell_at_lem n m x p.task p.core h.0.task h.0.core)) h.0.runs })
      (made_parts F n m read read_ready))

  -- no task runs on two cores at once
  pub never_two_at_once : every_two task_apart (table_of F n m x) ≡ true
  never_two_at_once = rw table_made (made_tasks F n m read read_ready)
