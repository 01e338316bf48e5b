-- Demand 2: the table that document 01 fixes for a loop-free allocation obeys the rules, and overload stands exactly when no table does.
-- Assumes nothing.
use mathlib.Core.Path.{◌≡◌, refl, sym, ◌∙◌, subst}
use mathlib.Core.Bool.{true}
use mathlib.Core.Logic.{◌⊎◌, inl, inr, ⊎_elim}
use mathlib.Core.List.{List}
use Prim.Native.Nat.{ℕ, ◌%◌, ◌≤◌, ◌<◌}
use native.Mathlib.Omega.{arith}
use borrow.Author.Tests.{lt-ltb, eq-eqb}
use lib.Dec.{eqb}
use lib.ListN.{length}
use Rattle.rules.specs.Sets.{has}
use Rattle.rules.specs.Piece.{Piece, numbers_of, pieces_of}
use Rattle.rules.specs.FrameTable.{frame_pieces, frame_table}
use Rattle.rules.specs.Allocation.{limit_of, Allocation}
use Rattle.rules.specs.Excess.{Overload}
use Rattle.rules.specs.Loops.{LoopFree}
use Rattle.rules.specs.Table.{table_of}
use Rattle.rules.specs.Obeys.{allowed, Obeys}
use Rattle.sums.proofs.Both.{and_right}
use Rattle.sums.proofs.Sets.{has_lt}
use Rattle.forest.proofs.Apart.{loop_free_comes_apart}
use Rattle.forest.proofs.Unlooped.{allocation_without_loops}
use Rattle.overload.proofs.Exists.{allocation_or_overload, overloaded_exactly_without_allocation}
use Rattle.stretches.proofs.Numbers.{pieces_of_numbers}
use Rattle.stretches.proofs.PieceLists.{every_map, every_true}
use Rattle.frames.specs.Ready.{Ready}
use Rattle.frames.proofs.FrameTables.{Allowed, table_is_frame_table, budgets_exact, cores_allowed}
use Rattle.frames.proofs.NoTable.{table_is_allocation}

-- an allocation within the sizes, without a loop: the table that document 01 fixes for it obeys the rules
module _ (F n m : ℕ) (budget mask : ℕ → ℕ) (x : ℕ → ℕ → ℕ) (some : 1 ≤ F) (most : F ≤ 1000000) (tasks : n ≤ 64) (cores : 1 ≤ m) (few : m ≤ 16)
    (small : (i : ℕ) → i < n → budget i ≤ F) (a : Allocation n m (limit_of F) budget mask x) (free : LoopFree n m x) where
  pub ready : Ready F n m x
  ready =
      record {
        frame_some = some;
        frame_most = most;
        tasks_most = tasks;
        cores_some = cores;
        cores_most = few;
        peeled = loop_free_comes_apart n m x free;
        rows = λ i l. subst (λ (v : ℕ). v ≤ F) (sym (a.exact i l)) (small i l);
        cols = a.within;
      }

  allowed_at : (p : Piece) → Allowed n m x p → allowed n mask p ≡ true
  unfolding allowed
  allowed_at p h = rw (lt-ltb _ _ h.task, eq-eqb _ _ in_mask) refl
    where
      in_mask : has (mask p.task) p.core ≡ 1
      in_mask = one (has_lt (mask p.task) p.core) (λ z. above h.units (a.inside p.task h.task p.core h.core z))
        where
          one : {v : ℕ} → v < 2 → (v ≡ 0 → ⊥) → v ≡ 1
          one q r = omega arith

          above : {u : ℕ} → 0 < u → u ≡ 0 → ⊥
          above q r = omega arith

  table_pieces : frame_pieces F m (table_of F n m x) ≡ true
  unfolding frame_table
  table_pieces =
      subst (λ (ps : List Piece). frame_pieces F m ps ≡ true) (pieces_of_numbers (table_of F n m x))
      (and_right (eqb (length (numbers_of (table_of F n m x)) % 4) 0) (frame_pieces F m (pieces_of (numbers_of (table_of F n m x)))) (table_is_frame_table F n m x ready))

  pub table_obeys : Obeys F n m budget mask (table_of F n m x)
  table_obeys =
      record {
        table = table_pieces;
        exact = λ i l. budgets_exact F n m x ready i l ∙ a.exact i l;
        on_mask = every_true (allowed n mask) (table_of F n m x) (every_map (Allowed n m x) (λ p. allowed n mask p ≡ true) (table_of F n m x) allowed_at (cores_allowed F n m x ready));
      }

-- overload stands exactly when no table obeys the rules
module _ (F n m : ℕ) (budget mask : ℕ → ℕ) (some : 1 ≤ F) (most : F ≤ 1000000) (tasks : n ≤ 64) (cores : 1 ≤ m) (few : m ≤ 16)
    (small : (i : ℕ) → i < n → budget i ≤ F) where
  abbrev Table : Type 0
  Table = (ps : List Piece) × Obeys F n m budget mask ps

  pub overloaded_has_no_table : Overload n m (limit_of F) budget mask → Table → ⊥
  overloaded_has_no_table o t =
      overloaded_exactly_without_allocation.0 o _ (table_is_allocation F n m budget mask t.0 t.1)

  table_of_allocation : (x : ℕ → ℕ → ℕ) → Allocation n m (limit_of F) budget mask x → Table
  table_of_allocation x a =
      let y = allocation_without_loops few a in
      (table_of F n m y.0, table_obeys F n m budget mask y.0 some most tasks cores few small y.1 y.2)

  pub table_or_overload : Table ⊎ Overload n m (limit_of F) budget mask
  table_or_overload = ⊎_elim (λ a. inl (table_of_allocation a.0 a.1)) inr allocation_or_overload

  pub overloaded_exactly_without_table : (Overload n m (limit_of F) budget mask → Table → ⊥) × ((Table → ⊥) → Overload n m (limit_of F) budget mask)
  overloaded_exactly_without_table = (overloaded_has_no_table, λ none. ⊎_elim (λ t. absurd (none t)) (λ o. o) table_or_overload)
