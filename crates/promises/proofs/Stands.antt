-- What stands in the lent table after an accepted answer: the pieces of the allocation's table at the front, and beyond them what was there.
-- Assumes nothing.
use mathlib.Core.Path.{◌≡◌, sym, ◌∙◌, ap}
use mathlib.Core.List.{List, ◌++◌}
use Prim.Native.Nat.{ℕ, ◌+◌, ◌-◌, ◌*◌, ◌≤◌}
use native.Mathlib.Omega.{arith}
use lib.ListN.{length, take, drop}
use lib.Seq.{take-append_seam, drop-append-add, drop-drop}
use Rattle.rules.specs.Piece.{Piece, first_pieces, numbers_of}
use Rattle.rules.specs.Table.{table_of}
use Rattle.rules.specs.Plan.{PlannedBy}
use Rattle.rules.specs.declared.Planned.{Planned}
use Rattle.rules.proofs.Numbers.{length_numbers}
use Rattle.stretches.proofs.Numbers.{first_front}

-- a list written over the front of another holds from there on what that held
pub drop_past : (a b : List ℕ) (k : ℕ) → length a ≤ k → drop k (a ++ drop (length a) b) ≡ drop k b
drop_past a b k h =
    ap (λ (i : ℕ). drop i (a ++ drop (length a) b)) (sym split) ∙ drop-append-add a (drop (length a) b) (k - length a) ∙
    drop-drop (k - length a) (length a) b ∙ ap (λ (i : ℕ). drop i b) split
  where
    split : length a + (k - length a) ≡ k
    split = omega arith

module _ (F m : ℕ) (budgets masks before : List ℕ) (r : Planned) (after : List ℕ) (x : ℕ → ℕ → ℕ) (p : PlannedBy F m budgets masks before r after x) where
  abbrev ps : List Piece
  ps = table_of F (length budgets) m x

  four : 4 * r.pieces ≡ length (numbers_of ps)
  four = ap (λ (k : ℕ). 4 * k) p.pieces ∙ sym (length_numbers ps)

  pub pieces_stand : first_pieces after r.pieces ≡ ps
  pieces_stand =
      ap (λ (l : List ℕ). first_pieces l r.pieces) p.table ∙ ap (first_pieces (numbers_of ps ++ drop (4 * length ps) before)) p.pieces ∙
      first_front ps (drop (4 * length ps) before)

  pub numbers_stand : take (4 * r.pieces) after ≡ numbers_of ps
  numbers_stand =
      ap (λ (k : ℕ). take k after) four ∙ ap (take (length (numbers_of ps))) p.table ∙ take-append_seam (numbers_of ps) (drop (4 * length ps) before)

  pub rest_stands : (k : ℕ) → 4 * r.pieces ≤ k → drop k after ≡ drop k before
  rest_stands k h =
      ap (drop k) p.table ∙ ap (λ (i : ℕ). drop k (numbers_of ps ++ drop i before)) (sym (length_numbers ps)) ∙
      drop_past (numbers_of ps) before k (omega (arith, four, h))
