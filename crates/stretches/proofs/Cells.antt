-- The table of an allocation is made from the list of its cells, which says the same units.
-- Assumes nothing.
use mathlib.Core.Path.{◌≡◌, refl, sym, ◌∙◌, ap}
use mathlib.Core.List.{List, [], ◌∷◌, ◌++◌}
use Prim.Native.Nat.{ℕ, zero, suc, ◌+◌, ◌*◌, ◌<◌}
use native.Mathlib.Nat.{not-suc-le-zero, suc-mul, mul-le-mul_right}
use native.Mathlib.Decide.{dec_lt}
use native.Mathlib.Omega.{arith}
use lib.ListN.{length, get_or, length-append, get_or-append}
use lib.Seq.{get_or-append-add}
use Rattle.rules.specs.Table.{row, cells, cell_at}

pub length_row : (m : ℕ) (f : ℕ → ℕ) → length (row m f) ≡ m
unfolding row
length_row zero f = refl
length_row (suc m) f = length-append (row m f) (f m ∷ []) ∙ omega (arith, length_row m f)

at_end : (l : List ℕ) (r : List ℕ) (k i : ℕ) → length l ≡ k → get_or (l ++ r) (k + i) 0 ≡ get_or r i 0
at_end l r k i e = ap (λ (v : ℕ). get_or (l ++ r) (v + i) 0) (sym e) ∙ get_or-append-add l r i 0

pub row_at : (m : ℕ) (f : ℕ → ℕ) (j : ℕ) → j < m → get_or (row m f) j 0 ≡ f j
unfolding row
row_at zero f j l = absurd (not-suc-le-zero l)
row_at (suc m) f j l =
    elim (dec_lt j m) [
      | yes s ↦ get_or-append (row m f) (f m ∷ []) 0 j (omega (arith, length_row m f)) ∙ row_at m f j s
      | no g ↦ ap (λ (v : ℕ). get_or (row m f ++ (f m ∷ [])) v 0) (same_index m j l g) ∙ at_end (row m f) (f m ∷ []) m 0 (length_row m f) ∙ ap f (same m j l g)
    ]
  where
    same : (m j : ℕ) → j < suc m → (j < m → ⊥) → m ≡ j
    same m j l g = omega arith

    same_index : (m j : ℕ) → j < suc m → (j < m → ⊥) → j ≡ m + 0
    same_index m j l g = omega arith

pub length_cells : (n m : ℕ) (x : ℕ → ℕ → ℕ) → length (cells n m x) ≡ n * m
unfolding cells
length_cells zero m x = omega arith
length_cells (suc n) m x = length-append (cells n m x) (row m (x n)) ∙ omega (arith, length_cells n m x, length_row m (x n), suc-mul n m)

pub cell_at_lem : (n m : ℕ) (x : ℕ → ℕ → ℕ) (i j : ℕ) → i < n → j < m → cell_at m (cells n m x) i j ≡ x i j
unfolding cells
cell_at_lem zero m x i j a b = absurd (not-suc-le-zero a)
cell_at_lem (suc n) m x i j a b =
    elim (dec_lt i n) [
      | yes s ↦ get_or-append (cells n m x) (row m (x n)) 0 (i * m + j) (omega (arith, length_cells n m x, suc-mul i m, mul-le-mul_right m s)) ∙ cell_at_lem n m x i j s b
      | no g ↦
          ap (λ (v : ℕ). get_or (cells n m x ++ row m (x n)) (v * m + j) 0) (same n i a g) ∙ at_end (cells n m x) (row m (x n)) (n * m) j (length_cells n m x) ∙ row_at m (x n) j b ∙ ap (λ (v : ℕ). x v j) (sym (same n i a g))
    ]
  where
    same : (n i : ℕ) → i < suc n → (i < n → ⊥) → i ≡ n
    same n i a g = omega arith
