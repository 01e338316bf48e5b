-- The masks of a line are numbers of 16 bits: four digits each.
-- Assumes nothing.
use mathlib.Core.List.{List, [], ◌∷◌, ◌++◌}
use Prim.Native.Nat.{ℕ, zero, suc, ◌+◌, ◌*◌, ◌^◌, ◌<◌}
use lib.Dec.{lit<}
use lib.ListN.{get_or}
use Rattle.rules.specs.Line.{field, line_tasks, line_masks, task_fields}
use Rattle.fields.proofs.FieldLaws.{digits_below}

snoc_below : (b : ℕ) → 0 < b → (xs : List ℕ) (v : ℕ) → ((k : ℕ) → get_or xs k 0 < b) → v < b → (k : ℕ) → get_or (xs ++ (v ∷ [])) k 0 < b
snoc_below b o [] v h g zero = g
snoc_below b o [] v h g (suc k) = o
snoc_below b o (x ∷ xs) v h g zero = h 0
snoc_below b o (x ∷ xs) v h g (suc k) = snoc_below b o xs v (λ j. h (suc j)) g k

fields_below : (l : List ℕ) (n k : ℕ) → get_or (task_fields l 4 2 n) k 0 < 16 ^ 4
unfolding task_fields
fields_below l zero k = lit< tt
fields_below l (suc n) k =
    snoc_below (16 ^ 4) (lit< tt) (task_fields l 4 2 n) (field l (6 + 6 * n + 4) 2) (fields_below l n) (digits_below l (2 * (6 + 6 * n + 4)) 4) k

pub masks_narrow : (l : List ℕ) (k : ℕ) → get_or (line_masks l) k 0 < 2 ^ 16
masks_narrow l k = fields_below l (line_tasks l) k
