-- Laws on the fields of a line: a field has no more than its width holds.
-- Assumes nothing.
use mathlib.Core.Bool.{true, false, cond}
use mathlib.Core.List.{List}
use Prim.Native.Nat.{ℕ, ◌+◌, ◌*◌, ◌≤◌, ◌<◌}
use native.Mathlib.Nat.{mul-le-mul_left}
use native.Mathlib.Omega.{arith}
use Rattle.rules.specs.Line.{field}
use Rattle.fields.specs.Held.{holds_field, held_field}
use Rattle.fields.proofs.FieldLaws.{digits_below}

pub word_below : (l : List ℕ) (p : ℕ) → held_field l p 4 < 4294967296
unfolding held_field
word_below l p = elim (holds_field l p 4) as (λ b. cond b (field l p 4) 0 < 4294967296) [ true ↦ digits_below l (2 * p) 8 | false ↦ omega arith ]

pub count_below : (l : List ℕ) (p : ℕ) → held_field l p 2 < 65536
unfolding held_field
count_below l p = elim (holds_field l p 2) as (λ b. cond b (field l p 2) 0 < 65536) [ true ↦ digits_below l (2 * p) 4 | false ↦ omega arith ]

-- the next of n fields ends where they do, or before
pub field_room : (width i n : ℕ) → i < n → width * (i + 1) ≤ width * n
field_room width i n h = mul-le-mul_left width (omega arith)
