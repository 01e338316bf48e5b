-- Laws for `place_of` and `open_gap` of `pieces`: a piece's place among the pieces of its core, and room made for it.
-- Assumes nothing.
use mathlib.Core.Path.{◌≡◌, sym, ◌∙◌, ap, ap₂}
use mathlib.Core.List.{List, ◌++◌, append_assoc}
use Prim.Native.Nat.{ℕ, ◌+◌, ◌-◌, ◌*◌, ◌≤◌, ◌<◌}
use native.Mathlib.Nat.{le_refl}
use native.Mathlib.Omega.{arith}
use lib.ListN.{get_or, take, drop}
use lib.Seq.{paste}
use Rattle.std.specs.Prelude.{Option, Some, None}
use Rattle.std.specs.Option.{MatchOption, unwrap_or}
use Rattle.std.proofs.lemmas.List.{drop-take}
use Rattle.layout.specs.Pieces.{Placed, gap}

-- the first place of a later start, or the end
pub placed_by : (l : List ℕ) (from count start : ℕ) (r : Option ℕ) → from ≤ count
    → MatchOption r ((k : ℕ) → from ≤ k → k < count → get_or l (4 * k + 2) 0 ≤ start)
    (λ i. (from ≤ i) × (i < count) × (start < get_or l (4 * i + 2) 0) × ((k : ℕ) → from ≤ k → k < i → get_or l (4 * k + 2) 0 ≤ start))
    → Placed l from count start (unwrap_or r count)
placed_by l from count start None h p = record { low = h; high = le_refl count; before = p; here = λ s. absurd (omega arith) }
placed_by l from count start (Some i) h p = record { low = p.0; high = omega (arith, p.1); before = p.3; here = λ s. p.2 }

pub gap_copied : (l : List ℕ) (i c : ℕ) → i ≤ c → paste l (i + 4) (drop i l) (c - i) ≡ gap l i c
unfolding gap
gap_copied l i c h =
    append_assoc (take (i + 4) l) (take (c - i) (drop i l)) (drop (i + 4 + (c - i)) l)
    ∙ ap₂ (λ (s t : List ℕ). take (i + 4) l ++ (s ++ t)) (sym (drop-take i (c - i) l) ∙ ap (λ (k : ℕ). drop i (take k l)) back) (ap (λ (k : ℕ). drop k l) four)
  where
    back : i + (c - i) ≡ c
    back = omega arith

    four : i + 4 + (c - i) ≡ c + 4
    four = omega arith
