-- P10's finishes lie within release + T + F.
-- Assumes nothing.
use mathlib.Core.Path.{◌≡◌}
use mathlib.Core.List.{List, [], ◌∷◌}
use Prim.Native.Nat.{ℕ, zero, suc, ◌+◌, ◌*◌, ◌≤◌, ◌<◌}
use native.Mathlib.Omega.{arith}
use lib.Dec.{lit≤}
use Rattle.rules.specs.Paced.{Bounded}
use Rattle.rules.specs.Plan.{at}

pub far2 : (k : ℕ) → suc (suc k) < 2 → ⊥
far2 k l = omega arith

pub bounded10 : (rest : List ℕ) → Bounded 6 9 2 (at (4 ∷ 13 ∷ [])) (at (14 ∷ 22 ∷ rest))
bounded10 rest = record { by_frame = by_frame; by_period = λ q e. absurd (divides q e) }
  where
    by_frame : (k : ℕ) → k < 2 → at (14 ∷ 22 ∷ rest) k ≤ at (4 ∷ 13 ∷ []) k + 9 + 6
    by_frame zero l = lit≤ tt
    by_frame (suc zero) l = lit≤ tt
    by_frame (suc (suc k)) l = absurd (far2 k l)

    divides : (q : ℕ) → 9 ≡ q * 6 → ⊥
    divides q e = omega arith
