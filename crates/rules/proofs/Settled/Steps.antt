-- A finish from one instant: enough units at it, too few just before it.
-- Assumes nothing.
use mathlib.Core.Path.{◌≡◌, sym, subst}
use mathlib.Core.List.{List}
use Prim.Native.Nat.{ℕ, zero, suc, ◌+◌, ◌≤◌, ◌<◌}
use native.Mathlib.Decide.{dec_le}
use native.Mathlib.Omega.{arith}
use lib.Dec.{lit≤}
use Rattle.rules.specs.Sum.{sum_to}
use Rattle.rules.specs.Piece.{Piece}
use Rattle.rules.specs.Service.{unit, units}
use Rattle.rules.specs.Finish.{Finish}

sums_grow : (f : ℕ → ℕ) (a b : ℕ) → a ≤ b → sum_to a f ≤ sum_to b f
unfolding sum_to
sums_grow f a zero h = subst (λ (k : ℕ). sum_to k f ≤ sum_to 0 f) (sym (none a h)) (lit≤ tt)
  where
    none : (a : ℕ) → a ≤ 0 → a ≡ 0
    none a h = omega arith
sums_grow f a (suc b) h =
    elim (dec_le a b) [
      | yes l ↦ omega (arith, sums_grow f a b l)
      | no g ↦ subst (λ (k : ℕ). sum_to k f ≤ sum_to (suc b) f) (sym (top a b h g)) (omega arith)
    ]
  where
    top : (a b : ℕ) → a ≤ suc b → (a ≤ b → ⊥) → a ≡ suc b
    top a b h g = omega arith

module _ (F : ℕ) (ps : List Piece) (task begin job : ℕ) where
  -- enough at suc e, too few at e
  pub finish_step : (e : ℕ) → begin ≤ suc e → units F ps task begin + job ≤ units F ps task (suc e) → units F ps task e < units F ps task begin + job
      → Finish F ps task begin job (suc e)
  finish_step e b enough few =
      record {
        not_before = b;
        enough = enough;
        least = λ d l h. elim (dec_le (suc e) d) [ yes p ↦ p | no q ↦ absurd (beat (sums_grow (unit F ps task) d e (down q)) h few) ];
      }
    where
      down : {a b : ℕ} → (suc a ≤ b → ⊥) → b ≤ a
      down h = omega arith

      beat : {a b c : ℕ} → a ≤ b → c ≤ a → b < c → ⊥
      beat p q r = omega arith
