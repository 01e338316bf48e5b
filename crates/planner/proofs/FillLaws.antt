-- For place_task and place_first of flow.rt: where the filling begins, and the first round keeps a partial allocation.
-- Assumes nothing.
use mathlib.Core.Path.{◌≡◌, refl, sym, ◌∙◌, ap, subst}
use mathlib.Core.List.{List, ◌++◌}
use Prim.Native.Nat.{ℕ, zero, suc, ◌+◌, ◌*◌, ◌<◌}
use native.Mathlib.Nat.{le_trans, min-le_left, min-le_right}
use native.Mathlib.Decide.{ℕ_discrete}
use native.Mathlib.Omega.{arith}
use lib.ListN.{length, drop, replicate, length-drop, length-replicate, get_or-replicate, get_or-append}
use Rattle.std.proofs.lemmas.List.{length-append}
use Rattle.rules.specs.Sets.{has}
use Rattle.rules.specs.Plan.{at}
use Rattle.sums.proofs.Sets.{has_zero}
use Rattle.sums.proofs.Sum.{sum_zero}
use Rattle.tests.specs.Given.{Given}
use Rattle.planner.specs.Fill.{Filling, FillReady, demand}
use Rattle.planner.specs.Stock.{ShareFits, PlacedOn, Stock, stock, share, shared}
use Rattle.planner.proofs.StepLaws.{placed_kept, sharing}

-- a list of zeros has no units anywhere
pub zeros : (n k : ℕ) → at (replicate n 0) k ≡ 0
zeros zero k = refl
zeros (suc n) zero = refl
zeros (suc n) (suc k) = zeros n k

-- all budgets lack at first
pub fill_start : {F m : ℕ} {budgets masks copied : List ℕ} {s : Stock} → Given F m budgets masks → FillReady F s → copied ≡ budgets
    → Filling (demand F m budgets masks) (stock s.units (copied ++ drop (length budgets) (drop 0 s.left)) s.room)
fill_start {F} {m} {budgets} {copied = copied} {s = s} d r e =
    record {
      given = d;
      units_long = ap length r.units ∙ length-replicate {A = ℕ} 1024 0;
      left_long =
          omega (arith, length-append copied (drop (length budgets) s.left), length-drop (length budgets) s.left, ap length e, r.left, d.tasks);
      room_long = ap length r.room ∙ length-replicate 16 F;
      inside = λ i j l z. empty (i * 16 + j);
      row = λ i l.
          none (sum_zero m (λ j k. empty (i * 16 + j)))
          (get_or-append copied (drop (length budgets) s.left) 0 i (rw e l) ∙ ap (λ (x : List ℕ). at x i) e);
      column = λ j k.
          none (sum_zero (length budgets) (λ i l. empty (i * 16 + j)))
          (ap (λ (x : List ℕ). at x j) r.room ∙ get_or-replicate 16 j F 0 (le_trans k d.cores));
    }
  where
    empty : (k : ℕ) → at s.units k ≡ 0
    empty k = ap (λ (x : List ℕ). at x k) r.units ∙ zeros 1024 k

    none : {a b v : ℕ} → a ≡ 0 → b ≡ v → a + b ≡ v
    none e f = omega arith

-- ---- the first round

module _ {F m : ℕ} {budgets masks : List ℕ} {s : Stock} {t j : ℕ} (f : Filling (demand F m budgets masks) s) (t_in : t < length budgets)
    (j-in : j < m) where
  pub on_fits : ShareFits s t j
  on_fits = sharing f t_in j-in

  pub on_kept : {s' : Stock} {mask : ℕ} → mask ≡ at masks t → PlacedOn s t j mask s' → Filling (demand F m budgets masks) s'
  on_kept {mask = mask} e p =
      elim (ℕ_discrete (has mask j) 1) [
        | yes o ↦
            subst (Filling (demand F m budgets masks)) (sym (p.inside o))
            (placed_kept f t j (share s t j) t_in j-in (ap (λ (v : ℕ). has v j) (sym e) ∙ o) (min-le_right _ _) (min-le_left _ _))
        | no ne ↦ subst (Filling (demand F m budgets masks)) (sym (p.outside (has_zero mask j ne))) f
      ]
