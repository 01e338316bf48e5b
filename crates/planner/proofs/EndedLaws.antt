-- For fill of flow.rt, where the search ended with no core that has room: the excess of what it found says whether all budgets have
-- their units, or which group lacks most.
-- Assumes nothing.
use mathlib.Core.Path.{◌≡◌, sym, ◌∙◌, ap, subst}
use mathlib.Core.List.{List}
use Prim.Native.Nat.{ℕ, ◌+◌, ◌-◌, ◌*◌, ◌^◌, ◌≤◌, ◌<◌}
use native.Mathlib.Nat.{le_trans}
use native.Mathlib.Decide.{dec_lt}
use native.Mathlib.Omega.{arith}
use lib.ListN.{length, get_or-eq_default}
use Rattle.rules.specs.Allocation.{limit_of}
use Rattle.rules.specs.Sum.{sum_to}
use Rattle.rules.specs.Sets.{has}
use Rattle.rules.specs.Plan.{at}
use Rattle.rules.specs.Excess.{group_budget, capacity}
use Rattle.sums.proofs.Sum.{sum_split, sum_zero}
use Rattle.sums.proofs.Sets.{has_above, has_none}
use Rattle.stretches.specs.Cell.{cell}
use Rattle.overload.specs.Stuck.{Partial, Stuck}
use Rattle.planner.specs.Fill.{Filling, demand}
use Rattle.planner.specs.Stock.{Stock}
use Rattle.planner.specs.Filled.{WholeBy, ShortBy}
use Rattle.overload.proofs.NoRoom.{part_out, found_cores, found_excess, found_exceeds, found_smallest, found_budgets, nothing_lacks}

-- cores at or above m add nothing
pub capacity_all : (m c : ℕ) (limit : ℕ → ℕ) → m ≤ 16 → c < 2 ^ m → capacity 16 limit c ≡ capacity m limit c
unfolding capacity
capacity_all m c limit h l =
    ap (λ (k : ℕ). sum_to k (λ j. has c j * limit j)) (whole h) ∙ sum_split m (16 - m) (λ j. has c j * limit j)
    ∙ rest (sum_zero (16 - m) (λ j k. part_out c (m + j) (limit (m + j)) (has_above m l (above j))))
  where
    whole : m ≤ 16 → 16 ≡ m + (16 - m)
    whole h = omega arith

    above : (j : ℕ) → m ≤ m + j
    above j = omega arith

    rest : {a b : ℕ} → b ≡ 0 → a + b ≡ a
    rest e = omega arith

module _ {F m : ℕ} {budgets masks : List ℕ} {s : Stock} (f : Filling (demand F m budgets masks) s) where
  pub partial_of : Partial (length budgets) m (limit_of F) (at budgets) (at masks) (cell s.units) (at s.left) (at s.room)
  partial_of = record { inside = λ i l j k z. f.inside i j (le_trans k f.given.cores) z; row = f.row; column = f.column }

  module _ {g c : ℕ} (k : Stuck (length masks) m (at masks) (cell s.units) (at s.left) (at s.room) g c) where
    stuck : Stuck (length budgets) m (at masks) (cell s.units) (at s.left) (at s.room) g c
    stuck = subst (λ (n : ℕ). Stuck n m (at masks) (cell s.units) (at s.left) (at s.room) g c) f.given.paired k

    excess_left : group_budget (length budgets) (at budgets) g - capacity 16 (limit_of F) c ≡ sum_to (length budgets) (at s.left)
    excess_left =
        omega
        (arith, found_excess partial_of stuck f.given.narrow, capacity_all m c (limit_of F) f.given.cores k.cores)

    pub ended_whole : {e : ℕ} → e ≡ group_budget (length budgets) (at budgets) g - capacity 16 (limit_of F) c → e ≡ 0 → WholeBy (demand F m budgets masks) s.units
    ended_whole d z =
        record {
          long = f.units_long;
          allocation = nothing_lacks partial_of (sym excess_left ∙ sym d ∙ z);
          tasks_beyond = λ i l j k. f.inside i j k (ap (λ (v : ℕ). has v j) (get_or-eq_default masks 0 (past l)) ∙ has_none j);
          cores_beyond = λ i j l k. f.inside i j k (outside i j l);
        }
      where
        past : {i : ℕ} → length budgets ≤ i → length masks ≤ i
        past l = omega (arith, f.given.paired)

        outside : (i j : ℕ) → m ≤ j → has (at masks i) j ≡ 0
        outside i j l =
            elim (dec_lt i (length budgets)) [
              | yes k ↦ has_above m (f.given.narrow i k) l
              | no k ↦ ap (λ (v : ℕ). has v j) (get_or-eq_default masks 0 (past {i = i} (omega arith))) ∙ has_none j
            ]

    pub ended_short : {e : ℕ} → e ≡ group_budget (length budgets) (at budgets) g - capacity 16 (limit_of F) c → (e ≡ 0 → ⊥) → ShortBy (demand F m budgets masks) g c
    ended_short d ne =
        record {
          exceeds = found_exceeds partial_of stuck f.given.narrow (omega (arith, excess_left));
          smallest = found_smallest partial_of stuck f.given.narrow;
          cores = found_cores partial_of stuck f.given.narrow;
          no_zero = found_budgets partial_of stuck f.given.narrow;
        }
