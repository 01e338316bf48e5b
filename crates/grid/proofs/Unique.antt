-- Any two answers that the contract of `new` allows are the same: none, or grids of the same three fields, which are all that a grid has
-- beside proofs.
-- Assumes nothing.
use Rattle.std.specs.Prelude.{◌≡◌, List, ℕ, ◌≤◌, Option, Some, None}
use Rattle.std.specs.Borrow.{Bor}
use Rattle.std.proofs.Common.{sym, ◌∙◌, subst}
use Rattle.rules.specs.Sizes.{max_tasks, max_cores}
use Rattle.grid.specs.declared.Grid.{Grid}
use Rattle.grid.specs.Made.{Made}

abbrev pub Alike : Option Grid → Option Grid → Type 0
Alike None None = Unit
Alike (Some g) (Some h) = (g.units ≡ h.units) × (g.tasks ≡ h.tasks) × (g.cores ≡ h.cores)
Alike None (Some h) = ⊥
Alike (Some g) None = ⊥

few : {k n : ℕ} (most : ℕ) → k ≡ n → k ≤ most → n ≤ most
few most e l = let P : ℕ → Type 0 = λ k. k ≤ most in subst P e l

small : (g : Grid) {n m : ℕ} → g.tasks ≡ n → g.cores ≡ m → (n ≤ max_tasks) × (m ≤ max_cores)
small g a b = (few max_tasks a g.few_tasks, few max_cores b g.few_cores)

pub grid_unique : (u : Bor (List ℕ)) (n m : ℕ) (a b : Option Grid) → Made u n m a → Made u n m b → Alike a b
grid_unique u n m None None p q = tt
grid_unique u n m (Some g) (Some h) p q = (p.0 ∙ sym q.0, p.1 ∙ sym q.1, p.2 ∙ sym q.2)
grid_unique u n m (Some g) None p q = q (small g p.1 p.2)
grid_unique u n m None (Some h) p q = p (small h q.1 q.2)
