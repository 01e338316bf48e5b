-- How many pieces the table of a forest has. Document 01: "n + 2 × m − 1".
-- Assumes nothing.
use Prim.Native.Nat.{ℕ, ◌+◌, ◌*◌, ◌≤◌, ◌<◌}
use native.Mathlib.Nat.{le_refl}
use native.Mathlib.Omega.{arith}
use lib.ListN.{length}
use Rattle.rules.specs.Sum.{sum_to, positive}
use Rattle.rules.specs.Layout.{Walk}
use Rattle.rules.specs.Table.{cores_to}
use Rattle.sums.proofs.Sum.{sum_swap}
use Rattle.forest.specs.Peeled.{Peeled}
use Rattle.forest.proofs.Forest.{used_at_most}
use Rattle.stretches.proofs.Lengths.{cores_length}

module _ (F n m : ℕ) (x : ℕ → ℕ → ℕ) (w : Walk) where
  module _ (frame : 0 < F) (cols : (j : ℕ) → j < m → sum_to n (λ i. x i j) ≤ F) (firsts : (k : ℕ) → w.first k ≤ n) where
    pub cores_at_most : Peeled n m x → 0 < m → length (cores_to F n m x w m) + 1 ≤ n + 2 * m
    cores_at_most p some = omega (arith, cores_length F n m x w frame cols firsts m (le_refl _), used_at_most p some, sum_swap n m (λ i j. positive (x i j)))
