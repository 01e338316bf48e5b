-- `before::sum_before` meets its contract.
use Rattle.std.proofs.Common.{◌≡◌, ℕ}
use Rattle.rules.specs.Sum.{sum_to, put}
use Rattle.layout.specs.Ahead.{Gives}
use Rattle.layout.proofs.before.sum_before.Given as goal

abbrev pub invariant-loop-k : goal.invariant-loop-k
invariant-loop-k g l =
    (f : ℕ → ℕ) → Gives (goal.F-post g l.unit) f → l.sum ≡ sum_to l.k (put l.skip 0 f)
