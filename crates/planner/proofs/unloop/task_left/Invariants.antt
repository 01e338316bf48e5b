-- What was passed is gone.
use Rattle.std.proofs.Common.{◌≡◌, ℕ, ◌<◌}
use Rattle.rules.specs.Sets.{has}
use Rattle.planner.proofs.unloop.task_left.Given as goal

abbrev pub invariant-loop-i : goal.invariant-loop-i
invariant-loop-i l =
    (k : ℕ) → k < l.i → has l.gone k ≡ 1
