-- The loop keeps what was sought; each way out is a law of it.
use Rattle.std.proofs.Common.{◌-◌}
use Rattle.planner.specs.Search.{Sought, known}
use Rattle.planner.proofs.search.Trail.seek.Given as goal

abbrev pub invariant-loop-head : goal.invariant-loop-head
invariant-loop-head l = Sought l.asked.cores l.asked.masks.now l.stock l.head (known l.self)

abbrev pub decreases-loop-head : goal.decreases-loop-head
decreases-loop-head l = 16 - l.head
