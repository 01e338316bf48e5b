use Rattle.std.proofs.Common.{◌-◌}
use Rattle.moves.proofs.Moves.{Counting}
use Rattle.moves.proofs.task_moves.Given as goal

abbrev pub invariant-loop-k : goal.invariant-loop-k
invariant-loop-k l = Counting l.table l.task l.core l.from l.count

abbrev pub decreases-loop-k : goal.decreases-loop-k
decreases-loop-k l = 1000000 - l.from
