use Rattle.std.proofs.Common.{◌-◌}
use Rattle.walker.proofs.Gathering.{Gathering}
use Rattle.walker.proofs.span.gather.Given as goal

abbrev pub invariant-loop-k : goal.invariant-loop-k
invariant-loop-k l = Gathering l.frame l.table l.task l.spans l.count l.from

abbrev pub decreases-loop-k : goal.decreases-loop-k
decreases-loop-k l = l.frame - l.from
