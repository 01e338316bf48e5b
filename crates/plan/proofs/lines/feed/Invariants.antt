-- The lines up to the place are fed. The measure is how many bytes of the chunk are left.
use Rattle.std.proofs.Common.{length, ◌-◌}
use Rattle.rules.specs.LineCall.{LineAnswer}
use Rattle.stream.proofs.LineLaws.{Feeding}
use Rattle.plan.proofs.lines.feed.Given as goal

abbrev pub invariant-loop-stage : goal.invariant-loop-stage
invariant-loop-stage l = Feeding LineAnswer 1907 l.chunk l.initial.line l.fn.len l.initial.out 0 l.line l.out l.stage.taken l.stage.len l.stage.used

abbrev pub decreases-loop-stage : goal.decreases-loop-stage
decreases-loop-stage l = length l.chunk - l.stage.taken
