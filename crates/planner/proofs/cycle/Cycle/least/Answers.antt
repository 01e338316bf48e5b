use Rattle.std.proofs.Common.{rules}
use Rattle.planner.proofs.ShiftLaws.{least_more}
use Rattle.planner.proofs.cycle.Cycle.least.Goals as goal

pub loop-i-preserved : goal.loop-i-preserved
loop-i-preserved c = least_more _ _ _ _ _ _ _ _ c.loop-i.auto.i c.loop-i.invariant c.units_at.ensures (search rules)
