-- The way back leaves less lacking; where no core has room, the excess decides.
use Rattle.planner.proofs.EndedLaws.{ended_whole, ended_short}
use Rattle.planner.proofs.flow.fill.Goals as goal

pub loop-hit-smaller : goal.loop-hit-smaller
loop-hit-smaller c = (c.go_back.ensures.closer _ c.loop-hit.invariant c.in-Some.ensures).less

pub loop-hit-preserved : goal.loop-hit-preserved
loop-hit-preserved c = (c.go_back.ensures.closer _ c.loop-hit.invariant c.in-Some.ensures).filling

pub returns-then-excess-eq0 : goal.returns-then-excess-eq0
returns-then-excess-eq0 c = ended_whole c.loop-hit.invariant c.in_default.ensures c.excess.ensures c.if-excess-eq0.true

pub returns : goal.returns
returns c = ended_short c.loop-hit.invariant c.in_default.ensures c.excess.ensures c.if-excess-eq0.false
