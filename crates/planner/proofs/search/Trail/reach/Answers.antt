use Rattle.planner.proofs.SearchLaws.{reached_then, holds_known, holds_more}
use Rattle.planner.proofs.search.Trail.reach.Goals as goal

pub returns-then-mask-self-clause-holds : goal.returns-then-mask-self-clause-holds
returns-then-mask-self-clause-holds c = holds_known c.if-mask-self.true

pub loop-j-preserved : goal.loop-j-preserved
loop-j-preserved c =
    (reached_then c.loop-j.invariant.0 c.reach_one.ensures.reached, holds_more c.reach_one.ensures.reached c.loop-j.invariant.1 c.reach_one.ensures.holds)
