use Rattle.walker.proofs.Steps.{finishing_more, finishing_done}
use Rattle.walker.proofs.clock.finish_all.Goals as goal

pub loop-k-preserved : goal.loop-k-preserved
loop-k-preserved c =
    finishing_more _ _ _ _ _ _ c.args.service.now.ready c.args.jobs.now.good c.requires _ _ _ c.loop-k.invariant c.loop-k-test.true _ c.step-clock.ensures

pub returns : goal.returns
returns c = finishing_done _ _ _ _ _ _ _ _ c.loop-k.invariant c.loop-k-test.false
