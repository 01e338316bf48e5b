use Rattle.planner.proofs.SearchLaws.{sweep_start, sweep_more}
use Rattle.planner.proofs.search.Trail.sweep.Goals as goal

pub loop-t-init : goal.loop-t-init
loop-t-init g c = sweep_start

pub loop-t-preserved : goal.loop-t-preserved
loop-t-preserved g c = sweep_more c.loop-t-test.true c.weight.ensures c.loop-t.invariant c.find.ensures
