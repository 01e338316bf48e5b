use Rattle.planner.proofs.FillLaws.{on_fits, on_kept}
use Rattle.planner.proofs.flow.place_task.Goals as goal

pub place_on-requires : goal.place_on-requires
place_on-requires c = on_fits c.loop-j.invariant (rw (c.args.asked.now.given.paired) at c.requires.task) c.loop-j-test.true

pub loop-j-preserved : goal.loop-j-preserved
loop-j-preserved c =
    on_kept c.loop-j.invariant (rw (c.args.asked.now.given.paired) at c.requires.task) c.loop-j-test.true c.requires.mask c.place_on.ensures
