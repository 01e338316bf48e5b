use Rattle.std.proofs.Common.{rules}
use Rattle.layout.proofs.LayLaws.{laid_begin, laid_asks, laid_more}
use Rattle.layout.proofs.laying.lay_core.Goals as goal

pub loop-t-init : goal.loop-t-init
loop-t-init c = search (laid_begin, rules)

pub lay_task-count-requires : goal.lay_task-count-requires
lay_task-count-requires c = laid_asks _ _ _ _ _ _ _ _ _ c.requires.0 c.requires.1 c.loop-t-test.true c.loop-t.invariant

pub loop-t-preserved : goal.loop-t-preserved
loop-t-preserved c = search (laid_more, rules)
