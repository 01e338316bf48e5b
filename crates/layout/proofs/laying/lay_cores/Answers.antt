use Rattle.std.proofs.Common.{rules}
use Rattle.layout.proofs.LayLaws.{cores_begin, cores_asks, cores_more}
use Rattle.layout.proofs.laying.lay_cores.Goals as goal

pub loop-j-init : goal.loop-j-init
loop-j-init c = search (cores_begin, rules)

pub lay_core-count-requires : goal.lay_core-count-requires
lay_core-count-requires c = cores_asks _ _ _ _ _ _ _ _ _ c.requires c.loop-j-test.true c.loop-j.invariant

pub loop-j-preserved : goal.loop-j-preserved
loop-j-preserved c = search (cores_more, rules)
