use Rattle.std.proofs.Common.{rules}
use Rattle.layout.proofs.WalkLaws.{reach_begin, reach_on, reach_more, reach_done}
use Rattle.layout.proofs.walking.Walked.reach_cores.Goals as goal

pub loop-k-init : goal.loop-k-init
loop-k-init c = search (reach_begin, rules)

pub reach_one-requires : goal.reach_one-requires
reach_one-requires c = (c.loop-k-test.true, reach_on _ _ _ _ _ _ _ _ _ _ c.requires c.loop-k.invariant)

pub loop-k-preserved : goal.loop-k-preserved
loop-k-preserved c = search (reach_more, rules)

pub returns : goal.returns
returns c = search (reach_done, rules)
