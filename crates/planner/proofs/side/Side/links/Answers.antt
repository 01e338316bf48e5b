use Rattle.std.proofs.Common.{rules, arith}
use Rattle.planner.proofs.LinkLaws.{links_none, links_more, byte_low}
use Rattle.planner.proofs.side.Side.links.Goals as goal

pub loop-k-init : goal.loop-k-init
loop-k-init g c = search (links_none, rules)

pub loop-k-preserved : goal.loop-k-preserved
loop-k-preserved g c = (search (links_more, rules), omega (arith, byte_low c.linked.result))
