use Rattle.walker.proofs.Loops.{seeking_none, seeking_more, seeking_done}
use Rattle.walker.proofs.service.Service.unit_at.Goals as goal

pub loop-span-init : goal.loop-span-init
loop-span-init c = seeking_none _ _ _ _ c.args.self.now.ready c.args.self.now.counted c.requires

pub loop-span-preserved : goal.loop-span-preserved
loop-span-preserved c =
    seeking_more _ _ _ _ c.args.self.now.ready c.args.self.now.counted c.requires _ _ _ c.loop-span.invariant c.from-len.ensures c.if-left-len.false

pub returns-then-left-len : goal.returns-then-left-len
returns-then-left-len c =
    seeking_done _ _ _ _ c.args.self.now.ready c.args.self.now.counted c.requires _ _ _ c.loop-span.invariant c.from-len.ensures _ c.from.ensures c.if-left-len.true
