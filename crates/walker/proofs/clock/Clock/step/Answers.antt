use Rattle.std.proofs.Common.{arith}
use Rattle.walker.proofs.Finish.{goal_fits, step_total, goal_some, goal_reached, step_job}
use Rattle.walker.proofs.clock.Clock.step.Goals as goal

pub overflow_add-units_before : goal.overflow_add-units_before
overflow_add-units_before c =
    rw c.from.ensures
    (omega
    (arith, goal_fits _ _ _ _ _ c.args.service.now.ready c.args.service.now.counted c.requires c.if-units-eq0.false _ _ c.max-begin.ensures c.units_before.ensures))

pub reach-requires : goal.reach-requires
reach-requires c =
    rw c.from.ensures (
      step_total _ _ _ _ _ c.args.service.now.ready c.args.service.now.counted c.requires c.if-units-eq0.false,
      goal_some _ _ _ _ _ c.args.service.now.ready c.args.service.now.counted c.requires c.if-units-eq0.false _ _ c.max-begin.ensures c.units_before.ensures,
      goal_reached _ _ _ _ _ c.args.service.now.ready c.args.service.now.counted c.requires c.if-units-eq0.false _ _ c.max-begin.ensures c.units_before.ensures,
    )

pub returns : goal.returns
returns c =
    step_job _ _ _ _ _ c.args.service.now.ready c.args.service.now.counted c.requires c.if-units-eq0.false _ _ c.max-begin.ensures c.units_before.ensures _ (rw c.from.ensures at c.reach.ensures)
