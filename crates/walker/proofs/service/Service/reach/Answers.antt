use Rattle.std.proofs.Common.{arith}
use Rattle.walker.proofs.Finish.{frames_fit, unit_fits, reach_fits, reach_least}
use Rattle.walker.proofs.service.Service.reach.Goals as goal

pub overflow_mul-result : goal.overflow_mul-result
overflow_mul-result c =
    rw c.from.ensures (omega (arith, frames_fit _ _ _ c.args.self.now.ready c.args.self.now.counted c.requires.0 _ c.requires.1 c.requires.2))

pub overflow_add-result : goal.overflow_add-result
overflow_add-result c =
    rw c.from.ensures
    (omega
    (arith, unit_fits _ _ _ c.args.self.now.ready c.args.self.now.counted c.requires.0 _ c.requires.1 _ c.unit_at.ensures c.requires.2))

pub overflow_add-result-2 : goal.overflow_add-result-2
overflow_add-result-2 c =
    rw c.from.ensures
    (omega
    (arith, reach_fits _ _ _ c.args.self.now.ready c.args.self.now.counted c.requires.0 _ c.requires.1 _ c.unit_at.ensures c.requires.2))

pub returns : goal.returns
returns c =
    rw c.from.ensures
    (reach_least _ _ _ c.args.self.now.ready c.args.self.now.counted c.requires.0 _ c.requires.1 _ c.unit_at.ensures)
