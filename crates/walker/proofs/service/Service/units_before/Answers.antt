use Rattle.std.proofs.Common.{arith}
use Rattle.walker.proofs.Finish.{whole_fits, units_fits, units_are}
use Rattle.walker.proofs.service.Service.units_before.Goals as goal

pub overflow_mul-result : goal.overflow_mul-result
overflow_mul-result c =
    rw c.from-f.ensures (omega (arith, whole_fits _ _ _ c.args.self.now.ready c.args.self.now.counted c.args.e (omega (arith, c.ranges.e))))

pub overflow_add-result : goal.overflow_add-result
overflow_add-result c =
    rw c.from-f.ensures
    (omega
    (arith, units_fits _ _ _ c.args.self.now.ready c.args.self.now.counted c.args.e c.served.result (omega (arith, c.ranges.e)) (rw c.from-f.ensures at c.served.ensures)))

pub returns : goal.returns
returns c =
    rw c.from-f.ensures
    (units_are _ _ _ c.args.self.now.ready c.args.self.now.counted c.args.e c.served.result (rw c.from-f.ensures at c.served.ensures))
