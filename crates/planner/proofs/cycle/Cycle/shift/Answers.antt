use Rattle.std.proofs.Common.{◌≤◌, arith}
use Rattle.planner.proofs.ShiftLaws.{shift_task, shift_core, shift_to, shift_differ, shift_enough, shift_fits, shift_again, shift_keeps, shift_fewer}
use Rattle.planner.proofs.cycle.Cycle.shift.Goals as goal

pub move_units-requires : goal.move_units-requires
move_units-requires c =
    let r = c.requires.ready in
    let s = c.loop-i.invariant.1 _ _ r in (
      shift_task _ _ _ _ _ r _ c.loop-i.auto.i c.loop-i-test.true _ s,
      shift_core _ _ _ _ _ r _ c.loop-i.auto.i c.loop-i-test.true _ s,
      shift_to _ _ _ _ _ r _ c.loop-i.auto.i c.loop-i-test.true _ s _ c.core_before.ensures,
      shift_differ _ _ _ _ _ r _ c.loop-i.auto.i c.loop-i-test.true _ s _ c.core_before.ensures,
      shift_enough _ _ _ _ _ r _ c.loop-i.auto.i c.loop-i-test.true _ s,
      shift_fits _ _ _ _ _ r _ c.loop-i.auto.i c.loop-i-test.true _ s _ c.core_before.ensures,
    )

pub loop-i-preserved : goal.loop-i-preserved
loop-i-preserved c = (
  c.move_units.array_long,
  λ n m r. shift_again n m _ _ _ r _ c.loop-i.auto.i c.loop-i-test.true _ (c.loop-i.invariant.1 n m r) _ _ c.core_before.ensures c.move_units.ensures,
)

pub returns : goal.returns
returns c =
    let done : c.loop-i.i ≤ c.args.self.now.hi = omega (arith, c.args.self.now.some) in
    record {
      kept = λ n m r. shift_keeps n m _ _ _ r _ _ (c.loop-i.invariant.1 n m r) done c.loop-i-test.false;
      fewer = λ n m r. shift_fewer n m _ _ _ r _ _ (c.loop-i.invariant.1 n m r) done c.loop-i-test.false;
    }
