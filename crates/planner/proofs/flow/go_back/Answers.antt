use Rattle.std.proofs.Common.{arith}
use Rattle.planner.proofs.GoBackLaws.{on_less, on_small, on_fits, on_last_fits, on_next, on_last}
use Rattle.planner.proofs.flow.go_back.Goals as goal

pub offset_bounds-trail-p : goal.offset_bounds-trail-p
offset_bounds-trail-p c = omega (arith, on_small c.requires c.loop-stock.invariant)

pub bounds-trail-p : goal.bounds-trail-p
bounds-trail-p c = (on_small c.requires c.loop-stock.invariant).0

pub offset_bounds-stock-trail : goal.offset_bounds-stock-trail
offset_bounds-stock-trail c = omega (arith, on_small c.requires c.loop-stock.invariant)

pub bounds-stock-trail : goal.bounds-stock-trail
bounds-stock-trail c = (on_small c.requires c.loop-stock.invariant).1

pub step_back-p-requires : goal.step_back-p-requires
step_back-p-requires c = on_fits c.requires c.loop-stock.invariant c.loop-stock-test.true

pub loop-stock-smaller : goal.loop-stock-smaller
loop-stock-smaller c = omega (arith, c.step_back-p.ensures.place, on_less c.requires c.loop-stock.invariant c.loop-stock-test.true)

pub loop-stock-preserved : goal.loop-stock-preserved
loop-stock-preserved c = on_next c.requires c.loop-stock.invariant c.loop-stock-test.true c.step_back-p.ensures.moved c.step_back-p.ensures.place

pub offset_bounds-trail-p-2 : goal.offset_bounds-trail-p-2
offset_bounds-trail-p-2 c = omega (arith, on_small c.requires c.loop-stock.invariant)

pub bounds-trail-p-2 : goal.bounds-trail-p-2
bounds-trail-p-2 c = (on_small c.requires c.loop-stock.invariant).0

pub share-requires : goal.share-requires
share-requires c = on_last_fits c.requires c.loop-stock.invariant

pub returns : goal.returns
returns c = on_last c.requires c.loop-stock.invariant c.loop-stock-test.false c.share.ensures
