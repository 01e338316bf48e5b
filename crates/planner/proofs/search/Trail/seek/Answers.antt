use Rattle.std.proofs.Common.{◌<◌, rules, arith}
use Rattle.planner.proofs.SearchLaws.{counted_nothing}
use Rattle.planner.specs.Search.{known}
use Rattle.planner.proofs.SeekLaws.{place_small, sought_start, sought_room, sought_end, sought_more}
use Rattle.planner.proofs.search.Trail.seek.Goals as goal

pub invariant_of-self-clause-counted : goal.invariant_of-self-clause-counted
invariant_of-self-clause-counted c = counted_nothing

pub loop-head-init : goal.loop-head-init
loop-head-init c =
    sought_start {k = known c.args.self.now} c.args.asked.now.given.cores (omega (arith, c.args.asked.now.given.paired, c.args.asked.now.given.tasks)) (record { queue_long = c.args.self.now.long.0; from_long = c.args.self.now.long.1 })
    c.sweep.ensures (λ t w l r. search rules)

pub offset_bounds-self-head : goal.offset_bounds-self-head
offset_bounds-self-head c = omega (arith, place_small c.loop-head.invariant c.loop-head-test.true)

pub bounds-self-head : goal.bounds-self-head
bounds-self-head c = (place_small c.loop-head.invariant c.loop-head-test.true).0

pub offset_bounds-stock-core : goal.offset_bounds-stock-core
offset_bounds-stock-core c = omega (arith, place_small c.loop-head.invariant c.loop-head-test.true)

pub bounds-stock-core : goal.bounds-stock-core
bounds-stock-core c = (place_small c.loop-head.invariant c.loop-head-test.true).1

pub returns-then-stock-core-gt0 : goal.returns-then-stock-core-gt0
returns-then-stock-core-gt0 c = sought_room c.loop-head.invariant c.loop-head-test.true c.if-stock-core-gt0.true

pub overflow_cast-head : goal.overflow_cast-head
overflow_cast-head c = omega (arith, place_small c.loop-head.invariant c.loop-head-test.true)

pub sweep-requires-in-loop-head : goal.sweep-requires-in-loop-head
sweep-requires-in-loop-head c =
    λ t l.
    let core_low = place_small c.loop-head.invariant c.loop-head-test.true in
    let task_low : t < 64 = omega (arith, l, c.args.asked.now.given.paired, c.args.asked.now.given.tasks) in
    search rules

pub loop-head-smaller : goal.loop-head-smaller
loop-head-smaller c = omega (arith, place_small c.loop-head.invariant c.loop-head-test.true)

pub loop-head-preserved : goal.loop-head-preserved
loop-head-preserved c = sought_more c.loop-head.invariant c.loop-head-test.true c.if-stock-core-gt0.false c.sweep-in-loop-head.ensures (λ t w l r. search rules)

pub returns : goal.returns
returns c = sought_end c.loop-head.invariant c.loop-head-test.false
