-- The core is queued.
use Rattle.std.proofs.Common.{◌<◌, rules, arith}
use Rattle.planner.proofs.SearchLaws.{one_place, one_counted, one_new, one_holds}
use Rattle.planner.proofs.search.Trail.reach_one.Goals as goal

pub offset_bounds-self-self : goal.offset_bounds-self-self
offset_bounds-self-self c = let left : c.args.self.now.tail < 16 = search (one_place, rules) in omega arith

pub bounds-self-self : goal.bounds-self-self
bounds-self-self c = search (one_place, rules)

pub overflow_add-self : goal.overflow_add-self
overflow_add-self c = let left : c.args.self.now.tail < 16 = search (one_place, rules) in omega arith

pub invariant_of-self-clause-counted : goal.invariant_of-self-clause-counted
invariant_of-self-clause-counted c = search (one_counted, rules)

pub returns-clause-reached : goal.returns-clause-reached
returns-clause-reached c = one_new c.args.asked.now.given.cores c.requires (search rules) (search rules) c.with-self.ensures

pub returns-clause-holds : goal.returns-clause-holds
returns-clause-holds c = one_holds _ _ c.args.asked.now.given.cores c.requires c.with-self.ensures
