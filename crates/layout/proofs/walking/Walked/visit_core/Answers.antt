use Rattle.std.proofs.Common.{rules}
use Rattle.layout.proofs.WalkLaws.{meet_begin, marked_meets, meet_asks, meet_more, meet_done, visit_done}
use Rattle.layout.proofs.walking.Walked.visit_core.Goals as goal

pub loop-t-init : goal.loop-t-init
loop-t-init c = meet_begin _ _ _ _ _ _ (marked_meets _ _ _ _ c.requires)

pub meet_one-requires : goal.meet_one-requires
meet_one-requires c = (c.loop-t-test.true, meet_asks _ _ _ _ _ _ _ (marked_meets _ _ _ _ c.requires) c.loop-t-test.true c.loop-t.invariant)

pub loop-t-preserved : goal.loop-t-preserved
loop-t-preserved c = search (meet_more, rules)

pub returns : goal.returns
returns c = search (meet_done, visit_done, rules)
