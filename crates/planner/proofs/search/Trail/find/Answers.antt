use Rattle.std.proofs.Common.{arith}
use Rattle.planner.proofs.SearchLaws.{find_new}
use Rattle.planner.proofs.search.Trail.find.Goals as goal

pub returns : goal.returns
returns c = find_new (omega (arith, c.requires, c.args.asked.now.given.paired, c.args.asked.now.given.tasks)) c.if-weight-eq0.false c.if-has.ensures c.with-self.ensures c.reach.ensures.reached c.reach.ensures.holds
