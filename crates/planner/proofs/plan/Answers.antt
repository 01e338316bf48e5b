use Rattle.std.proofs.Common.{sym}
use Rattle.tests.proofs.PassedLaws.{passed_ready}
use Rattle.planner.proofs.DecideLaws.{answer_decided}
use Rattle.planner.proofs.plan.Goals as goal

pub decide-requires : goal.decide-requires
decide-requires c = passed_ready _ _ _ _ _ (sym c.in-Ok.ensures)

pub returns-in-Ok : goal.returns-in-Ok
returns-in-Ok c = answer_decided _ _ _ _ _ _ _ c.in-Ok.ensures c.decide.ensures
