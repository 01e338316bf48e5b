use Rattle.planner.proofs.DecideLaws.{decided_whole, decided_short}
use Rattle.planner.proofs.decide.decide.Goals as goal

pub returns-in-Ok : goal.returns-in-Ok
returns-in-Ok c = decided_whole _ _ _ _ _ c.requires _ _ _ c.settle.ensures

pub returns-in-Err : goal.returns-in-Err
returns-in-Err c = decided_short _ _ _ _ _ c.requires _ _ c.in-Err.ensures
