use Rattle.planner.proofs.StepLaws.{share_place, share_done}
use Rattle.planner.proofs.steps.Stock.share.Goals as goal

pub place-requires : goal.place-requires
place-requires c = share_place _ _ _ c.min-d.ensures c.requires

pub returns : goal.returns
returns c = share_done _ _ _ c.min-d.ensures c.place.ensures
