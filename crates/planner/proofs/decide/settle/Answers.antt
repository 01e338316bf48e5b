use Rattle.planner.proofs.DecideLaws.{settled_some, settled_by}
use Rattle.planner.proofs.decide.settle.Goals as goal

pub unwrap-requires : goal.unwrap-requires
unwrap-requires c = settled_some _ _ _ _ _ (record { given = c.args.asked.now.given; room = c.requires.room }) _ c.requires.whole _ c.unloop.ensures.0 c.unloop.ensures.1 c.lay_out.ensures

pub returns : goal.returns
returns c = settled_by _ _ _ _ _ (record { given = c.args.asked.now.given; room = c.requires.room }) _ c.requires.whole _ c.unloop.ensures.0 c.unloop.ensures.1 _ c.lay_out.ensures c.unwrap.ensures
