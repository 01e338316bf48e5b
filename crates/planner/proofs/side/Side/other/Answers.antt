use Rattle.forest.specs.Stripping.{links}
use Rattle.planner.proofs.WayLaws.{other_none}
use Rattle.planner.proofs.side.Side.other.Goals as goal

pub unreachable-requires : goal.unreachable-requires
unfolding links
unreachable-requires g c = other_none _ _ _ _ _ c.loop-k.invariant c.loop-k-test.false c.requires.1
