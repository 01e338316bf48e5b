-- What was passed has no units or is the one we came from.
use Rattle.planner.specs.Sides.{seen}
use Rattle.planner.proofs.WayLaws.{NoneBelow}
use Rattle.planner.proofs.side.Side.other.Given as goal

abbrev pub invariant-loop-k : goal.invariant-loop-k
invariant-loop-k g l =
    NoneBelow (seen l.self l.vertex) (g.S.Set.bits l.gone) l.from l.k
