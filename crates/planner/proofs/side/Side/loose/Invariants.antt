-- The invariant: what was passed is gone or has two links at least.
use Rattle.forest.specs.Stripping.{links}
use Rattle.planner.specs.Sides.{seen}
use Rattle.planner.specs.Loose.{FastBelow}
use Rattle.planner.proofs.side.Side.loose.Given as goal

abbrev pub invariant-loop-i : goal.invariant-loop-i
invariant-loop-i g l =
    FastBelow (g.S.Set.bits l.gone) (links l.self.others (g.T.Set.bits l.others_gone) (seen l.self)) l.i
