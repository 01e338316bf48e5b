-- The loop counts the links as their sum is defined.
use Rattle.std.proofs.Common.{◌≡◌, ◌≤◌}
use Rattle.forest.specs.Stripping.{links}
use Rattle.planner.specs.Sides.{seen}
use Rattle.planner.proofs.side.Side.links.Given as goal

abbrev pub invariant-loop-k : goal.invariant-loop-k
invariant-loop-k g l =
    (l.count ≡ links l.k (g.S.Set.bits l.gone) (seen l.self) l.vertex) × (l.count ≤ l.k)
