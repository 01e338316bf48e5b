-- The loop reaches one core after the other.
use Rattle.layout.specs.Walking.{walk_of}
use Rattle.layout.proofs.WalkLaws.{ReachedTo}
use Rattle.layout.proofs.walking.Walked.reach_cores.Given as goal

abbrev pub invariant-loop-k : goal.invariant-loop-k
invariant-loop-k l =
    ReachedTo l.grid.cores l.grid.units.now l.task l.core l.at (walk_of l.initial.self) l.k l.self
