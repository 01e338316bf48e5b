-- The loop reaches one core after the other.
use Rattle.planner.specs.Search.{Reached, Holds, known}
use Rattle.planner.proofs.search.Trail.reach.Given as goal

abbrev pub invariant-loop-j : goal.invariant-loop-j
invariant-loop-j l = Reached l.asked.cores l.t l.mask (known l.initial.self) (known l.self) × Holds l.j l.mask l.self.cores
