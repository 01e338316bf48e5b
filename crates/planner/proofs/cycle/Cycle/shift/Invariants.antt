-- The shifts up to a place are done.
use Rattle.std.proofs.Common.{◌≡◌, ℕ, length}
use Rattle.rules.specs.Plan.{at}
use Rattle.stretches.specs.Cell.{cell}
use Rattle.forest.specs.Ring.{Shifted}
use Rattle.planner.specs.Shifts.{ShiftReady}
use Rattle.planner.proofs.cycle.Cycle.shift.Given as goal

abbrev pub invariant-loop-i : goal.invariant-loop-i
invariant-loop-i l =
    (length l.units ≡ 1024)
    × ((n m : ℕ) → ShiftReady n m (cell l.initial.units) l.self l.d → Shifted n m (cell l.initial.units) (cell l.units) (at l.self.tasks) (at l.self.cores) l.self.lo l.self.hi l.d l.i)
