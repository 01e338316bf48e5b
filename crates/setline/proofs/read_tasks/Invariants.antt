-- `setline::read_tasks` meets its contract. The loop's invariant: the tasks passed stand at the front of the two lists.
use Rattle.setline.specs.Decoded.{Tasked}
use Rattle.setline.proofs.read_tasks.Given as goal

abbrev pub invariant-loop-i : goal.invariant-loop-i
invariant-loop-i l = Tasked l.line l.i l.initial.budgets l.budgets l.initial.masks l.masks
