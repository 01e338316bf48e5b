use Rattle.walker.proofs.Loops.{Seeking}
use Rattle.walker.proofs.service.Service.unit_at.Given as goal

abbrev pub invariant-loop-span : goal.invariant-loop-span
invariant-loop-span l = Seeking l.self.frame l.self.spans.now l.k l.span-index l.left
