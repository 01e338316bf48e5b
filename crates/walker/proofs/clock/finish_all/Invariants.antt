use Rattle.walker.proofs.Steps.{Finishing}
use Rattle.walker.proofs.clock.finish_all.Given as goal

abbrev pub invariant-loop-k : goal.invariant-loop-k
invariant-loop-k l =
    Finishing l.service.frame l.service.spans.now l.jobs.releases.now l.jobs.units.now l.initial.finishes l.finishes l.clock.at l.k
