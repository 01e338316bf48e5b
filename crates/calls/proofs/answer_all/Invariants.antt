-- No more bytes of the begun line are kept than it has room for. Each turn takes a byte at least, so the measure is how many may still be taken.
use Rattle.std.proofs.Common.{length, ◌≡◌, ◌≤◌}
use Rattle.stream.specs.Reading.{ahead}
use Rattle.calls.proofs.answer_all.Given as goal

abbrev pub invariant-loop-chunk : goal.invariant-loop-chunk
invariant-loop-chunk g l = (l.len ≤ 99003) × (length l.input ≡ length l.initial.input)

abbrev pub decreases-loop-chunk : goal.decreases-loop-chunk
decreases-loop-chunk g l = ahead l.source
