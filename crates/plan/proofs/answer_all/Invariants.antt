-- What is known of the input, the run up to here, and the lengths of the three buffers. Each turn takes a byte at least, so the measure is how many may still be taken.
use Rattle.std.proofs.Common.{length, ◌≡◌, ◌≤◌, false}
use Rattle.rules.specs.LineCall.{LineAnswer}
use Rattle.stream.specs.Reading.{ahead}
use Rattle.stream.specs.Rounds.{History}
use Rattle.stream.proofs.LoopLaws.{Standing}
use Rattle.plan.proofs.answer_all.Given as goal

abbrev pub invariant-loop-chunk : goal.invariant-loop-chunk
invariant-loop-chunk g l = record {
  standing : Standing l.input l.source l.len;
  history : l.source.unwritten ≡ false → History LineAnswer l.initial.line l.input l.source l.line l.len;
  few : l.len ≤ length l.initial.line;
  line-long : length l.line ≡ length l.initial.line;
  out-long : length l.out ≡ length l.initial.out;
  input-long : length l.input ≡ length l.initial.input;
}

abbrev pub decreases-loop-chunk : goal.decreases-loop-chunk
decreases-loop-chunk g l = ahead l.source
