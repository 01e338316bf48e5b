-- Nothing is left of the chunk, or the buffer has not all of it, so it is read.
use Rattle.std.proofs.Common.{arith}
use Rattle.stream.proofs.ReadLaws.{handed_read}
use Rattle.stream.proofs.input.Source.more.Goals as goal
use Rattle.stream.proofs.input.Source.more.Goals.{else-self-via-then-self+else-self-input, else-self-via-else-self}

pub returns : goal.returns
returns g c = handed_read _ _ _ _ (λ f h. elim c.else-self.branch [ else-self-via-then-self+else-self-input w ↦ omega arith | else-self-via-else-self w ↦ omega arith ]) c.read_chunk.ensures
