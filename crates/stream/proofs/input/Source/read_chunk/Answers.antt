-- Bytes came: those that were read and fit, and not more than may still come.
use Rattle.std.proofs.Common.{arith, refl}
use Rattle.stream.specs.Reading.{came}
use Rattle.stream.proofs.input.Source.read_chunk.Goals as goal

pub returns-in_default : goal.returns-in_default
returns-in_default g c = came c.min.result (omega arith) (omega (arith, c.min.ensures, c.min-room.ensures)) (omega (arith, c.min.ensures, c.min-room.ensures)) refl
