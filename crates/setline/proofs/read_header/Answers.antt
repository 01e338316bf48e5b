-- `setline::read_header` meets its contract. A reader is made, and takes one field after another; each reader is known whole by the contract of the call that returned it.
use Rattle.std.proofs.Common.{arith}
use Rattle.setline.proofs.TakenLaws.{header_taken, frame_taken, cores_taken}
use Rattle.setline.proofs.read_header.Goals as goal

pub overflow_cast-result : goal.overflow_cast-result
overflow_cast-result c = omega (arith, frame_taken _ c.requires _ _ _ c.start.ensures c.take-frame.ensures c.take-cores.ensures)

pub overflow_cast-result-2 : goal.overflow_cast-result-2
overflow_cast-result-2 c = omega (arith, cores_taken _ c.requires _ _ _ c.start.ensures c.take-frame.ensures c.take-cores.ensures)

pub returns : goal.returns
returns c = header_taken _ c.requires _ _ _ _ c.start.ensures c.take-frame.ensures c.take-cores.ensures c.take-tasks.ensures
