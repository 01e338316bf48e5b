-- As many bytes as there is room for, one after another.
use Rattle.std.proofs.Common.{arith}
use Rattle.stream.proofs.TakeLaws.{kept_none, kept_copy}
use Rattle.stream.proofs.line.keep.Goals as goal

pub returns-then-line-len : goal.returns-then-line-len
returns-then-line-len c = kept_none _ _ _ c.if-line-len.true

pub returns : goal.returns
returns c = kept_copy _ _ _ _ _ _ c.min-n.ensures (omega arith) (omega arith) c.copy_from_slice.ensures.after
