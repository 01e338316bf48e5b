-- A number past the width is answered at once; for any other the shift gives the bit.
use Rattle.std.proofs.Common.{rules}
use Rattle.sets.proofs.Members.{joined_past, joined_by}
use Rattle.sets.proofs.cores.U16Set.with.Goals as goal

pub returns-then-j-ge16 : goal.returns-then-j-ge16
returns-then-j-ge16 c = search (joined_past, rules)

pub returns : goal.returns
returns c = search (joined_by, rules)
