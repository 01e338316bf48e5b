-- A number past the width is answered at once; for any other the shift gives the bit.
use Rattle.std.proofs.Common.{rules}
use Rattle.sets.proofs.Members.{joined_past, joined_by}
use Rattle.sets.proofs.tasks.U64Set.with.Goals as goal

pub returns-then-i-ge64 : goal.returns-then-i-ge64
returns-then-i-ge64 c = search (joined_past, rules)

pub returns : goal.returns
returns c = search (joined_by, rules)
