-- A number past the width is answered at once; for any other the shift gives the bit.
use Rattle.sets.proofs.Members.{none_past, has_by}
use Rattle.sets.proofs.tasks.U64Set.has.Goals as goal

pub returns-then-i-ge64 : goal.returns-then-i-ge64
returns-then-i-ge64 c = none_past 64 _ _ c.ranges.self.fits c.if-i-ge64.true

pub returns : goal.returns
returns c = has_by _ _
