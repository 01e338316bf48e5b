-- A number past the width is answered at once; for any other the shift gives the bit.
use Rattle.sets.proofs.Members.{none_past, has_by}
use Rattle.sets.proofs.cores.U16Set.has.Goals as goal

pub returns-then-j-ge16 : goal.returns-then-j-ge16
returns-then-j-ge16 c = none_past 16 _ _ c.ranges.self.fits c.if-j-ge16.true

pub returns : goal.returns
returns c = has_by _ _
