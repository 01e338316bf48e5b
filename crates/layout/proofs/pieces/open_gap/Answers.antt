use Rattle.std.proofs.Common.{◌∙◌}
use Rattle.layout.proofs.GapLaws.{gap_copied}
use Rattle.layout.proofs.pieces.open_gap.Goals as goal

pub returns : goal.returns
returns c = c.copy_within.ensures.after ∙ gap_copied _ _ _ c.requires.0
