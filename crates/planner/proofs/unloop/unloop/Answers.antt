use Rattle.forest.proofs.Strip.{strip_none}
use Rattle.forest.proofs.Shifting.{kept_none}
use Rattle.std.proofs.Common.{rules}
use Rattle.planner.proofs.unloop.unloop.Goals as goal

pub loop-start-init : goal.loop-start-init
loop-start-init c = (search rules, kept_none _ _ _, strip_none _ _ _)
