use Rattle.std.proofs.Common.{rules}
use Rattle.fitting.proofs.FittingLaws.{counted_none, counted_more}
use Rattle.fitting.proofs.test_rows.Goals as goal

pub loop-t-init : goal.loop-t-init
loop-t-init c = search (counted_none, rules)

pub loop-t-preserved : goal.loop-t-preserved
loop-t-preserved c = search (counted_more, rules)
