use Rattle.std.proofs.Common.{rules}
use Rattle.setline.proofs.DecodeLaws.{tasks_none, tasks_more, budget_place}
use Rattle.setline.proofs.read_tasks.Goals as goal

pub loop-i-init : goal.loop-i-init
loop-i-init c = search (tasks_none, rules)

pub loop-i-preserved : goal.loop-i-preserved
loop-i-preserved c = search (tasks_more, budget_place, rules)
