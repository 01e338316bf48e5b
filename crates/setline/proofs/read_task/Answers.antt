-- `setline::read_task` meets its contract, as `read_header` does, from the position passed.
use Rattle.std.proofs.Common.{arith}
use Rattle.setline.proofs.TakenLaws.{task_taken, budget_taken, mask_taken}
use Rattle.setline.proofs.read_task.Goals as goal

pub overflow_cast-result : goal.overflow_cast-result
overflow_cast-result c = omega (arith, budget_taken _ _ c.requires _ _ _ c.start.ensures c.take-budget.ensures c.take-mask.ensures)

pub overflow_cast-result-2 : goal.overflow_cast-result-2
overflow_cast-result-2 c = omega (arith, mask_taken _ _ c.requires _ _ _ c.start.ensures c.take-budget.ensures c.take-mask.ensures)

pub returns : goal.returns
returns c = task_taken _ _ c.requires _ _ _ c.start.ensures c.take-budget.ensures c.take-mask.ensures
