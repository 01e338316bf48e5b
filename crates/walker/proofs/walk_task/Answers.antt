use Rattle.walker.proofs.Walking.{task_answer}
use Rattle.walker.proofs.walk_task.Goals as goal

pub returns : goal.returns
returns c =
    task_answer _ _ _ _ _ _ _ c.gather-count.ensures.1 _ _ (rw (c.new-service.ensures.0, c.new-service.ensures.1) at c.walk_spans.ensures)
