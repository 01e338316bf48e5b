-- Each way out is a step of the walk.
use Rattle.layout.proofs.WalkLaws.{reached_none, reached_here, reached_new}
use Rattle.layout.proofs.walking.Walked.reach_one.Goals as goal
use Rattle.layout.proofs.walking.Walked.reach_one.Goals.{then-grid-task-eq0-via-then-grid-task-eq0, then-grid-task-eq0-via-else-grid-task-eq0+then-k-core}

pub returns-then-grid-task-eq0 : goal.returns-then-grid-task-eq0
returns-then-grid-task-eq0 c =
    λ n. elim c.then-grid-task-eq0.branch [
      | then-grid-task-eq0-via-then-grid-task-eq0 w ↦ reached_none _ _ _ _ _ _ _ _ c.requires.1 n w.if-grid-task-eq0.true
      | then-grid-task-eq0-via-else-grid-task-eq0+then-k-core w ↦ reached_here _ _ _ _ _ _ _ _ c.requires.1 n w.if-k-core.true
    ]

pub returns : goal.returns
returns c =
    λ n.
    reached_new _ _ _ _ _ _ _ _ c.requires.1 n _ _ c.args.grid.few_cores c.if-grid-task-eq0.false c.if-k-core.false c.requires.0 c.with-self.ensures c.ahead_of_task.ensures.0
