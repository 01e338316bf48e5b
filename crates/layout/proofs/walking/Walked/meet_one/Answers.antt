-- Each way out is a step of the walk.
use Rattle.layout.proofs.WalkLaws.{met_new, met_none, met_old, ahead_asks, reach_asks}
use Rattle.layout.proofs.walking.Walked.meet_one.Goals as goal
use Rattle.layout.proofs.walking.Walked.meet_one.Goals.{then-grid-task-eq0-via-then-grid-task-eq0, then-grid-task-eq0-via-else-grid-task-eq0+then-has}

pub returns-then-grid-task-eq0 : goal.returns-then-grid-task-eq0
returns-then-grid-task-eq0 c =
    elim c.then-grid-task-eq0.branch [
      | then-grid-task-eq0-via-then-grid-task-eq0 w ↦ met_none _ _ _ _ _ _ c.requires.1 w.if-grid-task-eq0.true
      | then-grid-task-eq0-via-else-grid-task-eq0+then-has w ↦ met_old _ _ _ _ _ _ c.requires.1 _ w.has.ensures w.if-has.true
    ]

pub ahead_on_core-requires : goal.ahead_on_core-requires
ahead_on_core-requires c = ahead_asks _ _ _ _ _ _ c.requires.1 c.requires.0

pub reach_cores-requires : goal.reach_cores-requires
reach_cores-requires c = reach_asks _ _ _ _ _ _ c.requires.1 _ _ c.requires.0 c.ahead_on_core.ensures.1

pub returns : goal.returns
returns c =
    met_new _ _ _ _ _ _ c.requires.1 _ _ _ _ c.requires.0 c.if-grid-task-eq0.false c.has.ensures c.if-has.false c.ahead_on_core.ensures.0 c.with-self.ensures c.reach_cores.ensures
