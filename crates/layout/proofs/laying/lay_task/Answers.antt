-- `laying::lay_task` meets its contract: no piece without units, else those of the stretch.
use Rattle.layout.proofs.LayLaws.{task_none, stretch_asked, task_some}
use Rattle.layout.proofs.laying.lay_task.Goals as goal

pub returns-then-len-eq0 : goal.returns-then-len-eq0
returns-then-len-eq0 c = task_none _ _ _ _ _ c.requires.0 _ _ _ c.if-len-eq0.true

pub add_stretch-requires : goal.add_stretch-requires
add_stretch-requires c = let s = c.requires in stretch_asked _ _ _ _ _ s.0 _ _ _ _ s.1 s.2 c.if-len-eq0.false c.ahead_on_core.ensures.0 s.3

pub returns : goal.returns
returns c = task_some _ _ _ _ _ c.requires.0 _ _ _ _ _ _ c.if-len-eq0.false c.ahead_on_core.ensures.0 c.add_stretch.ensures
