use Rattle.planner.proofs.FillLaws.{fill_start}
use Rattle.planner.proofs.flow.place_first.Goals as goal

pub loop-t-init : goal.loop-t-init
loop-t-init c = fill_start c.args.asked.now.given c.requires c.copy_from_slice.ensures.after
