-- `answerline::put` meets its contract: the field fits, so it is written.
use Rattle.std.proofs.Common.{rules}
use Rattle.fields.proofs.PastedLaws.{put_fits}
use Rattle.answerline.proofs.put.Goals as goal

pub returns : goal.returns
returns c = search (put_fits, rules)
