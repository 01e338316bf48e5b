-- `answerline::put_answer` meets its contract: a law for the way out that writes.
use Rattle.std.proofs.Common.{rules}
use Rattle.answerline.proofs.PutLaws.{line_put}
use Rattle.answerline.proofs.put_answer.Goals as goal

pub returns : goal.returns
returns c = search (line_put, rules)
