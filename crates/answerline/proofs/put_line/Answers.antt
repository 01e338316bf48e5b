-- `answerline::put_line` meets its contract.
use Rattle.answerline.proofs.AnswerLaws.{answer_put}
use Rattle.answerline.proofs.put_line.Goals as goal

pub returns : goal.returns
returns c = answer_put c.args.answer _ _ _ _ _ _ _ _ c.from.ensures c.from-2.ensures c.requires.output c.put.ensures c.put_rest.ensures
