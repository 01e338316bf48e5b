-- `answerline::put_rest` meets its contract. Each arm is given which answer it is; the arms that write nothing are one.
use Rattle.answerline.proofs.AnswerLaws.{rest_accepted, rest_task, rest_overloaded, rest_missing, rest_other}
use Rattle.answerline.proofs.put_rest.Goals as goal

pub returns-in-Accepted : goal.returns-in-Accepted
returns-in-Accepted c = rest_accepted _ _ _ _ c.args.table.now c.args.pieces _ _ c.in-Accepted.is c.requires.output c.put.ensures c.put_pieces.ensures

pub returns-in-EmptyMask : goal.returns-in-EmptyMask
returns-in-EmptyMask c = rest_task _ _ _ _ _ _ c.in-EmptyMask.is c.put-in-EmptyMask.ensures

pub returns-in-Overloaded : goal.returns-in-Overloaded
returns-in-Overloaded c = rest_overloaded _ _ _ _ _ _ _ _ _ _ c.in-Overloaded.is c.from.ensures c.requires.output c.put-at.ensures c.put-in-Overloaded.ensures

pub returns-in-MissingCore : goal.returns-in-MissingCore
returns-in-MissingCore c = rest_missing _ _ _ _ _ _ _ _ _ _ c.in-MissingCore.is c.from-in-MissingCore.ensures c.requires.output c.put-at-in-MissingCore.ensures c.put-in-MissingCore.ensures

pub returns-in_default : goal.returns-in_default
returns-in_default c = rest_other _ _ _ c.in_default.not-Accepted c.in_default.not-EmptyMask c.in_default.not-Budget c.in_default.not-Overloaded c.in_default.not-MissingCore
