-- `aurhennig::call::aurhennig_plan_line` meets its contract: what was read is the line's set, or the line is not well written.
use Rattle.setline.proofs.Handed.{not_read}
use Rattle.aurhennig.proofs.CallLaws.{call_done, bad_put, refused_done}
use Rattle.std.proofs.Common.{arith, rules}
use Rattle.aurhennig.proofs.call.aurhennig_plan_line.Goals as goal

pub returns-in_default : goal.returns-in_default
returns-in_default c =
    call_done _ _ _ _ (search rules)
    (refused_done _ _ _ _ (not_read _ _ _ _ _ (omega arith) (omega arith) c.in_default.ensures) (bad_put _ _ _ _ (search rules) c.put_answer.ensures))
