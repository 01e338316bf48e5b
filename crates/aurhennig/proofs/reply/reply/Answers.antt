-- `aurhennig::reply::reply` meets its contract: the number decides whether there is a count.
use Rattle.std.proofs.Common.{rules}
use Rattle.aurhennig.proofs.ReplyLaws.{reply_refused, reply_accepted}
use Rattle.aurhennig.proofs.reply.reply.Goals as goal

pub returns-then-number-eq0 : goal.returns-then-number-eq0
returns-then-number-eq0 c = search (reply_accepted, rules)

pub returns-else-number-eq0 : goal.returns-else-number-eq0
returns-else-number-eq0 c = search (reply_refused, rules)
