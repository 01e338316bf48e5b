-- `aurhennig::call::answer_set` meets its contract: plan's contract is the answer, and its pieces fit since the lent table keeps its length.
use Rattle.std.proofs.Common.{rules}
use Rattle.aurhennig.proofs.CallLaws.{set_answered, lent}
use Rattle.aurhennig.proofs.call.answer_set.Goals as goal

pub returns : goal.returns
returns c = search (set_answered, lent, rules)
