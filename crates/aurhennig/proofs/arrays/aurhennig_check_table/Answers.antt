-- `aurhennig::arrays::aurhennig_check_table` meets its contract.
use Rattle.std.proofs.Common.{rules}
use Rattle.aurhennig.proofs.ReplyLaws.{check_replied}
use Rattle.aurhennig.proofs.arrays.aurhennig_check_table.Goals as goal

pub returns : goal.returns
returns c = search (check_replied, rules)
