-- `aurhennig::arrays::aurhennig_count_moves` meets its contract.
use Rattle.std.proofs.Common.{rules}
use Rattle.aurhennig.proofs.ReplyLaws.{moves_replied}
use Rattle.aurhennig.proofs.arrays.aurhennig_count_moves.Goals as goal

pub returns : goal.returns
returns c = search (moves_replied, rules)
