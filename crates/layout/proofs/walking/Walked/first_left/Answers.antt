-- `Walked::first_left` meets its contract: the lowest bit is the lowest core.
use Rattle.std.proofs.Common.{rules}
use Rattle.layout.proofs.WalkLaws.{left_low, left_none}
use Rattle.layout.proofs.walking.Walked.first_left.Goals as goal

pub returns-then-core-cores : goal.returns-then-core-cores
returns-then-core-cores c = search (left_low, rules)

pub returns-else-core-cores : goal.returns-else-core-cores
returns-else-core-cores c = search (left_none, rules)
