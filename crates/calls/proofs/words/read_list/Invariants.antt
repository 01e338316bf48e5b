-- The byte past the fields that are read.
use Rattle.std.proofs.Common.{◌≡◌, ◌+◌, ◌*◌}
use Rattle.calls.proofs.words.read_list.Given as goal

abbrev pub invariant-loop-x : goal.invariant-loop-x
invariant-loop-x g l = l.past ≡ l.at + l.width * l.x-index
