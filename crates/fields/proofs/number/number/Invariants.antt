-- `fields::number::number` meets its contract. The loop's invariant: the number of the digits passed. It is below 2 ^ 60 before the sixteenth digit, so one more fits.
use Rattle.std.proofs.Common.{◌≡◌}
use Rattle.rules.specs.Line.{digits_at}
use Rattle.fields.proofs.number.number.Given as goal

abbrev pub invariant-loop-d : goal.invariant-loop-d
invariant-loop-d l = l.v ≡ digits_at l.digits 0 l.d-index
