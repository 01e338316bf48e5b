-- `fields::paste::put_digits` meets its contract. The digits are written from the last to the first: what is still to be written gives the same places.
use Rattle.std.proofs.Common.{◌≡◌, length}
use Rattle.rules.specs.Line.{digits}
use Rattle.fields.proofs.PastedLaws.{filled}
use Rattle.fields.proofs.paste.put_digits.Given as goal

abbrev pub invariant-loop-i : goal.invariant-loop-i
invariant-loop-i l = filled l.places l.i l.v ≡ digits (length l.initial.places) l.value
