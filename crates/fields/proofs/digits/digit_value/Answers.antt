-- `fields::digits::digit_value` meets its contract: what the digit read says.
use Rattle.std.proofs.Common.{◌∙◌}
use Rattle.fields.proofs.DigitLaws.{value_read}
use Rattle.fields.proofs.digits.digit_value.Goals as goal

pub returns : goal.returns
returns c = value_read _ _ c.read_digit.ensures _ (c.from.ensures ∙ c.unwrap_or.ensures)
