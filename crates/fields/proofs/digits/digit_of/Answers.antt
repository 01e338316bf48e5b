-- `fields::digits::digit_of` meets its contract.
use Rattle.std.proofs.Common.{rules}
use Rattle.fields.proofs.DigitLaws.{of_decimal, of_letter}
use Rattle.fields.proofs.digits.digit_of.Goals as goal

pub returns-then-v-lt10 : goal.returns-then-v-lt10
returns-then-v-lt10 c = search (of_decimal, rules)

pub returns-else-v-lt10 : goal.returns-else-v-lt10
returns-else-v-lt10 c = search (of_letter, rules)
