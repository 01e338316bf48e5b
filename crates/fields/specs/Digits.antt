-- What a byte of a line is. Document 01, "Lines".
-- Assumes nothing.
use Rattle.std.specs.Prelude.{ℕ, cond, Option, Some, None}
use Rattle.rules.specs.Line.{is_digit, digit_value}

-- a digit's value; any other byte is refused
unfoldable pub read_digit : ℕ → Option ℕ
read_digit b = cond (is_digit b) (Some (digit_value b)) None
