-- What the calls on plain arrays hand back to C, as include/aurhennig.h tells it: an answer and a count, turned into a reply of four numbers.
-- Assumes nothing.
use Rattle.std.specs.Prelude.{ℕ, cond, eqb, get_or}
use Rattle.rules.specs.Answer.{number_of, values_of}
use Rattle.rules.specs.declared.Answer.{Answer}
use Rattle.rules.specs.declared.Reply.{Reply}

-- "number" is document 01's number; "first" and "second" are the values that the answer carries, in their order, 0 where there are none;
-- "count" is what is counted beside an accepted answer, and 0 beside every refusal
unfoldable pub reply_of : Answer → ℕ → Reply
reply_of a count =
    record {
      number = number_of a;
      first = get_or (values_of a) 0 0;
      second = get_or (values_of a) 1 0;
      count = cond (eqb (number_of a) 0) count 0;
    }
