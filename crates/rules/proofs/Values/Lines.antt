-- Digits, fields, well-written lines and each answer's line, worked out by hand.
-- Assumes nothing.
use mathlib.Core.Path.{◌≡◌, refl}
use mathlib.Core.Bool.{true, false}
use mathlib.Core.List.{List, [], ◌∷◌, ◌++◌}
use Prim.Native.Nat.{ℕ, ◌+◌, ◌*◌}
use lib.ListN.{replicate}
use Rattle.rules.specs.Sizes.{max_pieces, max_digits, least_output}
use Rattle.rules.specs.Piece.{Piece}
use Rattle.rules.specs.Line.{is_decimal, is_letter, is_digit, digit_value, digit_of, digits_at, field, digits, bytes, task_fields, all_digits, well_written, line_frame, line_cores, line_tasks, line_budgets, line_masks, piece_line, piece_lines, line_widths, values_line, answer_rest, answer_line}
use Rattle.rules.specs.declared.Answer.TheVariants.{Accepted, FrameLength, CoreCount, TaskCount, EmptyMask, Budget, ShortTable, Overloaded, NotTable, JobList, NoUnits, ShortFinishes, BadLine, MissingCore}

abbrev piece : ℕ → ℕ → ℕ → ℕ → Piece
piece core task start len = record { core = core; task = task; start = start; len = len }

-- the longest line in has 255 tasks of six bytes; the longest answer is the number, the count and 95 pieces of ten bytes; two digits a byte
longest_lines : 2 * (6 + 6 * 255) ∷ 2 * (1 + 2 + max_pieces * 10) ∷ [] ≡ max_digits ∷ least_output ∷ []
longest_lines = refl

-- the bytes beside `0` and `9` and beside `a` and `f`
decimal_edges : is_decimal 47 ∷ is_decimal 48 ∷ is_decimal 57 ∷ is_decimal 58 ∷ is_decimal 97 ∷ [] ≡ false ∷ true ∷ true ∷ false ∷ false ∷ []
unfolding is_decimal
decimal_edges = refl

letter_edges : is_letter 96 ∷ is_letter 97 ∷ is_letter 102 ∷ is_letter 103 ∷ is_letter 48 ∷ [] ≡ false ∷ true ∷ true ∷ false ∷ false ∷ []
unfolding is_letter
letter_edges = refl

digit_edges :
    is_digit 47 ∷ is_digit 48 ∷ is_digit 57 ∷ is_digit 58 ∷ is_digit 65 ∷ is_digit 96 ∷ is_digit 97 ∷ is_digit 102 ∷ is_digit 103 ∷ [] ≡
    false ∷ true ∷ true ∷ false ∷ false ∷ false ∷ true ∷ true ∷ false ∷ []
unfolding is_decimal is_letter is_digit
digit_edges = refl

-- `0`, `9`, `a` and `f`; any other byte counts 0
digit_values :
    digit_value 48 ∷ digit_value 57 ∷ digit_value 97 ∷ digit_value 102 ∷ digit_value 47 ∷ digit_value 58 ∷ digit_value 96 ∷ digit_value 103 ∷ [] ≡
    0 ∷ 9 ∷ 10 ∷ 15 ∷ 0 ∷ 0 ∷ 0 ∷ 0 ∷ []
unfolding is_decimal is_letter digit_value
digit_values = refl

digit_bytes : digit_of 0 ∷ digit_of 9 ∷ digit_of 10 ∷ digit_of 15 ∷ [] ≡ 48 ∷ 57 ∷ 97 ∷ 102 ∷ []
unfolding digit_of
digit_bytes = refl

-- the last four digits of five, the highest first; two bytes are four digits
digits_values : digits 4 0x7be0f ∷ bytes 2 0xa5 ∷ [] ≡ (98 ∷ 101 ∷ 48 ∷ 102 ∷ []) ∷ (48 ∷ 48 ∷ 97 ∷ 53 ∷ []) ∷ []
unfolding digits digit_of
digits_values = refl

-- two bytes from byte 1 on, then three digits from digit 3 on
field_values : field (48 ∷ 49 ∷ 98 ∷ 101 ∷ 48 ∷ 102 ∷ 49 ∷ []) 1 2 ∷ digits_at (48 ∷ 49 ∷ 98 ∷ 101 ∷ 48 ∷ 102 ∷ 49 ∷ []) 3 3 ∷ [] ≡ 0xbe0f ∷ 0xe0f ∷ []
unfolding digits_at digit_value is_decimal is_letter
field_values = refl

-- F 1,000,000, sixteen cores, two tasks
two_tasks : List ℕ
two_tasks = digits 36 0x000f4240100200000005000300000006abcd

head_values : line_frame two_tasks ∷ line_cores two_tasks ∷ line_tasks two_tasks ∷ [] ≡ 1000000 ∷ 16 ∷ 2 ∷ []
unfolding two_tasks is_decimal is_letter digits digit_of digits_at digit_value
head_values = refl

task_values : line_budgets two_tasks ∷ line_masks two_tasks ∷ [] ≡ (5 ∷ 6 ∷ []) ∷ (0x0003 ∷ 0xabcd ∷ []) ∷ []
unfolding two_tasks task_fields is_decimal is_letter digits digit_of digits_at digit_value
task_values = refl

all_digits_values : all_digits [] ∷ all_digits (48 ∷ 102 ∷ []) ∷ all_digits (47 ∷ 48 ∷ []) ∷ all_digits (48 ∷ 103 ∷ []) ∷ [] ≡ true ∷ true ∷ false ∷ false ∷ []
unfolding all_digits is_digit is_decimal is_letter
all_digits_values = refl

-- no tasks; one task; 255 tasks, the longest line
good_lines :
    well_written (digits 12 0x0000000a0100) ∷ well_written (digits 24 0x0000000a0101000000000001) ∷ well_written (digits 12 0x0000000a01ff ++ replicate 3060 48) ∷ [] ≡
    true ∷ true ∷ true ∷ []
unfolding well_written all_digits is_digit is_decimal is_letter digits digit_of digits_at digit_value
good_lines = refl

-- the empty line; one digit too few, two too few and two too many; no task where one is said, and one where none is; 3,074 digits
bad_lengths :
    well_written [] ∷
    well_written (digits 23 0x0000000a010100000000000) ∷
    well_written (digits 22 0x0000000a01010000000000) ∷
    well_written (digits 26 0x0000000a010100000000000100) ∷
    well_written (digits 12 0x0000000a0101) ∷
    well_written (digits 24 0x0000000a0100000000000001) ∷
    well_written (digits 12 0x0000000a01ff ++ replicate 3062 48) ∷ [] ≡ false ∷ false ∷ false ∷ false ∷ false ∷ false ∷ false ∷ []
unfolding well_written all_digits is_digit is_decimal is_letter digits digit_of digits_at digit_value
bad_lengths = refl

-- an upper-case letter, where `a` would do
bad_byte : well_written (48 ∷ 48 ∷ 48 ∷ 48 ∷ 48 ∷ 48 ∷ 48 ∷ 65 ∷ 48 ∷ 49 ∷ 48 ∷ 48 ∷ []) ≡ false
unfolding well_written all_digits is_digit is_decimal is_letter digits_at digit_value
bad_byte = refl

-- "the number (1 byte); for 0 the piece count (2) and per piece core (1), task (1), start (4), length (4)"
accepted_lines :
    answer_line Accepted [] ∷ answer_line Accepted (piece 15 63 300 1 ∷ piece 1 2 0x304 0x506 ∷ []) ∷ [] ≡
    digits 6 0x000000 ∷ digits 46 0x0000020f3f0000012c0000000101020000030400000506 ∷ []
unfolding answer_line line_widths values_line answer_rest piece_line piece_lines digits digit_of
accepted_lines = refl

-- "for 4 and 5 the task (1); for 7 the group (8, bit i for task i) and its cores (2)"; "its line has task (1) and core (1)"; a refusal shows no pieces
carried_lines :
    answer_line (EmptyMask 0x3f) (piece 1 2 3 4 ∷ []) ∷ answer_line (Budget 0x05) (piece 1 2 3 4 ∷ []) ∷ answer_line (Overloaded 0x102 0x304) (piece 1 2 3 4 ∷ []) ∷
    answer_line (MissingCore 0x3e 0x0f) (piece 1 2 3 4 ∷ []) ∷ [] ≡ digits 4 0x043f ∷ digits 4 0x0505 ∷ digits 22 0x0700000000000001020304 ∷ digits 6 0x0d3e0f ∷ []
unfolding answer_line line_widths values_line answer_rest piece_line piece_lines digits digit_of
carried_lines = refl

-- "otherwise nothing more"
bare_lines :
    answer_line FrameLength (piece 1 2 3 4 ∷ []) ∷
    answer_line CoreCount (piece 1 2 3 4 ∷ []) ∷
    answer_line TaskCount (piece 1 2 3 4 ∷ []) ∷
    answer_line ShortTable (piece 1 2 3 4 ∷ []) ∷
    answer_line NotTable (piece 1 2 3 4 ∷ []) ∷
    answer_line (JobList 7) (piece 1 2 3 4 ∷ []) ∷
    answer_line (NoUnits 7) (piece 1 2 3 4 ∷ []) ∷
    answer_line ShortFinishes (piece 1 2 3 4 ∷ []) ∷
    answer_line BadLine (piece 1 2 3 4 ∷ []) ∷ [] ≡
    digits 2 0x01 ∷ digits 2 0x02 ∷ digits 2 0x03 ∷ digits 2 0x06 ∷ digits 2 0x08 ∷ digits 2 0x09 ∷ digits 2 0x0a ∷ digits 2 0x0b ∷ digits 2 0x0c ∷ []
unfolding answer_line line_widths values_line answer_rest piece_line piece_lines digits digit_of
bare_lines = refl
