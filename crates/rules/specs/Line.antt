-- Document 01, "Lines": digits, fields, a well-written line, and each answer's line. A line is the list of its bytes without the line feed.
-- Assumes nothing.
use Rattle.std.specs.Prelude.{ℕ, zero, suc, ◌+◌, ◌-◌, ◌*◌, ◌/◌, ◌%◌, Bool, true, cond, ◌&&◌, ◌||◌, List, [], ◌∷◌, ◌++◌, eqb, leb, ltb, length, get_or}
use Rattle.rules.specs.Sizes.{max_digits}
use Rattle.rules.specs.Piece.{Piece}
use Rattle.rules.specs.Answer.{number_of, values_of}
use Rattle.rules.specs.declared.Answer.{Answer}

-- "`0` to `9`", the bytes 48 to 57
unfoldable pub is_decimal : ℕ → Bool
is_decimal b = leb 48 b && ltb b 58

-- "`a` to `f`", the bytes 97 to 102
unfoldable pub is_letter : ℕ → Bool
is_letter b = leb 97 b && ltb b 103

unfoldable pub is_digit : ℕ → Bool
is_digit b = is_decimal b || is_letter b

-- the value of a digit; any other byte is refused before it is read, and counts 0 here
unfoldable pub digit_value : ℕ → ℕ
digit_value b = cond (is_decimal b) (b - 48) (cond (is_letter b) (b - 87) 0)

-- the digit of a number below 16
unfoldable pub digit_of : ℕ → ℕ
digit_of v = cond (ltb v 10) (48 + v) (87 + v)

-- "lowercase hexadecimal, big-endian": the number of c digits from the place p on
unfoldable pub digits_at : List ℕ → ℕ → ℕ → ℕ
digits_at l p zero = 0
digits_at l p (suc c) = digits_at l p c * 16 + digit_value (get_or l (p + c) 0)

-- a field of w bytes, two digits each, that begins at byte p
abbrev pub field : List ℕ → ℕ → ℕ → ℕ
field l p w = digits_at l (2 * p) (2 * w)

-- the last c digits of v, the highest first
unfoldable pub digits : ℕ → ℕ → List ℕ
digits zero v = []
digits (suc c) v = digits c (v / 16) ++ (digit_of (v % 16) ∷ [])

-- v written as w bytes
abbrev pub bytes : ℕ → ℕ → List ℕ
bytes w v = digits (2 * w) v

-- "In: F (4 bytes), m (1), n (1), then per task budget (4) and mask (2)"
abbrev pub line_frame : List ℕ → ℕ
line_frame l = field l 0 4

abbrev pub line_cores : List ℕ → ℕ
line_cores l = field l 4 1

abbrev pub line_tasks : List ℕ → ℕ
line_tasks l = field l 5 1

-- the fields of w bytes that begin at byte p of each of the first n tasks, whose bytes are 6 each from byte 6 on
unfoldable pub task_fields : List ℕ → ℕ → ℕ → ℕ → List ℕ
task_fields l p w zero = []
task_fields l p w (suc n) = task_fields l p w n ++ (field l (6 + 6 * n + p) w ∷ [])

abbrev pub line_budgets : List ℕ → List ℕ
line_budgets l = task_fields l 0 4 (line_tasks l)

abbrev pub line_masks : List ℕ → List ℕ
line_masks l = task_fields l 4 2 (line_tasks l)

unfoldable pub all_digits : List ℕ → Bool
all_digits [] = true
all_digits (b ∷ l) = is_digit b && all_digits l

-- "A line is not well written if it has any byte other than `0` to `9` and `a` to `f`, an odd number of digits, fewer than 12 digits, or a
-- length other than 6 + 6 × n bytes, n being the byte that stands there. .. So is any of more than 3,072 digits."
unfoldable pub well_written : List ℕ → Bool
well_written l =
    leb (length l) max_digits && all_digits l && eqb (length l % 2) 0 && leb 12 (length l) && eqb (length l) (2 * (6 + 6 * line_tasks l))

-- "per piece core (1), task (1), start (4), length (4)"
unfoldable pub piece_line : Piece → List ℕ
piece_line p = bytes 1 p.core ++ bytes 1 p.task ++ bytes 4 p.start ++ bytes 4 p.len

unfoldable pub piece_lines : List Piece → List ℕ
piece_lines [] = []
piece_lines (p ∷ ps) = piece_line p ++ piece_lines ps

-- how many bytes each value takes that the answer of this number carries (`values_of`): "for 4 and 5 the task (1); for 7 the group (8, bit i for
-- task i) and its cores (2); otherwise nothing more"; document 02, (ii): "its line has task (1) and core (1)"
unfoldable pub line_widths : ℕ → List ℕ
line_widths number =
    cond (eqb number 4) (1 ∷ []) (cond (eqb number 5) (1 ∷ []) (cond (eqb number 7) (8 ∷ 2 ∷ []) (cond (eqb number 13) (1 ∷ 1 ∷ []) [])))

-- values one after another, each as so many bytes as its width says; a value without a width is not written
unfoldable pub values_line : List ℕ → List ℕ → List ℕ
values_line [] vs = []
values_line (w ∷ ws) [] = []
values_line (w ∷ ws) (v ∷ vs) = bytes w v ++ values_line ws vs

-- what stands after the number: "for 0 the piece count (2) and per piece ..", and for any other the values that it carries
unfoldable pub answer_rest : Answer → List Piece → List ℕ
answer_rest a ps = cond (eqb (number_of a) 0) (bytes 2 (length ps) ++ piece_lines ps) (values_line (line_widths (number_of a)) (values_of a))

-- "Out, one line for each: the number (1 byte)", and the rest; ps are the pieces of an accepted set
unfoldable pub answer_line : Answer → List Piece → List ℕ
answer_line a ps = bytes 1 (number_of a) ++ answer_rest a ps
