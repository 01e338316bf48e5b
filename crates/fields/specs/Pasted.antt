-- What a lent output holds after bytes, or a field, were written into it.
-- Assumes nothing.
use Rattle.std.specs.Prelude.{ℕ, ◌+◌, ◌*◌, Bool, cond, ◌&&◌, List, ◌++◌, leb, length, take, drop}
use Rattle.rules.specs.Line.{bytes}

-- o with the bytes l from the place p on; "the rest keeps what it held"
unfoldable pub pasted : List ℕ → ℕ → List ℕ → List ℕ
pasted o p l = take p o ++ (l ++ drop (p + length l) o)

-- a field of w bytes has at most 8 bytes, and o has room for its digits from the place p on
unfoldable pub has_room : List ℕ → ℕ → ℕ → Bool
has_room o p w = leb w 8 && leb (p + 2 * w) (length o)

-- o with v as w bytes from the place p on, where there is room; else o as it was
unfoldable pub put_field : List ℕ → ℕ → ℕ → ℕ → List ℕ
put_field o p w v = cond (has_room o p w) (pasted o p (bytes w v)) o
