-- A line taken out of a chunk: its bytes are kept in a lent buffer, up to its line feed.
-- Assumes nothing.
use Rattle.std.specs.Prelude.{ℕ, ◌+◌, cond, List, [], ◌∷◌, ltb, eqb, length, set}
use Rattle.stream.specs.declared.line.Line.TheVariants.{Whole, Begun}
use Rattle.stream.specs.declared.line.Taken.{Taken}

-- how many bytes are kept after one more: a full buffer keeps what it holds
unfoldable pub kept_count : List ℕ → ℕ → ℕ
kept_count line len = cond (ltb len (length line)) (len + 1) len

-- how many are kept after the bytes of a text, and what the buffer then holds. A store past the buffer's end changes nothing.
unfoldable pub kept_all : List ℕ → List ℕ → ℕ → ℕ × List ℕ
kept_all [] line len = (len, line)
kept_all (b ∷ t) line len = kept_all t (set line len b) (kept_count line len)

-- what is handed back, and what the buffer then holds, where the text t is what the chunk has from the place `at` on
unfoldable pub taking : List ℕ → ℕ → List ℕ → ℕ → Taken × List ℕ
taking [] at line len = (record { at = at; line = Begun len }, line)
taking (b ∷ t) at line len = cond (eqb b 10) (record { at = at + 1; line = Whole len }, line) (taking t (at + 1) (set line len b) (kept_count line len))
