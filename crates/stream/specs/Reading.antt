-- What is known of the input while it is read in chunks. What the system reads and writes no contract can say: of that there are bounds only.
-- Assumes nothing.
use Rattle.std.specs.Prelude.{◌≡◌, Bool, true, false, not, List, ℕ, ◌+◌, ◌-◌, ◌≤◌, ◌<◌, min, ltb, eqb, length, get_or}
use Rattle.stream.specs.declared.input.Source.{Source}

-- "the input counts as ended after 1,000,000,000,000 bytes", and one more is the line feed that the last line may get
abbrev pub started : Source
started = record { left = 1000000000001; at = 0; end = 0; begun = false; unread = false; unwritten = false }

-- how many bytes may still be taken
abbrev pub ahead : Source → ℕ
ahead s = s.left + (s.end - s.at)

-- the last of the first `end` bytes of a buffer is no line feed: it began a line, or went on with one
abbrev pub last_begins : List ℕ → ℕ → Bool
last_begins input end = not (eqb (get_or input (end - 1) 0) 10)

-- nothing comes any more, and all else is as it was
abbrev pub stopped_at : Source → Source
stopped_at s = record { left = 0; at = 0; end = 0; begun = s.begun; unread = s.unread; unwritten = s.unwritten }

-- the input has ended. "A last line without one still counts if it has a byte": a line that is begun gets its line feed, as a chunk of one
-- byte; only in a buffer without a place it gets none, and stays begun.
pub data Last (before : Source) (input : List ℕ) (r : Source) : Type 0 where
  none_begun : before.begun ≡ false → r ≡ stopped_at before → Last before input r
  given_its_feed : before.begun ≡ true → 0 < length input → get_or input 0 0 ≡ 10
      → r ≡ record { left = 0; at = 0; end = 1; begun = false; unread = before.unread; unwritten = before.unwritten }
      → Last before input r
  no_place : before.begun ≡ true → length input ≡ 0 → r ≡ stopped_at before → Last before input r

-- the input was read once: n bytes came, which are taken off those that may still come; or it has ended; or reading failed, and a line that is
-- begun stays so. After the last byte that may come it is not read.
pub data Read (before : Source) (input : List ℕ) (r : Source) : Type 0 where
  came : (n : ℕ) → 0 < n → n < before.left → n ≤ length input
      → r ≡ record { left = before.left - n; at = 0; end = n; begun = last_begins input n; unread = before.unread; unwritten = before.unwritten }
      → Read before input r
  ended : 0 < before.left → Last before input r → Read before input r
  failed : r ≡ record { left = 0; at = 0; end = 0; begun = before.begun; unread = true; unwritten = before.unwritten } → Read before input r
  stopped : before.left ≡ 0 → r ≡ stopped_at before → Read before input r

-- what is left of the chunk is handed out as it is; where nothing is left in the buffer, it is read
pub data Next (before : Source) (was input : List ℕ) (r : Source) : Type 0 where
  rest : before.at < before.end → before.end ≤ length was → r ≡ before → input ≡ was → Next before was input r
  read : (before.at < before.end → before.end ≤ length was → ⊥) → Read before input r → Next before was input r

-- what is handed out stands in the buffer, and no more bytes may be taken than before
pub record Handed (before : Source) (was input : List ℕ) (r : Source) : Type 0 where
  pub order : r.at ≤ r.end
  pub within : r.end ≤ length input
  pub no_more : ahead r ≤ ahead before
  pub next : Next before was input r

-- so many bytes of the chunk are taken, and not more than it has
abbrev pub moved_on : Source → ℕ → Source
moved_on s taken = record { left = s.left; at = min (s.at + taken) s.end; end = s.end; begun = s.begun; unread = s.unread; unwritten = s.unwritten }

-- their answers are written; or writing failed, and nothing comes any more
pub data Passed (before : Source) (taken : ℕ) (r : Source) : Type 0 where
  written : r ≡ moved_on before taken → Passed before taken r
  lost : r ≡ record { left = 0; at = before.end; end = before.end; begun = before.begun; unread = before.unread; unwritten = true } → Passed before taken r

-- how a program over lines ended, where of a line that got no answer `len` bytes are kept: nothing is left of the chunk and nothing may still
-- come. Where writing did not fail, `begun` says whether there is such a line; where reading did not fail either, there is none.
pub record Ended (r : Source) (len : ℕ) : Type 0 where
  pub nothing_comes : r.left ≡ 0
  pub nothing_left : r.at ≡ r.end
  pub told : r.unwritten ≡ false → r.begun ≡ ltb 0 len
  pub answered : r.unread ≡ false → r.unwritten ≡ false → len ≡ 0
