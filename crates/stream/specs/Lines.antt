-- Document 01, "Lines": "one frame a line .. ended by a line feed", "Out, one line for each". A text is taken byte by byte. The program says
-- by A which answers a line may get: A l a where a is one for the line l.
-- Assumes nothing.
use Rattle.std.specs.Prelude.{◌≡◌, ℕ, ◌+◌, ◌-◌, ◌≤◌, ◌<◌, min, List, [], ◌∷◌, ◌++◌, length, take, drop}
use Rattle.stream.specs.declared.line.Stage.{Stage}

-- after the begun line k comes the byte b: an answer line and a line feed are written if it ends the line, and the line k' is begun
pub data Step (A : List ℕ → List ℕ → Type 0) (b : ℕ) (k : List ℕ) : List ℕ → List ℕ → Type 0 where
  kept : (b ≡ 10 → ⊥) → Step A b k [] (k ++ (b ∷ []))
  ended : (a : List ℕ) → b ≡ 10 → A k a → Step A b k (a ++ (10 ∷ [])) []

-- Lines A l t o k: after the begun line l comes the text t; o is what is written, and k is the line that is begun at its end
pub data Lines (A : List ℕ → List ℕ → Type 0) (l : List ℕ) : List ℕ → List ℕ → List ℕ → Type 0 where
  none : Lines A l [] [] l
  more : {t o k a k' : List ℕ} (b : ℕ) → Lines A l t o k → Step A b k a k' → Lines A l (t ++ (b ∷ [])) (o ++ a) k'

-- Answers A text output: the whole of what is written for a text. "A last line without one still counts if it has a byte": the line that is
-- begun at its end is answered like the others, by its answer line and a line feed. One without a byte is none.
pub data Answers (A : List ℕ → List ℕ → Type 0) (text : List ℕ) : List ℕ → Type 0 where
  all_ended : {o : List ℕ} → Lines A [] text o [] → Answers A text o
  last_begun : {o k : List ℕ} (a : List ℕ) → Lines A [] text o k → 0 < length k → A k a → Answers A text (o ++ (a ++ (10 ∷ [])))

-- the first len bytes of a buffer are those that are kept of the line l: all, or so many as the buffer has room for
pub record Holds (buffer : List ℕ) (len : ℕ) (l : List ℕ) : Type 0 where
  pub count : len ≡ min (length l) (length buffer)
  pub bytes : take len buffer ≡ take (length buffer) l

-- the bytes x were written into an output at the place `used`, and r is where they end; before and after them it holds what it held
pub record Written (x before : List ℕ) (used : ℕ) (after : List ℕ) (r : ℕ) : Type 0 where
  pub front : take r after ≡ take used before ++ x
  pub rest : drop r after ≡ drop r before
  pub end : r ≡ used + length x

-- an answer line of the line l and a line feed were written
pub record AnsweredLine (A : List ℕ → List ℕ → Type 0) (l before : List ℕ) (used : ℕ) (after : List ℕ) (r : ℕ) : Type 0 where
  pub line : List ℕ
  pub answer : A l line
  pub written : Written (line ++ (10 ∷ [])) before used after r

-- the same of the line that the buffer holds, where an answer line has at most `room` bytes with its line feed
pub record Answered (A : List ℕ → List ℕ → Type 0) (room : ℕ) (buffer : List ℕ) (len : ℕ) (before : List ℕ) (used : ℕ) (after : List ℕ) (r : ℕ) : Type 0 where
  pub few : r ≤ used + room
  pub not_before : used ≤ r
  pub answered : (l : List ℕ) → Holds buffer len l → AnsweredLine A l before used after r

-- a text was taken after the begun line l
pub record FedLine (A : List ℕ → List ℕ → Type 0) (l text out : List ℕ) (used : ℕ) (bufferAfter outAfter : List ℕ) (len usedAfter : ℕ) : Type 0 where
  pub answers : List ℕ
  pub begun : List ℕ
  pub lines : Lines A l text answers begun
  pub holds : Holds bufferAfter len begun
  pub written : Written answers out used outAfter usedAfter

-- of a chunk the bytes from the place `from` on were taken up to the next line feed and with it, or all: at most one answer line
pub record Took (A : List ℕ → List ℕ → Type 0) (room : ℕ) (chunk : List ℕ) (from : ℕ) (buffer : List ℕ) (len : ℕ) (out : List ℕ) (used : ℕ) (bufferAfter outAfter : List ℕ) (r : Stage) : Type 0 where
  pub few : r.len ≤ length buffer
  pub within : r.used ≤ used + room
  pub not_before : used ≤ r.used
  pub taken : r.taken ≤ length chunk
  pub some : from + 1 ≤ r.taken
  pub took : (l : List ℕ) → Holds buffer len l → FedLine A l (take (r.taken - from) (drop from chunk)) out used bufferAfter outAfter r.len r.used

-- of a chunk so many bytes as r says were taken, at least one where there is one
pub record Fed (A : List ℕ → List ℕ → Type 0) (chunk buffer : List ℕ) (len : ℕ) (out : List ℕ) (used : ℕ) (bufferAfter outAfter : List ℕ) (r : Stage) : Type 0 where
  pub few : r.len ≤ length buffer
  pub within : r.used ≤ length out
  pub taken : r.taken ≤ length chunk
  pub some : min 1 (length chunk) ≤ r.taken
  pub fed : (l : List ℕ) → Holds buffer len l → FedLine A l (take r.taken chunk) out used bufferAfter outAfter r.len r.used
