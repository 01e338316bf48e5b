-- A run of a program over lines, round by round, as its loop has it: a chunk is asked for by `more`, its lines are fed to the program's own
-- step, and the answers are passed on by `pass_on`. Each round begins with the input, the kept line and its count as the one before left them.
-- What the system reads and writes no contract can say: a run speaks of the bytes that stood in memory, those that came into the buffer and
-- those that were handed to the system to be written.
-- Assumes nothing.
use Rattle.std.specs.Prelude.{◌≡◌, false, ℕ, ◌-◌, ◌<◌, List, [], ◌++◌, take, drop}
use Rattle.stream.specs.Lines.{Fed}
use Rattle.stream.specs.Reading.{started, moved_on, Read, came, ended, failed, stopped, Next, rest, read, Handed}
use Rattle.stream.specs.declared.input.Source.{Source}
use Rattle.stream.specs.declared.line.Stage.{Stage}

-- the bytes that came where a chunk was asked for: those that were read. The line feed that a last line is given is none of them.
abbrev pub bytes_read : {before : Source} {input : List ℕ} {r : Source} → Read before input r → List ℕ
bytes_read {input = input} (came n h g f e) = take n input
bytes_read (ended h l) = []
bytes_read (failed e) = []
bytes_read (stopped h e) = []

abbrev pub bytes_come : {before : Source} {was input : List ℕ} {r : Source} → Next before was input r → List ℕ
bytes_come (rest h g e f) = []
bytes_come (read h q) = bytes_read q

-- Run A line₀ x y input s line len: up to here the bytes x came, and y were handed on to be written; the buffer holds `input`, s is the state of the
-- input, and `len` bytes of the begun line are kept in `line`. No writing failed.
pub data Run (A : List ℕ → List ℕ → Type 0) (line₀ : List ℕ) : List ℕ → List ℕ → List ℕ → Source → List ℕ → ℕ → Type 0 where
  begins : {input : List ℕ} → Run A line₀ [] [] input started line₀ 0
  round : {x y was input line line₁ out out₁ : List ℕ} {s h r : Source} {len : ℕ} {g : Stage} → Run A line₀ x y was s line len → (p : Handed s was input h) → h.at < h.end
      → Fed A (take (h.end - h.at) (drop h.at input)) line len out 0 line₁ out₁ g
      → r ≡ moved_on h g.taken
      → Run A line₀ (x ++ bytes_come p.next) (y ++ take g.used out₁) input r line₁ g.len

-- there was a run up to here
pub record History (A : List ℕ → List ℕ → Type 0) (line₀ input : List ℕ) (s : Source) (line : List ℕ) (len : ℕ) : Type 0 where
  pub bytes : List ℕ
  pub answers : List ℕ
  pub run : Run A line₀ bytes answers input s line len

-- and it has ended: asked once more, `more` handed out r
pub record Finished (A : List ℕ → List ℕ → Type 0) (line₀ input : List ℕ) (r : Source) (line : List ℕ) (len : ℕ) : Type 0 where
  pub was : List ℕ
  pub before : Source
  pub history : History A line₀ was before line len
  pub handed : Handed before was input r

-- how a program's loop ended that kept the rounds of a run, unless writing failed. Which bytes came and where the answers went is the
-- system's, and no promise says it.
pub record Kept (A : List ℕ → List ℕ → Type 0) (line₀ input : List ℕ) (r : Source) (line : List ℕ) (len : ℕ) : Type 0 where
  pub rounds : r.unwritten ≡ false → Finished A line₀ input r line len
