-- How the code puts pieces into the lent table: by start into the part of one core, with the rest moved on.
-- These make the proofs easy and need no belief.
-- Assumes nothing.
use Rattle.std.specs.Prelude.{◌≡◌, List, ◌++◌, ℕ, ◌+◌, ◌*◌, ◌≤◌, ◌<◌, length, get_or, take, drop}
use Rattle.std.proofs.Math.Seq.{slice}
use Rattle.rules.specs.Sizes.{max_frame, max_tasks, max_cores}
use Rattle.rules.specs.Piece.{Piece, numbers_of}
use Rattle.rules.specs.Sum.{sum_to}
use Rattle.rules.specs.Table.{cut, insert_all, pieces_on, core_to, cores_to}
use Rattle.rules.specs.Layout.{Walk}
use Rattle.stretches.specs.Cell.{cell}
use Rattle.layout.specs.Ahead.{number_of}
use Rattle.layout.specs.Walking.{root, walk_of, latest_start}
use Rattle.layout.specs.declared.pieces.Part.{Part}
use Rattle.layout.specs.declared.laying.Core.{Core}
use Rattle.layout.specs.declared.walking.Walked.{Walked}

-- no units make more pieces: one for each task on each core, and one more a core
abbrev pub most_pieces : ℕ
most_pieces = max_tasks * max_cores + max_cores

-- a list of `long` numbers has room for k pieces, and k is no more than there can be
pub record Room (k long : ℕ) : Type 0 where
  pub few : k ≤ most_pieces
  pub room_for : 4 * k ≤ long

-- the place r of a piece that starts at `start` among the pieces from `from` up to `count`
pub record Placed (l : List ℕ) (from count start r : ℕ) : Type 0 where
  pub low : from ≤ r
  pub high : r ≤ count
  pub before : (k : ℕ) → from ≤ k → k < r → get_or l (4 * k + 2) 0 ≤ start
  pub here : r < count → start < get_or l (4 * r + 2) 0

-- the numbers from the place i up to c moved on by four places
unfoldable pub gap : List ℕ → ℕ → ℕ → List ℕ
gap l i c = take (i + 4) l ++ (slice i c l ++ drop (c + 4) l)

-- the pieces ps are put in by start among the pieces from `from` up to `count`; what lay behind these is moved over
abbrev pub Inserts : ℕ → ℕ → List Piece → List ℕ → List ℕ → Type 0
Inserts from count ps before after =
    (a b : List Piece) (rest : List ℕ) → length a ≡ from → length a + length b ≡ count → before ≡ numbers_of a ++ (numbers_of b ++ rest) →
    after ≡ numbers_of a ++ (numbers_of (insert_all ps b) ++ drop (4 * length ps) rest)

-- the piece of the code's four numbers, and the pieces of the stretch that they stand for
abbrev pub piece_of : Part → Piece
piece_of p = record { core = p.core; task = p.task; start = p.start; len = p.len }

abbrev pub cut_of : ℕ → Part → List Piece
cut_of F p = cut F p.core p.task p.start p.len

-- a walk in which every core has this start and this first task: what is read of a walk for one core
abbrev pub alone : ℕ → ℕ → Walk
alone start first =
    record { visited = λ j. 0; reached = λ j. 0; met = λ t. 0; start = λ j. start; first = λ j. first }

-- the pieces of a task, and of the tasks below c, on a core
abbrev pub task_pieces : ℕ → ℕ → List ℕ → Core → ℕ → List Piece
task_pieces F n units on t = pieces_on F n n (cell units) (alone on.begin.at (number_of on.begin.first)) on.core t

abbrev pub core_pieces : ℕ → ℕ → List ℕ → Core → ℕ → List Piece
core_pieces F n units on c = core_to F n n (cell units) (alone on.begin.at (number_of on.begin.first)) on.core c

-- the pieces ps follow the first `from` pieces; what lay behind these is written over
abbrev pub Appends : ℕ → List Piece → List ℕ → List ℕ → Type 0
Appends from ps before after =
    (a : List Piece) (rest : List ℕ) → length a ≡ from → before ≡ numbers_of a ++ rest → after ≡ numbers_of a ++ (numbers_of ps ++ drop (4 * length ps) rest)

-- before the pieces of a core are laid
pub record OnCore (F n m : ℕ) (units : List ℕ) (on : Core) : Type 0 where
  pub frame_some : 1 ≤ F
  pub frame_most : F ≤ max_frame
  pub core_few : on.core < m
  pub start_few : on.begin.at ≤ latest_start max_cores
  pub first_few : number_of on.begin.first ≤ n
  pub column : sum_to n (λ i. cell units i on.core) ≤ F

-- core j as the walk has it, with `from` pieces before its own
abbrev pub core_of : Walked → ℕ → ℕ → Core
core_of s j from = record { core = j; begin = get_or s.begins j root; from = from }

-- the pieces of the cores below c
abbrev pub cores_pieces : ℕ → ℕ → ℕ → List ℕ → Walked → ℕ → List Piece
cores_pieces F n m units s c = cores_to F n m (cell units) (walk_of s) c

-- before the pieces of all cores are laid
pub record OnCores (F n m : ℕ) (units : List ℕ) (s : Walked) (long : ℕ) : Type 0 where
  pub frame_some : 1 ≤ F
  pub frame_most : F ≤ max_frame
  pub starts : (k : ℕ) → (get_or s.begins k root).at ≤ latest_start max_cores
  pub firsts : (k : ℕ) → number_of (get_or s.begins k root).first ≤ n
  pub columns : (j : ℕ) → j < m → sum_to n (λ i. cell units i j) ≤ F
  pub room : Room (length (cores_pieces F n m units s m)) long
