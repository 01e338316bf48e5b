-- Frame tables, piece by piece and pair by pair, the table check and the move count, worked out by hand.
-- Assumes nothing.
use mathlib.Core.Path.{◌≡◌, refl}
use mathlib.Core.Bool.{true, false}
use mathlib.Core.List.{List, [], ◌∷◌, ◌++◌}
use Prim.Native.Nat.{ℕ, zero, suc}
use lib.Dec.{eqb}
use Rattle.rules.specs.Sum.{sum_to}
use Rattle.rules.specs.Piece.{Piece, piece_at, first_pieces, whole_pieces, pieces_of, numbers_of}
use Rattle.rules.specs.FrameTable.{every, every_two, sound, ordered, overlap, core_apart, task_apart, frame_pieces, frame_table}
use Rattle.rules.specs.Moves.{insert, by_start, changes_after, changes, moves}
use Rattle.rules.specs.Tests.{bad_frame, bad_cores}
use Rattle.rules.specs.Check.{check_answer, moves_answer}
use Rattle.rules.specs.declared.Answer.TheVariants.{Accepted, FrameLength, CoreCount, NotTable}

abbrev piece : ℕ → ℕ → ℕ → ℕ → Piece
piece core task start len = record { core = core; task = task; start = start; len = len }

-- "each (core, task, start, length)"; nine numbers hold two whole pieces
pieces_value : pieces_of (1 ∷ 2 ∷ 3 ∷ 4 ∷ 5 ∷ 6 ∷ 7 ∷ 8 ∷ 9 ∷ []) ≡ piece 1 2 3 4 ∷ piece 5 6 7 8 ∷ []
unfolding first_pieces
pieces_value = refl

first_pieces_lem : first_pieces (1 ∷ 2 ∷ 3 ∷ 4 ∷ 5 ∷ 6 ∷ 7 ∷ 8 ∷ []) 1 ≡ piece 1 2 3 4 ∷ []
unfolding first_pieces
first_pieces_lem = refl

-- past the end there is nothing
past_value : piece_at [] 0 ≡ piece 0 0 0 0
past_value = refl

whole_values : whole_pieces (1 ∷ 2 ∷ 3 ∷ []) ∷ whole_pieces (1 ∷ 2 ∷ 3 ∷ 4 ∷ []) ∷ whole_pieces (1 ∷ 2 ∷ 3 ∷ 4 ∷ 5 ∷ 6 ∷ 7 ∷ []) ∷ [] ≡ 0 ∷ 1 ∷ 1 ∷ []
whole_values = refl

numbers_value : numbers_of (piece 1 2 3 4 ∷ piece 5 6 7 8 ∷ []) ≡ 1 ∷ 2 ∷ 3 ∷ 4 ∷ 5 ∷ 6 ∷ 7 ∷ 8 ∷ []
numbers_value = refl

-- the first, the last and the only one that fails; none fails of none
every_values :
    every (λ p. eqb p.core 1) (piece 1 0 0 1 ∷ piece 1 1 0 1 ∷ []) ∷
    every (λ p. eqb p.core 1) (piece 0 0 0 1 ∷ piece 1 1 0 1 ∷ []) ∷
    every (λ p. eqb p.core 1) (piece 1 0 0 1 ∷ piece 0 1 0 1 ∷ []) ∷
    every (λ p. eqb p.core 1) [] ∷ [] ≡ true ∷ false ∷ false ∷ true ∷ []
unfolding every
every_values = refl

-- "every two": the last two alone are out of order, the first and the last alone are, and "the earlier first"
two_values :
    every_two ordered (piece 0 0 0 1 ∷ piece 1 0 0 1 ∷ piece 2 0 0 1 ∷ []) ∷
    every_two ordered (piece 0 0 0 1 ∷ piece 2 0 0 1 ∷ piece 1 0 0 1 ∷ []) ∷
    every_two ordered (piece 1 0 0 1 ∷ piece 0 0 0 1 ∷ piece 1 0 0 1 ∷ []) ∷
    every_two core_apart (piece 0 0 0 1 ∷ piece 1 1 0 1 ∷ piece 0 2 0 1 ∷ []) ∷
    every_two ordered [] ∷ [] ≡ true ∷ false ∷ false ∷ false ∷ true ∷ []
unfolding every every_two ordered overlap core_apart
two_values = refl

-- F 9, m 2: core 1 and 2, task 63 and 64, length 1 and 0, start + length 9 and 10
sound_edges :
    sound 9 2 (piece 1 63 8 1) ∷
    sound 9 2 (piece 2 0 0 1) ∷
    sound 9 2 (piece 0 64 0 1) ∷
    sound 9 2 (piece 0 0 0 0) ∷
    sound 9 2 (piece 0 0 0 9) ∷
    sound 9 2 (piece 0 0 8 2) ∷
    sound 9 2 (piece 0 0 3 7) ∷
    sound 9 2 (piece 0 0 9 1) ∷ [] ≡ true ∷ false ∷ false ∷ false ∷ true ∷ false ∷ false ∷ false ∷ []
unfolding sound
sound_edges = refl

-- "in order of core and then start": a later core may start earlier, two of one core may not
ordered_edges :
    ordered (piece 0 7 8 1) (piece 1 0 2 1) ∷
    ordered (piece 1 0 2 1) (piece 0 7 8 1) ∷
    ordered (piece 1 7 2 9) (piece 1 0 3 1) ∷
    ordered (piece 1 0 3 1) (piece 1 7 2 9) ∷
    ordered (piece 1 0 3 1) (piece 1 0 3 1) ∷
    ordered (piece 1 0 0 1) (piece 0 0 0 1) ∷ [] ≡ true ∷ false ∷ true ∷ false ∷ true ∷ false ∷ []
unfolding ordered
ordered_edges = refl

-- 2 to 5 beside 5 to 7, 4 to 7, 0 to 2, 0 to 3, 3 to 4 and itself
overlap_edges :
    overlap (piece 0 0 2 3) (piece 0 0 5 2) ∷
    overlap (piece 0 0 2 3) (piece 0 0 4 3) ∷
    overlap (piece 0 0 2 3) (piece 0 0 0 2) ∷
    overlap (piece 0 0 2 3) (piece 0 0 0 3) ∷
    overlap (piece 0 0 2 3) (piece 0 0 3 1) ∷
    overlap (piece 0 0 3 1) (piece 0 0 2 3) ∷
    overlap (piece 0 0 2 3) (piece 0 0 2 3) ∷ [] ≡ false ∷ true ∷ false ∷ true ∷ true ∷ true ∷ true ∷ []
unfolding overlap
overlap_edges = refl

-- one core or another, at once or one after another
core_apart_values :
    core_apart (piece 0 0 2 3) (piece 0 1 4 3) ∷
    core_apart (piece 0 0 2 3) (piece 1 0 4 3) ∷
    core_apart (piece 1 0 2 3) (piece 0 0 4 3) ∷
    core_apart (piece 0 0 2 3) (piece 0 1 5 3) ∷ [] ≡ false ∷ true ∷ true ∷ true ∷ []
unfolding overlap core_apart
core_apart_values = refl

-- one task or another, "on any cores"
task_apart_values :
    task_apart (piece 0 3 2 3) (piece 1 3 4 3) ∷
    task_apart (piece 0 3 2 3) (piece 0 4 4 3) ∷
    task_apart (piece 0 4 2 3) (piece 0 3 4 3) ∷
    task_apart (piece 0 3 2 3) (piece 1 3 5 3) ∷ [] ≡ false ∷ true ∷ true ∷ true ∷ []
unfolding overlap task_apart
task_apart_values = refl

-- c pieces of one unit, one after another on core 0
steps : ℕ → List Piece
steps zero = []
steps (suc c) = steps c ++ (piece 0 0 c 1 ∷ [])

-- "At most 95 pieces"
most_pieces : frame_pieces 96 1 (steps 95) ∷ frame_pieces 96 1 (steps 96) ∷ [] ≡ true ∷ false ∷ []
unfolding steps every every_two sound ordered overlap core_apart task_apart frame_pieces
most_pieces = refl

-- each of the other four faults alone: a core that is not there, no order, two at once on a core, a task twice at once
one_fault :
    frame_pieces 9 2 (piece 0 0 0 5 ∷ piece 1 1 4 5 ∷ []) ∷
    frame_pieces 9 1 (piece 0 0 0 5 ∷ piece 1 1 4 5 ∷ []) ∷
    frame_pieces 9 2 (piece 1 1 4 5 ∷ piece 0 0 0 5 ∷ []) ∷
    frame_pieces 9 2 (piece 0 0 0 5 ∷ piece 0 1 4 5 ∷ []) ∷
    frame_pieces 9 2 (piece 0 1 0 5 ∷ piece 1 1 4 5 ∷ []) ∷
    frame_pieces 9 2 [] ∷ [] ≡ true ∷ false ∷ false ∷ false ∷ false ∷ true ∷ []
unfolding every every_two sound ordered overlap core_apart task_apart frame_pieces
one_fault = refl

-- "ending inside a piece": by one, two and three numbers
inside_values :
    frame_table 9 2 (0 ∷ 4 ∷ 0 ∷ 5 ∷ []) ∷
    frame_table 9 2 (0 ∷ 4 ∷ 0 ∷ 5 ∷ 1 ∷ []) ∷
    frame_table 9 2 (0 ∷ 4 ∷ 0 ∷ 5 ∷ 1 ∷ 1 ∷ []) ∷
    frame_table 9 2 (0 ∷ 4 ∷ 0 ∷ 5 ∷ 1 ∷ 1 ∷ 1 ∷ []) ∷
    frame_table 9 2 (0 ∷ 4 ∷ 0 ∷ 10 ∷ []) ∷
    frame_table 9 2 [] ∷ [] ≡ true ∷ false ∷ false ∷ false ∷ false ∷ true ∷ []
unfolding every every_two sound ordered overlap core_apart task_apart frame_pieces frame_table first_pieces
inside_values = refl

-- before the first that starts later, and after one that starts at the same instant
insert_values : insert (piece 9 9 4 1) (piece 0 0 2 1 ∷ piece 1 0 4 1 ∷ piece 2 0 6 1 ∷ []) ≡ piece 0 0 2 1 ∷ piece 1 0 4 1 ∷ piece 9 9 4 1 ∷ piece 2 0 6 1 ∷ []
unfolding insert
insert_values = refl

by_start_value : by_start 3 (piece 0 3 6 1 ∷ piece 1 2 3 1 ∷ piece 1 3 2 1 ∷ piece 2 3 4 1 ∷ []) ≡ piece 1 3 2 1 ∷ piece 2 3 4 1 ∷ piece 0 3 6 1 ∷ []
unfolding insert by_start
by_start_value = refl

-- the cores 1, 1, 2, 1 after core 1, and after core 0; the first piece has none before it
changes_values :
    changes_after 1 (piece 1 0 0 1 ∷ piece 1 0 1 1 ∷ piece 2 0 2 1 ∷ piece 1 0 3 1 ∷ []) ∷
    changes_after 0 (piece 1 0 0 1 ∷ piece 1 0 1 1 ∷ piece 2 0 2 1 ∷ piece 1 0 3 1 ∷ []) ∷
    changes (piece 1 0 0 1 ∷ piece 1 0 1 1 ∷ piece 2 0 2 1 ∷ piece 1 0 3 1 ∷ []) ∷
    changes (piece 4 0 0 1 ∷ piece 1 0 1 1 ∷ []) ∷
    changes [] ∷ [] ≡ 2 ∷ 3 ∷ 2 ∷ 1 ∷ 0 ∷ []
unfolding changes_after changes
changes_values = refl

-- "the sum over tasks", of which 63 is the last
moves_edges :
    moves (piece 0 63 0 1 ∷ piece 1 63 1 1 ∷ []) ∷
    moves (piece 0 64 0 1 ∷ piece 1 64 1 1 ∷ []) ∷
    moves (piece 0 0 0 1 ∷ piece 0 5 3 1 ∷ piece 1 0 1 1 ∷ piece 1 5 1 1 ∷ []) ∷ [] ≡ 1 ∷ 0 ∷ 2 ∷ []
unfolding insert by_start changes_after changes moves sum_to
moves_edges = refl

-- task 0 runs on the cores 0 and 2, task 2 on the cores 2, 1 and 2
table : List ℕ
table =
    0 ∷ 0 ∷ 0 ∷ 4 ∷
    0 ∷ 1 ∷ 4 ∷ 6 ∷
    1 ∷ 2 ∷ 2 ∷ 4 ∷
    2 ∷ 2 ∷ 0 ∷ 2 ∷
    2 ∷ 0 ∷ 4 ∷ 3 ∷
    2 ∷ 2 ∷ 7 ∷ 3 ∷ []

-- 1 before 2 before 8; the table wants a frame of ten and three cores
check_values :
    check_answer 10 3 table ∷ check_answer 0 0 (1 ∷ []) ∷ check_answer 10 17 (1 ∷ []) ∷ check_answer 9 3 table ∷ check_answer 10 2 table ∷ [] ≡
    Accepted ∷ FrameLength ∷ CoreCount ∷ NotTable ∷ NotTable ∷ []
unfolding check_answer table every every_two sound ordered overlap core_apart task_apart frame_pieces frame_table first_pieces bad_frame bad_cores
check_values = refl

-- the moves beside an acceptance; beside each refusal 0, although the pieces have three
moves_values :
    moves_answer 10 3 table ∷ moves_answer 1000001 3 table ∷ moves_answer 10 17 table ∷ moves_answer 9 3 table ∷ [] ≡
    record { answer = Accepted; moves = 3 } ∷
    record { answer = FrameLength; moves = 0 } ∷
    record { answer = CoreCount; moves = 0 } ∷
    record { answer = NotTable; moves = 0 } ∷ []
unfolding check_answer moves_answer table every every_two sound ordered overlap core_apart task_apart frame_pieces frame_table first_pieces bad_frame bad_cores insert by_start changes_after changes moves sum_to
moves_values = refl
