-- From an allocation to its table, worked out by hand: starts, reached cores, cut stretches and the order of pieces.
-- Assumes nothing.
use mathlib.Core.Path.{◌≡◌, refl}
use mathlib.Core.List.{List, [], ◌∷◌}
use Prim.Native.Nat.{ℕ, ◌+◌, ◌*◌}
use Rattle.rules.specs.Sum.{sum_to, lowest}
use Rattle.rules.specs.Piece.{Piece, numbers_of}
use Rattle.rules.specs.Moves.{insert}
use Rattle.rules.specs.Layout.{Walk, ahead, begun, stretch, reach_one, reach, meet_mark, meet_one, meet, visit_mark, visit, waiting, unvisited, next_core, visits, layout}
use Rattle.rules.specs.Table.{row, cells, cell_at, cut, insert_all, pieces_on, core_to, cores_to, table_of_cells, table_of}
use Rattle.rules.specs.Plan.{at}

abbrev piece : ℕ → ℕ → ℕ → ℕ → Piece
piece core task start len = record { core = core; task = task; start = start; len = len }

-- in ascending number: 3 + 4 + 5 run before the fourth
ahead_none : ahead 0 (at (3 ∷ 4 ∷ 5 ∷ 6 ∷ [])) 0 ∷ ahead 0 (at (3 ∷ 4 ∷ 5 ∷ 6 ∷ [])) 3 ∷ [] ≡ 0 ∷ 12 ∷ []
unfolding ahead sum_to
ahead_none = refl

-- number 2 first: nothing before it, its 5 before 0, and it runs once alone before 3
ahead_first :
    ahead 3 (at (3 ∷ 4 ∷ 5 ∷ 6 ∷ [])) 2 ∷ ahead 3 (at (3 ∷ 4 ∷ 5 ∷ 6 ∷ [])) 0 ∷ ahead 3 (at (3 ∷ 4 ∷ 5 ∷ 6 ∷ [])) 1 ∷ ahead 3 (at (3 ∷ 4 ∷ 5 ∷ 6 ∷ [])) 3 ∷ [] ≡
    0 ∷ 5 ∷ 8 ∷ 12 ∷ []
unfolding ahead sum_to
ahead_first = refl

-- how far the visits have come at the number j: as a core visited, reached; as a task met; as a core its start and its first task plus 1
abbrev seen : Walk → ℕ → List ℕ
seen w j = w.visited j ∷ w.reached j ∷ w.met j ∷ w.start j ∷ w.first j ∷ []

begun_value : seen begun 0 ∷ seen begun 7 ∷ [] ≡ (0 ∷ 0 ∷ 0 ∷ 0 ∷ 0 ∷ []) ∷ (0 ∷ 0 ∷ 0 ∷ 0 ∷ 0 ∷ []) ∷ []
unfolding begun
begun_value = refl

-- a walk that tells its five parts apart
abbrev parts : Walk
parts = record { visited = λ j. 11; reached = λ j. 12; met = λ t. 13; start = λ j. 14; first = λ j. 15 }

-- task 1 has 4, 5 and 6 units on the cores 0, 1 and 2; met on core 1 at 20, it runs there until 25, on core 0 until 29, on core 2 from then on
reach_values :
    seen (reach_one 2 3 (cell_at 3 (0 ∷ 0 ∷ 0 ∷ 4 ∷ 5 ∷ 6 ∷ [])) 1 1 20 2 parts) 2 ∷
    seen (reach_one 2 3 (cell_at 3 (0 ∷ 0 ∷ 0 ∷ 4 ∷ 5 ∷ 6 ∷ [])) 1 1 20 2 parts) 0 ∷
    seen (reach_one 2 3 (cell_at 3 (0 ∷ 0 ∷ 0 ∷ 4 ∷ 5 ∷ 6 ∷ [])) 1 1 20 0 parts) 0 ∷
    seen (reach_one 2 3 (cell_at 3 (0 ∷ 0 ∷ 0 ∷ 4 ∷ 5 ∷ 6 ∷ [])) 1 1 20 1 parts) 1 ∷
    seen (reach_one 2 3 (cell_at 3 (0 ∷ 0 ∷ 0 ∷ 4 ∷ 5 ∷ 6 ∷ [])) 0 1 20 2 parts) 2 ∷ [] ≡
    (11 ∷ 1 ∷ 13 ∷ 29 ∷ 2 ∷ []) ∷
    (11 ∷ 12 ∷ 13 ∷ 14 ∷ 15 ∷ []) ∷
    (11 ∷ 1 ∷ 13 ∷ 25 ∷ 2 ∷ []) ∷
    (11 ∷ 12 ∷ 13 ∷ 14 ∷ 15 ∷ []) ∷
    (11 ∷ 12 ∷ 13 ∷ 14 ∷ 15 ∷ []) ∷ []
unfolding reach_one ahead sum_to
reach_values = refl

-- a task is met, a core is visited and so reached; the rest stays
mark_values :
    seen (meet_mark 2 3 (λ i j. 0) 5 parts) 5 ∷ seen (meet_mark 2 3 (λ i j. 0) 5 parts) 4 ∷ seen (visit_mark 2 3 (λ i j. 0) 5 parts) 5 ∷ seen (visit_mark 2 3 (λ i j. 0) 5 parts) 4 ∷ [] ≡
    (11 ∷ 12 ∷ 1 ∷ 14 ∷ 15 ∷ []) ∷
    (11 ∷ 12 ∷ 13 ∷ 14 ∷ 15 ∷ []) ∷
    (1 ∷ 1 ∷ 13 ∷ 14 ∷ 15 ∷ []) ∷
    (11 ∷ 12 ∷ 13 ∷ 14 ∷ 15 ∷ []) ∷ []
unfolding meet_mark visit_mark
mark_values = refl

-- F 10, six tasks, five cores. Task 0 joins the cores 0 and 2, task 1 the cores 1, 2 and 3; core 4 is a group of its own.
group_cells : List ℕ
group_cells =
    3 ∷ 0 ∷ 2 ∷ 0 ∷ 0 ∷
    0 ∷ 1 ∷ 4 ∷ 2 ∷ 0 ∷
    4 ∷ 0 ∷ 0 ∷ 0 ∷ 0 ∷
    0 ∷ 0 ∷ 0 ∷ 0 ∷ 2 ∷
    0 ∷ 0 ∷ 0 ∷ 0 ∷ 3 ∷
    0 ∷ 2 ∷ 0 ∷ 0 ∷ 0 ∷ []

-- core 0 is visited, and task 0 reached core 2 where it ended: at 3
visit_one :
    seen (visits 6 5 (cell_at 5 group_cells) 1) 0 ∷
    seen (visits 6 5 (cell_at 5 group_cells) 1) 1 ∷
    seen (visits 6 5 (cell_at 5 group_cells) 1) 2 ∷
    seen (visits 6 5 (cell_at 5 group_cells) 1) 3 ∷ [] ≡
    (1 ∷ 1 ∷ 1 ∷ 0 ∷ 0 ∷ []) ∷
    (0 ∷ 0 ∷ 0 ∷ 0 ∷ 0 ∷ []) ∷
    (0 ∷ 1 ∷ 1 ∷ 3 ∷ 1 ∷ []) ∷
    (0 ∷ 0 ∷ 0 ∷ 0 ∷ 0 ∷ []) ∷ []
unfolding group_cells sum_to lowest ahead begun stretch reach_one reach meet_mark meet_one meet visit_mark visit waiting unvisited next_core visits
visit_one = refl

-- the reached core 2 comes before core 1; there task 1, met at 5, ends at 9, runs on core 1 then, and on core 3 after that
visit_two :
    seen (visits 6 5 (cell_at 5 group_cells) 2) 0 ∷
    seen (visits 6 5 (cell_at 5 group_cells) 2) 1 ∷
    seen (visits 6 5 (cell_at 5 group_cells) 2) 2 ∷
    seen (visits 6 5 (cell_at 5 group_cells) 2) 3 ∷
    seen (visits 6 5 (cell_at 5 group_cells) 2) 4 ∷ [] ≡
    (1 ∷ 1 ∷ 1 ∷ 0 ∷ 0 ∷ []) ∷
    (0 ∷ 1 ∷ 1 ∷ 9 ∷ 2 ∷ []) ∷
    (1 ∷ 1 ∷ 1 ∷ 3 ∷ 1 ∷ []) ∷
    (0 ∷ 1 ∷ 0 ∷ 10 ∷ 2 ∷ []) ∷
    (0 ∷ 0 ∷ 0 ∷ 0 ∷ 0 ∷ []) ∷ []
unfolding group_cells sum_to lowest ahead begun stretch reach_one reach meet_mark meet_one meet visit_mark visit waiting unvisited next_core visits
visit_two = refl

-- of the reached cores 1 and 3 the lower is next; a core waits if it is reached and not visited
next_values :
    next_core 6 5 (cell_at 5 group_cells) (visits 6 5 (cell_at 5 group_cells) 2) ∷
    waiting 6 5 (cell_at 5 group_cells) (visits 6 5 (cell_at 5 group_cells) 2) 2 ∷
    waiting 6 5 (cell_at 5 group_cells) (visits 6 5 (cell_at 5 group_cells) 2) 3 ∷
    waiting 6 5 (cell_at 5 group_cells) (visits 6 5 (cell_at 5 group_cells) 2) 4 ∷
    unvisited 6 5 (cell_at 5 group_cells) (visits 6 5 (cell_at 5 group_cells) 2) 2 ∷
    unvisited 6 5 (cell_at 5 group_cells) (visits 6 5 (cell_at 5 group_cells) 2) 3 ∷
    unvisited 6 5 (cell_at 5 group_cells) (visits 6 5 (cell_at 5 group_cells) 2) 4 ∷
    next_core 6 5 (cell_at 5 group_cells) (visits 6 5 (cell_at 5 group_cells) 4) ∷ [] ≡ 1 ∷ 0 ∷ 1 ∷ 0 ∷ 0 ∷ 1 ∷ 1 ∷ 4 ∷ []
unfolding group_cells sum_to lowest ahead begun stretch reach_one reach meet_mark meet_one meet visit_mark visit waiting unvisited next_core visits
next_values = refl

-- where each core starts once all are visited, and where task 5 starts on core 1, after task 1
layout_values :
    (layout 6 5 (cell_at 5 group_cells)).start 1 ∷
    (layout 6 5 (cell_at 5 group_cells)).start 3 ∷
    (layout 6 5 (cell_at 5 group_cells)).start 4 ∷
    (layout 6 5 (cell_at 5 group_cells)).first 4 ∷
    (layout 6 5 (cell_at 5 group_cells)).visited 4 ∷
    stretch 6 5 (cell_at 5 group_cells) (layout 6 5 (cell_at 5 group_cells)) 5 1 ∷ [] ≡ 9 ∷ 10 ∷ 0 ∷ 0 ∷ 1 ∷ 10 ∷ []
unfolding group_cells sum_to lowest ahead begun stretch reach_one reach meet_mark meet_one meet visit_mark visit waiting unvisited next_core visits layout
layout_values = refl

cells_value : cells 2 3 (λ i j. 10 * i + j) ≡ 0 ∷ 1 ∷ 2 ∷ 10 ∷ 11 ∷ 12 ∷ []
unfolding cells row
cells_value = refl

-- the third of the second row of three; past the end there is nothing
cell_values : cell_at 3 (0 ∷ 1 ∷ 2 ∷ 10 ∷ 11 ∷ 12 ∷ []) 1 2 ∷ cell_at 3 (0 ∷ 1 ∷ 2 ∷ []) 1 0 ∷ [] ≡ 12 ∷ 0 ∷ []
cell_values = refl

-- F 10, from 7 on: three units end at F exactly, four cross it by one
cut_edges : cut 10 1 2 7 3 ∷ cut 10 1 2 7 4 ∷ cut 10 1 2 0 10 ∷ [] ≡
    (piece 1 2 7 3 ∷ []) ∷ (piece 1 2 7 3 ∷ piece 1 2 0 1 ∷ []) ∷ (piece 1 2 0 10 ∷ []) ∷ []
unfolding cut
cut_edges = refl

insert_all_lem : insert_all (piece 0 1 7 3 ∷ piece 0 1 0 1 ∷ []) (piece 0 2 4 3 ∷ []) ≡ piece 0 1 0 1 ∷ piece 0 2 4 3 ∷ piece 0 1 7 3 ∷ []
unfolding insert_all insert
insert_all_lem = refl

-- task 1 ends on core 1 at F exactly and starts on core 3 at F, which is 0; task 5 follows it on core 1 and so is listed before it
group_table : numbers_of (table_of 10 6 5 (cell_at 5 group_cells)) ≡
    0 ∷ 0 ∷ 0 ∷ 3 ∷
    0 ∷ 2 ∷ 3 ∷ 4 ∷
    1 ∷ 5 ∷ 0 ∷ 2 ∷
    1 ∷ 1 ∷ 9 ∷ 1 ∷
    2 ∷ 0 ∷ 3 ∷ 2 ∷
    2 ∷ 1 ∷ 5 ∷ 4 ∷
    3 ∷ 1 ∷ 0 ∷ 2 ∷
    4 ∷ 3 ∷ 0 ∷ 2 ∷
    4 ∷ 4 ∷ 2 ∷ 3 ∷ []
unfolding group_cells sum_to lowest ahead begun stretch reach_one reach meet_mark meet_one meet visit_mark visit waiting unvisited next_core visits layout row cells cut insert_all pieces_on core_to cores_to table_of_cells table_of insert
group_table = refl

-- F 12: core 1 is reached through task 2 at 6, which runs before the lower task 1; that one, 11 to 14, is cut
higher_first : numbers_of (table_of 12 3 2 (cell_at 2 (2 ∷ 0 ∷ 0 ∷ 3 ∷ 4 ∷ 5 ∷ []))) ≡
    0 ∷ 0 ∷ 0 ∷ 2 ∷
    0 ∷ 2 ∷ 2 ∷ 4 ∷
    1 ∷ 1 ∷ 0 ∷ 2 ∷
    1 ∷ 2 ∷ 6 ∷ 5 ∷
    1 ∷ 1 ∷ 11 ∷ 1 ∷ []
unfolding sum_to lowest ahead begun stretch reach_one reach meet_mark meet_one meet visit_mark visit waiting unvisited next_core visits layout row cells cut insert_all pieces_on core_to cores_to table_of_cells table_of insert
higher_first = refl

-- F 10: core 2 is reached through task 0 at 4 and core 1 through task 2 at 12; the stretch of task 2 on core 2, 7 to 12, is cut
reached_later : numbers_of (table_of 10 3 3 (cell_at 3 (4 ∷ 0 ∷ 3 ∷ 6 ∷ 0 ∷ 0 ∷ 0 ∷ 4 ∷ 5 ∷ []))) ≡
    0 ∷ 0 ∷ 0 ∷ 4 ∷
    0 ∷ 1 ∷ 4 ∷ 6 ∷
    1 ∷ 2 ∷ 2 ∷ 4 ∷
    2 ∷ 2 ∷ 0 ∷ 2 ∷
    2 ∷ 0 ∷ 4 ∷ 3 ∷
    2 ∷ 2 ∷ 7 ∷ 3 ∷ []
unfolding sum_to lowest ahead begun stretch reach_one reach meet_mark meet_one meet visit_mark visit waiting unvisited next_core visits layout row cells cut insert_all pieces_on core_to cores_to table_of_cells table_of insert
reached_later = refl
