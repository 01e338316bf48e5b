-- P1, P5, P7 and P8: each has one allocation, and so one table.
-- Assumes nothing.
use mathlib.Core.Path.{◌≡◌, refl}
use mathlib.Core.List.{[], ◌∷◌}
use Prim.Native.Nat.{ℕ, ◌+◌, ◌≤◌}
use native.Mathlib.Omega.{arith}
use lib.Dec.{lit<}
use Rattle.rules.specs.Sum.{sum_to, lowest, first_at}
use Rattle.rules.specs.Sets.{has, union}
use Rattle.rules.specs.Excess.{group_budget, capacity, group_capacity}
use Rattle.rules.specs.Piece.{numbers_of}
use Rattle.rules.specs.Moves.{insert}
use Rattle.rules.specs.Layout.{ahead, begun, stretch, reach_one, reach, meet_mark, meet_one, meet, visit_mark, visit, waiting, unvisited, next_core, visits, layout}
use Rattle.rules.specs.Table.{row, cells, cell_at, cut, insert_all, pieces_on, core_to, cores_to, table_of_cells, table_of}
use Rattle.rules.specs.Tests.{tested_set, bad_frame, bad_cores, bad_tasks, empty_mask, past_cores, bad_budget, tested}
use Rattle.rules.specs.Settled.{OnlyAllocation, Only, tableP1}
use Rattle.rules.specs.declared.Answer.TheVariants.{Accepted}
use Rattle.rules.proofs.Computed.{inside_test, exact_test, within_test, allocation_computed, one_test, loop_free_computed, fit_test, no_group_computed}
use Rattle.rules.proofs.Settled.Sets.{Alloc, Passes, accepted_only}

pass1 : Passes 6 2 (4 ∷ 3 ∷ 5 ∷ []) (0b11 ∷ 0b01 ∷ 0b10 ∷ [])
unfolding tested tested_set bad_frame bad_cores bad_tasks empty_mask past_cores bad_budget first_at
pass1 before roomy = rw roomy

cells1 : (x : ℕ → ℕ → ℕ) → Alloc 6 2 (4 ∷ 3 ∷ 5 ∷ []) (0b11 ∷ 0b01 ∷ 0b10 ∷ []) x → cells 3 2 x ≡ 3 ∷ 1 ∷ 3 ∷ 0 ∷ 0 ∷ 5 ∷ []
unfolding cells row sum_to has
cells1 x a =
    let a11 : x 1 1 ≡ 0 = a.inside 1 (lit< tt) 1 (lit< tt) refl in
    let a20 : x 2 0 ≡ 0 = a.inside 2 (lit< tt) 0 (lit< tt) refl in
    let r0 : 0 + x 0 0 + x 0 1 ≡ 4 = a.exact 0 (lit< tt) in
    let r1 : 0 + x 1 0 + x 1 1 ≡ 3 = a.exact 1 (lit< tt) in
    let r2 : 0 + x 2 0 + x 2 1 ≡ 5 = a.exact 2 (lit< tt) in
    let c0 : 0 + x 0 0 + x 1 0 + x 2 0 ≤ 6 = a.within 0 (lit< tt) in
    let c1 : 0 + x 0 1 + x 1 1 + x 2 1 ≤ 6 = a.within 1 (lit< tt) in
    let e00 : x 0 0 ≡ 3 = omega arith in
    let e01 : x 0 1 ≡ 1 = omega arith in
    let e10 : x 1 0 ≡ 3 = omega arith in
    let e21 : x 2 1 ≡ 5 = omega arith in
    cc

pub allocation1 : OnlyAllocation 6 2 (4 ∷ 3 ∷ 5 ∷ []) (0b11 ∷ 0b01 ∷ 0b10 ∷ []) (3 ∷ 1 ∷ 3 ∷ 0 ∷ 0 ∷ 5 ∷ [])
unfolding sum_to has inside_test exact_test within_test one_test
allocation1 = record { only = cells1; some = allocation_computed 3 2 _ _ _ _ tt tt tt; loop_free = loop_free_computed 3 2 0 _ tt }

table1 : (x : ℕ → ℕ → ℕ) → Alloc 6 2 (4 ∷ 3 ∷ 5 ∷ []) (0b11 ∷ 0b01 ∷ 0b10 ∷ []) x → numbers_of (table_of 6 3 2 x) ≡ tableP1
unfolding sum_to lowest ahead begun stretch reach_one reach meet_mark meet_one meet visit_mark visit waiting unvisited next_core visits layout cut insert_all pieces_on core_to cores_to table_of_cells table_of insert
table1 x a = rw (allocation1.only x a)

pub p1 : Only 6 2 (4 ∷ 3 ∷ 5 ∷ []) (0b11 ∷ 0b01 ∷ 0b10 ∷ []) Accepted tableP1
unfolding sum_to has union group_budget capacity group_capacity fit_test
p1 =
    accepted_only 6 2 (4 ∷ 3 ∷ 5 ∷ []) (0b11 ∷ 0b01 ∷ 0b10 ∷ []) tableP1 pass1 table1 (no_group_computed 3 2 _ _ _ tt) (cell_at 2 (3 ∷ 1 ∷ 3 ∷ 0 ∷ 0 ∷ 5 ∷ []))
    allocation1.some allocation1.loop_free

pass5 : Passes 10 1 (5 ∷ 5 ∷ []) (0b1 ∷ 0b1 ∷ [])
unfolding tested tested_set bad_frame bad_cores bad_tasks empty_mask past_cores bad_budget first_at
pass5 before roomy = rw roomy

cells5 : (x : ℕ → ℕ → ℕ) → Alloc 10 1 (5 ∷ 5 ∷ []) (0b1 ∷ 0b1 ∷ []) x → cells 2 1 x ≡ 5 ∷ 5 ∷ []
unfolding cells row sum_to has
cells5 x a =
    let r0 : 0 + x 0 0 ≡ 5 = a.exact 0 (lit< tt) in
    let r1 : 0 + x 1 0 ≡ 5 = a.exact 1 (lit< tt) in
    let e00 : x 0 0 ≡ 5 = omega arith in
    let e10 : x 1 0 ≡ 5 = omega arith in
    cc

table5 : (x : ℕ → ℕ → ℕ) → Alloc 10 1 (5 ∷ 5 ∷ []) (0b1 ∷ 0b1 ∷ []) x → numbers_of (table_of 10 2 1 x) ≡ (0 ∷ 0 ∷ 0 ∷ 5 ∷ 0 ∷ 1 ∷ 5 ∷ 5 ∷ [])
unfolding sum_to lowest ahead begun stretch reach_one reach meet_mark meet_one meet visit_mark visit waiting unvisited next_core visits layout cut insert_all pieces_on core_to cores_to table_of_cells table_of insert
table5 x a = rw (cells5 x a)

pub p5 : Only 10 1 (5 ∷ 5 ∷ []) (0b1 ∷ 0b1 ∷ []) Accepted (0 ∷ 0 ∷ 0 ∷ 5 ∷ 0 ∷ 1 ∷ 5 ∷ 5 ∷ [])
unfolding sum_to has union group_budget capacity group_capacity inside_test exact_test within_test one_test fit_test
p5 =
    accepted_only 10 1 (5 ∷ 5 ∷ []) (0b1 ∷ 0b1 ∷ []) (0 ∷ 0 ∷ 0 ∷ 5 ∷ 0 ∷ 1 ∷ 5 ∷ 5 ∷ []) pass5 table5 (no_group_computed 2 1 _ _ _ tt) (cell_at 1 (5 ∷ 5 ∷ []))
    (allocation_computed 2 1 _ _ _ _ tt tt tt) (loop_free_computed 2 1 0 _ tt)

pass7 : Passes 10 2 (5 ∷ 10 ∷ []) (0b11 ∷ 0b01 ∷ [])
unfolding tested tested_set bad_frame bad_cores bad_tasks empty_mask past_cores bad_budget first_at
pass7 before roomy = rw roomy

cells7 : (x : ℕ → ℕ → ℕ) → Alloc 10 2 (5 ∷ 10 ∷ []) (0b11 ∷ 0b01 ∷ []) x → cells 2 2 x ≡ 0 ∷ 5 ∷ 10 ∷ 0 ∷ []
unfolding cells row sum_to has
cells7 x a =
    let a11 : x 1 1 ≡ 0 = a.inside 1 (lit< tt) 1 (lit< tt) refl in
    let r0 : 0 + x 0 0 + x 0 1 ≡ 5 = a.exact 0 (lit< tt) in
    let r1 : 0 + x 1 0 + x 1 1 ≡ 10 = a.exact 1 (lit< tt) in
    let c0 : 0 + x 0 0 + x 1 0 ≤ 10 = a.within 0 (lit< tt) in
    let e00 : x 0 0 ≡ 0 = omega arith in
    let e01 : x 0 1 ≡ 5 = omega arith in
    let e10 : x 1 0 ≡ 10 = omega arith in
    cc

table7 : (x : ℕ → ℕ → ℕ) → Alloc 10 2 (5 ∷ 10 ∷ []) (0b11 ∷ 0b01 ∷ []) x → numbers_of (table_of 10 2 2 x) ≡ (0 ∷ 1 ∷ 0 ∷ 10 ∷ 1 ∷ 0 ∷ 0 ∷ 5 ∷ [])
unfolding sum_to lowest ahead begun stretch reach_one reach meet_mark meet_one meet visit_mark visit waiting unvisited next_core visits layout cut insert_all pieces_on core_to cores_to table_of_cells table_of insert
table7 x a = rw (cells7 x a)

pub p7 : Only 10 2 (5 ∷ 10 ∷ []) (0b11 ∷ 0b01 ∷ []) Accepted (0 ∷ 1 ∷ 0 ∷ 10 ∷ 1 ∷ 0 ∷ 0 ∷ 5 ∷ [])
unfolding sum_to has union group_budget capacity group_capacity inside_test exact_test within_test one_test fit_test
p7 =
    accepted_only 10 2 (5 ∷ 10 ∷ []) (0b11 ∷ 0b01 ∷ []) (0 ∷ 1 ∷ 0 ∷ 10 ∷ 1 ∷ 0 ∷ 0 ∷ 5 ∷ []) pass7 table7 (no_group_computed 2 2 _ _ _ tt) (cell_at 2 (0 ∷ 5 ∷ 10 ∷ 0 ∷ []))
    (allocation_computed 2 2 _ _ _ _ tt tt tt) (loop_free_computed 2 2 0 _ tt)

pass8 : Passes 10 1 (0 ∷ []) (0b1 ∷ [])
unfolding tested tested_set bad_frame bad_cores bad_tasks empty_mask past_cores bad_budget first_at
pass8 before roomy = rw roomy

cells8 : (x : ℕ → ℕ → ℕ) → Alloc 10 1 (0 ∷ []) (0b1 ∷ []) x → cells 1 1 x ≡ 0 ∷ []
unfolding cells row sum_to has
cells8 x a =
    let r0 : 0 + x 0 0 ≡ 0 = a.exact 0 (lit< tt) in
    let e00 : x 0 0 ≡ 0 = omega arith in
    cc

table8 : (x : ℕ → ℕ → ℕ) → Alloc 10 1 (0 ∷ []) (0b1 ∷ []) x → numbers_of (table_of 10 1 1 x) ≡ []
unfolding sum_to lowest ahead begun stretch reach_one reach meet_mark meet_one meet visit_mark visit waiting unvisited next_core visits layout cut insert_all pieces_on core_to cores_to table_of_cells table_of insert
table8 x a = rw (cells8 x a)

pub p8 : Only 10 1 (0 ∷ []) (0b1 ∷ []) Accepted []
unfolding sum_to has union group_budget capacity group_capacity inside_test exact_test within_test one_test fit_test
p8 =
    accepted_only 10 1 (0 ∷ []) (0b1 ∷ []) [] pass8 table8 (no_group_computed 1 1 _ _ _ tt) (cell_at 1 (0 ∷ []))
    (allocation_computed 1 1 _ _ _ _ tt tt tt) (loop_free_computed 1 1 0 _ tt)
