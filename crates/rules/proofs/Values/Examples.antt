-- What an example says is more than nothing: examples with one number wrong do not hold.
-- Assumes nothing.
use mathlib.Core.Path.{◌≡◌, refl, sym, ◌∙◌, ap}
use mathlib.Core.List.{List, [], ◌∷◌}
use Prim.Native.Nat.{ℕ, zero, suc, ◌≤◌, ◌<◌}
use native.Mathlib.Omega.{arith}
use lib.Dec.{lit≤, lit<}
use Rattle.rules.specs.Sum.{sum_to, lowest}
use Rattle.rules.specs.Sets.{has, union}
use Rattle.rules.specs.Answer.{number_of}
use Rattle.rules.specs.Excess.{group_budget, capacity, group_capacity}
use Rattle.rules.specs.Piece.{first_pieces}
use Rattle.rules.specs.FrameTable.{every, every_two, sound, ordered, overlap, core_apart, task_apart, frame_pieces, frame_table}
use Rattle.rules.specs.Moves.{insert, by_start, changes_after, changes, moves}
use Rattle.rules.specs.Service.{covers, covered}
use Rattle.rules.specs.Finish.{begin_of, Finishes}
use Rattle.rules.specs.Table.{row, cells, cell_at}
use Rattle.rules.specs.Tests.{bad_frame, bad_cores}
use Rattle.rules.specs.Plan.{at}
use Rattle.rules.specs.Check.{check_answer, moves_answer}
use Rattle.rules.specs.Jobs.{bad_job_count, early, bad_job, first_bad_job, first_asking}
use Rattle.rules.specs.Walked.{walk_tested, WalkAnswer}
use Rattle.rules.specs.Settled.{Holds, allocates, refuses, overloads, excess, total, moved, finishes, paced, tableP1}
use Rattle.rules.specs.declared.Answer.TheVariants.{Accepted, Budget}
use Rattle.rules.specs.declared.Counted.{Counted}
use Rattle.rules.proofs.Computed.{inside_test, exact_test, within_test, allocation_computed}
use Rattle.rules.proofs.Settled.Overloads.{groups3}

-- P2 with the excess 7
other_excess : Holds (overloads 10 2 (8 ∷ 8 ∷ 3 ∷ []) (0b01 ∷ 0b01 ∷ 0b10 ∷ []) 0b011 0b01 7) → ⊥
unfolding sum_to has union group_budget capacity group_capacity
other_excess h =
    let e : ◌≡◌ {A = ℕ} 16 17 = h.2 in
    omega arith

-- P2 with the cores {0,1}
other_cores : Holds (overloads 10 2 (8 ∷ 8 ∷ 3 ∷ []) (0b01 ∷ 0b01 ∷ 0b10 ∷ []) 0b011 0b11 6) → ⊥
unfolding sum_to has union
other_cores h =
    let e : ◌≡◌ {A = ℕ} 1 3 = h.3 in
    omega arith

-- the group {0,2} fills its two cores, of which the third task brings the second
both_cores : Holds (overloads 10 2 (10 ∷ 0 ∷ 10 ∷ []) (0b01 ∷ 0b01 ∷ 0b10 ∷ []) 0b101 0b11 10) → ⊥
unfolding sum_to has union group_budget capacity group_capacity
both_cores h =
    let e : ◌≡◌ {A = ℕ} 20 30 = h.2 in
    omega arith

-- P3's excess with one of its groups left out, and with a group that has another
group_left_out : Holds (excess 10 2 (6 ∷ 6 ∷ 10 ∷ []) (0b01 ∷ 0b01 ∷ 0b10 ∷ []) 2 (0b011 ∷ [])) → ⊥
group_left_out h =
    let k = h.no_other 0b111 (lit< tt) (groups3.each 1 (lit< tt)) in
    other k.0 k.1 k.2
  where
    other : (k : ℕ) → k < 1 → 0b111 ≡ at (0b011 ∷ []) k → ⊥
    other zero l e = omega arith
    other (suc k) l e = omega arith

group_too_many : Holds (excess 10 2 (6 ∷ 6 ∷ 10 ∷ []) (0b01 ∷ 0b01 ∷ 0b10 ∷ []) 2 (0b011 ∷ 0b111 ∷ 0b100 ∷ [])) → ⊥
unfolding sum_to has union group_budget capacity group_capacity
group_too_many h =
    let e : ◌≡◌ {A = ℕ} 10 12 = h.each 2 (lit< tt) in
    omega arith

-- P2's total one too high, the cores' one too high, and a total that is not below
other_total : Holds (total 10 2 (8 ∷ 8 ∷ 3 ∷ []) 18 20) → ⊥
unfolding sum_to
other_total h =
    let e : ◌≡◌ {A = ℕ} 19 18 = h.0 in
    omega arith

other_all : Holds (total 10 2 (8 ∷ 8 ∷ 3 ∷ []) 19 21) → ⊥
other_all h =
    let e : ◌≡◌ {A = ℕ} 20 21 = h.1 in
    omega arith

total_not_below : Holds (total 10 2 (8 ∷ 8 ∷ 4 ∷ []) 20 20) → ⊥
total_not_below h =
    let e : 20 < 20 = h.2 in
    omega arith

-- P4 with another number, and with another task
other_number : Holds (refuses 10 2 (11 ∷ []) (0b11 ∷ []) (Budget 0) 4 (0 ∷ [])) → ⊥
other_number h =
    let e : ◌≡◌ {A = ℕ} 5 4 = h.1 in
    omega arith

other_values : Holds (refuses 10 2 (11 ∷ []) (0b11 ∷ []) (Budget 0) 5 (1 ∷ [])) → ⊥
other_values h =
    let e : ◌≡◌ {A = ℕ} 0 1 = ap (λ (l : List ℕ). at l 0) h.2 in
    omega arith

-- P1's allocation with other units: core 1 would have seven
other_units : Holds (allocates 6 2 (4 ∷ 3 ∷ 5 ∷ []) (0b11 ∷ 0b01 ∷ 0b10 ∷ []) (2 ∷ 2 ∷ 3 ∷ 0 ∷ 0 ∷ 5 ∷ [])) → ⊥
unfolding sum_to
other_units h =
    let e : 7 ≤ 6 = h.some.within 1 (lit< tt) in
    omega arith

-- a set of two allocations: two tasks that may change places
two_allocations : Holds (allocates 1 2 (1 ∷ 1 ∷ []) (0b11 ∷ 0b11 ∷ []) (1 ∷ 0 ∷ 0 ∷ 1 ∷ [])) → ⊥
unfolding cells row sum_to has inside_test exact_test within_test
two_allocations h =
    let e : ◌≡◌ {A = ℕ} 0 1 = ap (λ (l : List ℕ). at l 0) (h.only (cell_at 2 (0 ∷ 1 ∷ 1 ∷ 0 ∷ [])) (allocation_computed 2 2 _ _ _ _ tt tt tt)) in
    omega arith

-- an allocation with a loop: both tasks on both cores
looped : Holds (allocates 2 2 (2 ∷ 2 ∷ []) (0b11 ∷ 0b11 ∷ []) (1 ∷ 1 ∷ 1 ∷ 1 ∷ [])) → ⊥
looped h =
    h.loop_free
    (record {
      k = 2;
      task = λ i. i;
      core = λ i. i;
      two = lit≤ tt;
      tasks_below = λ i l. l;
      cores_below = λ i l. l;
      tasks_differ = λ i l p q e. omega arith;
      cores_differ = λ i l p q e. omega arith;
      along = λ i l. pair i l;
      across = λ i l. next i l;
      closed = lit< tt;
    })
  where
    pair : (i : ℕ) → i < 2 → 0 < cell_at 2 (1 ∷ 1 ∷ 1 ∷ 1 ∷ []) i i
    pair zero l = lit< tt
    pair (suc zero) l = lit< tt
    pair (suc (suc i)) l = absurd (far l)
      where
        far : suc (suc (suc i)) ≤ 2 → ⊥
        far l = omega arith

    next : (i : ℕ) → suc i < 2 → 0 < cell_at 2 (1 ∷ 1 ∷ 1 ∷ 1 ∷ []) (suc i) i
    next zero l = lit< tt
    next (suc i) l = absurd (far l)
      where
        far : suc (suc (suc i)) ≤ 2 → ⊥
        far l = omega arith

-- P1 with two moves, and a table of one core less
other_moves : Holds (moved 6 2 tableP1 2) → ⊥
unfolding check_answer moves_answer bad_frame bad_cores every every_two sound ordered overlap core_apart task_apart frame_pieces frame_table first_pieces insert by_start changes_after changes moves sum_to
other_moves h =
    let e : ◌≡◌ {A = ℕ} 1 2 = ap (λ (c : Counted). c.moves) h.1 in
    omega arith

no_table : Holds (moved 6 1 tableP1 0) → ⊥
unfolding check_answer bad_frame bad_cores every every_two sound ordered overlap core_apart task_apart frame_pieces frame_table first_pieces
no_table h =
    let e : ◌≡◌ {A = ℕ} 8 0 = ap number_of h.0 in
    omega arith

-- a job of 0 units, released at 3, finishes at 3
abbrev At : (ℕ → ℕ) → Type 0
At finish = Finishes 6 [] 0 1 (at (3 ∷ [])) (at (0 ∷ [])) finish

at_three : At (at (3 ∷ 7 ∷ []))
unfolding first_pieces covered sum_to begin_of
at_three zero l = record { not_before = lit≤ tt; enough = lit≤ tt; least = λ d l h. l }
at_three (suc k) l = absurd (far l)
  where
    far : suc (suc k) ≤ 1 → ⊥
    far l = omega arith

walked : WalkAnswer 6 2 [] 0 (3 ∷ []) (0 ∷ []) (9 ∷ 7 ∷ []) Accepted (3 ∷ 7 ∷ [])
unfolding walk_tested bad_frame bad_cores every every_two sound ordered overlap core_apart task_apart frame_pieces frame_table first_pieces bad_job_count early bad_job first_bad_job first_asking lowest covers covered sum_to begin_of
walked = record { answer = refl; finishes = at_three; size = refl; kept = refl }

other_finish : Holds (finishes 6 2 [] 0 (3 ∷ []) (0 ∷ []) (4 ∷ [])) → ⊥
other_finish h =
    let e : ◌≡◌ {A = ℕ} 3 4 = ap (λ (l : List ℕ). at l 0) (h.only (9 ∷ 7 ∷ []) (lit≤ tt) Accepted (3 ∷ 7 ∷ []) walked).1 in
    omega arith

-- of a task without units a job of one unit has no finish
no_finish : Holds (finishes 6 2 [] 0 (3 ∷ []) (1 ∷ []) (9 ∷ [])) → ⊥
unfolding walk_tested bad_frame bad_cores every every_two sound ordered overlap core_apart task_apart frame_pieces frame_table first_pieces bad_job_count early bad_job first_bad_job first_asking lowest covers covered sum_to begin_of
no_finish h =
    let s = h.some (9 ∷ []) (lit≤ tt) in
    let e : ◌≡◌ {A = ℕ} 10 0 = ap number_of (sym s.2.answer ∙ (h.only (9 ∷ []) (lit≤ tt) s.0 s.1 s.2).0) in
    omega arith

-- P10 with other instants, and a first finish that is not past its release + T
other_period : Holds (paced 6 2 tableP1 0 (4 ∷ 13 ∷ []) (6 ∷ 6 ∷ []) 9 6 12 19) → ⊥
other_period h =
    let e : ◌≡◌ {A = ℕ} 13 12 = h.with_period in
    omega arith

other_frame : Holds (paced 6 2 tableP1 0 (4 ∷ 13 ∷ []) (6 ∷ 6 ∷ []) 9 6 13 20) → ⊥
other_frame h =
    let e : ◌≡◌ {A = ℕ} 19 20 = h.with_frame in
    omega arith

too_soon : Holds (paced 6 2 [] 0 (3 ∷ []) (0 ∷ []) 0 0 3 9) → ⊥
too_soon h =
    let e : 3 < 3 = (h.first (9 ∷ 7 ∷ []) (lit≤ tt) Accepted (3 ∷ 7 ∷ []) walked).0 in
    omega arith
