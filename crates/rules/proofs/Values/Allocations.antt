-- An allocation, an excess and the group of an overload, worked out by hand: each part of them is broken alone, and then it is none.
-- Assumes nothing.
use mathlib.Core.Path.{◌≡◌, refl}
use mathlib.Core.List.{[], ◌∷◌}
use Prim.Native.Nat.{ℕ, ◌≤◌, ◌<◌}
use native.Mathlib.Omega.{arith}
use lib.Dec.{T, lit≤, lit<}
use Rattle.rules.specs.Sum.{sum_to}
use Rattle.rules.specs.Sets.{has, union}
use Rattle.rules.specs.Allocation.{limit_of, Allocation}
use Rattle.rules.specs.Excess.{group_budget, capacity, group_capacity, NoMore, Exceeds, Overload, Smallest}
use Rattle.rules.specs.Table.{cell_at}
use Rattle.rules.specs.Plan.{at}
use Rattle.rules.proofs.Computed.{inside_test, exact_test, within_test, allocation_computed, fit_test, no_group_computed, greatest_test, smallest_test, smallest_computed}

limit_value : limit_of 10 3 ≡ 10
limit_value = refl

-- P7: F 10, m 2, budgets 5, 10, masks {0,1}, {0}
abbrev Seventh : (ℕ → ℕ → ℕ) → Type 0
Seventh x = Allocation 2 2 (limit_of 10) (at (5 ∷ 10 ∷ [])) (at (0b11 ∷ 0b01 ∷ [])) x

-- what a third task and a third core would have does not count; a core may be filled to F
allocation_value : Seventh (cell_at 3 (0 ∷ 5 ∷ 7 ∷ 10 ∷ 0 ∷ 7 ∷ 7 ∷ 7 ∷ 7 ∷ []))
unfolding inside_test exact_test within_test sum_to has
allocation_value = allocation_computed 2 2 _ _ _ _ tt tt tt

-- five units of task 1 on core 1, which its mask does not have
outside_mask : Seventh (cell_at 2 (5 ∷ 0 ∷ 5 ∷ 5 ∷ [])) → ⊥
unfolding has
outside_mask a =
    let e : ◌≡◌ {A = ℕ} 5 0 = a.inside 1 (lit< tt) 1 (lit< tt) refl in
    omega arith

-- one unit of task 1 too few
not_exact : Seventh (cell_at 2 (0 ∷ 5 ∷ 9 ∷ 0 ∷ [])) → ⊥
unfolding sum_to
not_exact a =
    let e : ◌≡◌ {A = ℕ} 9 10 = a.exact 1 (lit< tt) in
    omega arith

-- core 0 has one unit too many
beyond_limit : Seventh (cell_at 2 (1 ∷ 4 ∷ 10 ∷ 0 ∷ [])) → ⊥
unfolding sum_to
beyond_limit a =
    let e : 11 ≤ 10 = a.within 0 (lit< tt) in
    omega arith

-- F 10, m 2, budgets 7, 7, 5, masks {0,1}, {0,1}, {0}: the excess of {0,1} is -6, that of {2} is -5
abbrev Less : ℕ → ℕ → Type 0
Less h g = NoMore 3 2 (limit_of 10) (at (7 ∷ 7 ∷ 5 ∷ [])) (at (0b11 ∷ 0b11 ∷ 0b01 ∷ [])) h g

less_value : Less 0b011 0b100
unfolding NoMore group_budget group_capacity capacity union sum_to has
less_value = lit≤ tt

equal_value : Less 0b011 0b011
unfolding NoMore group_budget group_capacity capacity union sum_to has
equal_value = lit≤ tt

more_value : Less 0b100 0b011 → ⊥
unfolding NoMore group_budget group_capacity capacity union sum_to has
more_value h =
    let e : 25 ≤ 24 = h in
    omega arith

-- F 10, m 1: 5 and 5 fill the core, 5 and 6 exceed it by one
exact_fit : Exceeds 2 1 (limit_of 10) (at (5 ∷ 5 ∷ [])) (at (1 ∷ 1 ∷ [])) 0b11 → ⊥
unfolding Exceeds group_budget group_capacity capacity union sum_to has
exact_fit h =
    let e : 10 < 10 = h in
    omega arith

one_over : Exceeds 2 1 (limit_of 10) (at (5 ∷ 6 ∷ [])) (at (1 ∷ 1 ∷ [])) 0b11
unfolding Exceeds group_budget group_capacity capacity union sum_to has
one_over = lit< tt

-- one task of 11 units, tasks of 5 and 6, and one of 10
overload_value : Overload 1 1 (limit_of 10) (at (11 ∷ [])) (at (1 ∷ []))
unfolding Exceeds group_budget group_capacity capacity union sum_to has
overload_value = (0b1, lit< tt, lit< tt)

both_tasks : Overload 2 1 (limit_of 10) (at (5 ∷ 6 ∷ [])) (at (1 ∷ 1 ∷ []))
both_tasks = (0b11, lit< tt, one_over)

fits : T (fit_test 1 1 (limit_of 10) (at (10 ∷ [])) (at (1 ∷ [])))
unfolding fit_test group_budget group_capacity capacity union sum_to has
fits = tt

no_overload : Overload 1 1 (limit_of 10) (at (10 ∷ [])) (at (1 ∷ [])) → ⊥
no_overload h = no_group_computed 1 1 (limit_of 10) (at (10 ∷ [])) (at (1 ∷ [])) fits h.0 h.1 h.2

-- P3: F 10, m 2, budgets 6, 6, 10, masks {0}, {0}, {1}: {0,1} and {0,1,2} have the excess 2
abbrev Third : ℕ → Type 0
Third g = Smallest 3 2 (limit_of 10) (at (6 ∷ 6 ∷ 10 ∷ [])) (at (0b01 ∷ 0b01 ∷ 0b10 ∷ [])) g

smallest_value : Third 0b011
unfolding sum_to has union group_budget capacity group_capacity greatest_test smallest_test
smallest_value = smallest_computed 3 2 _ _ _ 0b011 (lit< tt) tt tt

-- of greatest excess, but not the smallest
not_smallest : Third 0b111 → ⊥
unfolding NoMore group_budget group_capacity capacity union sum_to has
not_smallest s =
    let e : 1 ≤ 0 = s.smallest 0b011 (lit< tt) (lit≤ tt) 2 (lit< tt) in
    omega arith

-- the smallest of all, but not of greatest excess
not_greatest : Third 0b000 → ⊥
unfolding NoMore group_budget group_capacity capacity union sum_to has
not_greatest s =
    let e : 12 ≤ 10 = s.greatest 0b011 (lit< tt) in
    omega arith

-- task 3 is none of the three
no_such_task : Third 0b1011 → ⊥
no_such_task s =
    let e : 11 < 8 = s.tasks in
    omega arith

-- no group exceeds, so {} is the smallest; the number 2 holds no task of one either, and is none of its groups
past_the_tasks : Smallest 1 1 (limit_of 10) (at (5 ∷ [])) (at (1 ∷ [])) 0b10 → ⊥
past_the_tasks s =
    let e : 2 < 2 = s.tasks in
    omega arith
