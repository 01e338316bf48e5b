-- Sums, first places, sets, budgets, capacities and extra assignments, worked out by hand.
-- Assumes nothing.
use mathlib.Core.Path.{◌≡◌, refl}
use mathlib.Core.List.{List, [], ◌∷◌}
use Prim.Native.Nat.{ℕ, ◌*◌}
use lib.Dec.{eqb}
use Rattle.rules.specs.Sum.{sum_to, put, positive, first_at, lowest}
use Rattle.rules.specs.Sets.{has, members, union}
use Rattle.rules.specs.Allocation.{limit_of}
use Rattle.rules.specs.Excess.{group_budget, capacity, group_capacity}
use Rattle.rules.specs.Extra.{cores_of, extra}
use Rattle.rules.specs.Plan.{at}
use Rattle.rules.specs.Table.{cell_at}

-- 0 + 1 + 10 + 9
sum_value : sum_to 4 (put 2 10 (λ i. i * i)) ≡ 20
unfolding sum_to
sum_value = refl

positive_values : positive 0 ∷ positive 1 ∷ positive 7 ∷ [] ≡ 0 ∷ 1 ∷ 1 ∷ []
positive_values = refl

first_value : first_at (eqb 7) (3 ∷ 7 ∷ 7 ∷ []) ≡ 1
unfolding first_at
first_value = refl

none_value : first_at (eqb 7) (3 ∷ 4 ∷ []) ≡ 2
unfolding first_at
none_value = refl

lowest_value : lowest 5 (at (0 ∷ 0 ∷ 6 ∷ 0 ∷ 8 ∷ [])) ≡ 2
unfolding lowest
lowest_value = refl

-- the last place counts, and one past it does not
lowest_edges : lowest 3 (at (0 ∷ 0 ∷ 6 ∷ [])) ∷ lowest 2 (at (0 ∷ 0 ∷ 6 ∷ [])) ∷ lowest 0 (λ i. 1) ∷ [] ≡ 2 ∷ 2 ∷ 0 ∷ []
unfolding lowest
lowest_edges = refl

has_values : has 0b1101 0 ∷ has 0b1101 1 ∷ has 0b1101 2 ∷ has 0b1101 3 ∷ has 0b1101 4 ∷ [] ≡ 1 ∷ 0 ∷ 1 ∷ 1 ∷ 0 ∷ []
unfolding has
has_values = refl

-- a member at or above k is not counted
members_values : members 16 0b1000000000000101 ∷ members 15 0b1000000000000101 ∷ [] ≡ 3 ∷ 2 ∷ []
unfolding sum_to has
members_values = refl

-- the group {0,2} of the masks {0}, {1}, {2,3}
union_value : union 3 (at (0b0001 ∷ 0b0010 ∷ 0b1100 ∷ [])) 0b101 ≡ 0b1101
unfolding union has
union_value = refl

-- a core that is in two masks counts once; task 2 is not among the first two
common_value : union 2 (at (0b0011 ∷ 0b0110 ∷ 0b1000 ∷ [])) 0b111 ≡ 0b0111
unfolding union has
common_value = refl

-- F 7: the group {0,2} asks 9 and has three cores
budget_value : group_budget 3 (at (4 ∷ 6 ∷ 5 ∷ [])) 0b101 ≡ 9
unfolding group_budget sum_to has
budget_value = refl

-- task 2 is not among the first two
budget_edge : group_budget 2 (at (4 ∷ 6 ∷ 5 ∷ [])) 0b111 ≡ 10
unfolding group_budget sum_to has
budget_edge = refl

-- the cores 1 and 3; core 4 is not among the first four
capacity_value : capacity 4 (at (5 ∷ 6 ∷ 7 ∷ 8 ∷ 9 ∷ [])) 0b11010 ≡ 14
unfolding capacity sum_to has
capacity_value = refl

group_capacity_value : group_capacity 3 4 (λ j. 7) (at (4 ∷ 6 ∷ 5 ∷ [])) (at (0b0001 ∷ 0b0010 ∷ 0b1100 ∷ [])) 0b101 ≡ 21
unfolding group_capacity capacity union sum_to has
group_capacity_value = refl

-- two tasks on four cores: the mask of task 2 and the core 4 do not count
group_capacity_edge : group_capacity 2 4 (limit_of 7) (at (4 ∷ 6 ∷ [])) (at (0b10001 ∷ 0b00010 ∷ 0b01100 ∷ [])) 0b111 ≡ 14
unfolding group_capacity capacity union sum_to has
group_capacity_edge = refl

-- four tasks on three cores: on three, on none, on one and on two of them; what a task has on core 3 does not count
extra_cells : List ℕ
extra_cells =
    1 ∷ 2 ∷ 3 ∷ 9 ∷
    0 ∷ 0 ∷ 0 ∷ 9 ∷
    0 ∷ 5 ∷ 0 ∷ 0 ∷
    1 ∷ 0 ∷ 1 ∷ 9 ∷
    1 ∷ 1 ∷ 1 ∷ 1 ∷ []

cores_values :
    cores_of 3 (cell_at 4 extra_cells) 0 ∷ cores_of 3 (cell_at 4 extra_cells) 1 ∷ cores_of 3 (cell_at 4 extra_cells) 2 ∷ cores_of 3 (cell_at 4 extra_cells) 3 ∷ [] ≡
    3 ∷ 0 ∷ 1 ∷ 2 ∷ []
unfolding cores_of sum_to extra_cells
cores_values = refl

extra_value : extra 4 3 (cell_at 4 extra_cells) ≡ 3
unfolding extra cores_of sum_to extra_cells
extra_value = refl
