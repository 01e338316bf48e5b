-- What a customer signs for, worked out by hand: tables at the edges of each part, and each part broken alone.
-- Assumes nothing.
use mathlib.Core.Path.{◌≡◌, refl, sym, ap, subst}
use mathlib.Core.Bool.{true, false, true≢false}
use mathlib.Core.List.{List, [], ◌∷◌}
use Prim.Native.Nat.{ℕ, zero, suc, ◌+◌, ◌≤◌, ◌<◌}
use native.Mathlib.Omega.{arith}
use lib.Dec.{lit<, lit≤}
use Rattle.rules.specs.Sum.{sum_to}
use Rattle.rules.specs.Sets.{has, union}
use Rattle.rules.specs.Answer.{number_of}
use Rattle.rules.specs.Excess.{group_budget, capacity, group_capacity, NoMore, Exceeds}
use Rattle.rules.specs.Extra.{cores_of, extra, runs_on, extra_of}
use Rattle.rules.specs.Piece.{Piece, first_pieces, pieces_of}
use Rattle.rules.specs.FrameTable.{every, every_two, sound, ordered, overlap, core_apart, task_apart, frame_pieces, frame_table}
use Rattle.rules.specs.Service.{covers, covered, units}
use Rattle.rules.specs.Obeys.{allowed, Obeys}
use Rattle.rules.specs.Check.{check_answer}
use Rattle.rules.specs.Tests.{bad_frame, bad_cores}
use Rattle.rules.specs.Plan.{at}
use Rattle.rules.specs.Signed.{SignedTable, NamedGroup, NoneObeys, RefusedExactly}
use Rattle.rules.specs.declared.Answer.TheVariants.{Accepted, Overloaded, NotTable}
use Rattle.rules.proofs.Computed.{greatest_test, smallest_test, smallest_computed}

-- three cores, four tasks: task 0 on the cores 0 and 2, task 1 on core 0 alone, twice, task 2 on the cores 1 and 2, task 3 without a piece;
-- a fourth core and a fifth task, which the set does not have, count for nothing
extra_table : List ℕ
extra_table =
    0 ∷ 0 ∷ 0 ∷ 4 ∷
    0 ∷ 1 ∷ 4 ∷ 2 ∷
    0 ∷ 1 ∷ 8 ∷ 1 ∷
    1 ∷ 2 ∷ 2 ∷ 4 ∷
    2 ∷ 2 ∷ 0 ∷ 2 ∷
    2 ∷ 0 ∷ 4 ∷ 3 ∷ []

runs_value :
    runs_on (pieces_of extra_table) 0 0 ∷ runs_on (pieces_of extra_table) 0 1 ∷ runs_on (pieces_of extra_table) 0 2 ∷ runs_on (pieces_of extra_table) 1 0 ∷
    runs_on (pieces_of extra_table) 3 0 ∷ runs_on (pieces_of extra_table) 2 0 ∷ [] ≡ 1 ∷ 0 ∷ 1 ∷ 1 ∷ 0 ∷ 0 ∷ []
unfolding runs_on extra_table first_pieces
runs_value = refl

extra_values : extra_of 4 3 (pieces_of extra_table) ∷ extra_of 2 3 (pieces_of extra_table) ∷ extra_of 4 2 (pieces_of extra_table) ∷ extra_of 4 3 [] ∷ [] ≡ 2 ∷ 1 ∷ 0 ∷ 0 ∷ []
unfolding extra_of extra cores_of sum_to runs_on extra_table first_pieces
extra_values = refl

-- F 10, one core, one task of budget 4 on it: how many pieces plan answered, and the table before and after
abbrev Small : ℕ → List ℕ → List ℕ → Type 0
Small pieces before after = SignedTable 10 1 (4 ∷ []) (0b1 ∷ []) before (record { answer = Accepted; pieces = pieces }) after

one_task : (P : ℕ → Type 0) → P 0 → (i : ℕ) → i < 1 → P i
one_task P h zero l = h
one_task P h (suc i) l = absurd (far l)
  where
    far : suc (suc i) ≤ 1 → ⊥
    far l = omega arith

-- on two cores four pieces, which is n + 2 × m − 1, in a table that holds no fifth
cut_up : List ℕ
cut_up = 0 ∷ 0 ∷ 0 ∷ 1 ∷ 0 ∷ 0 ∷ 4 ∷ 1 ∷ 1 ∷ 0 ∷ 2 ∷ 1 ∷ 1 ∷ 0 ∷ 8 ∷ 1 ∷ []

signed_value : SignedTable 10 2 (4 ∷ []) (0b11 ∷ []) (9 ∷ 9 ∷ 9 ∷ 9 ∷ 9 ∷ 9 ∷ 9 ∷ 9 ∷ 9 ∷ 9 ∷ 9 ∷ 9 ∷ 9 ∷ 9 ∷ 9 ∷ 9 ∷ []) (record { answer = Accepted; pieces = 4 }) cut_up
unfolding check_answer bad_frame bad_cores every every_two sound ordered overlap core_apart task_apart frame_pieces frame_table first_pieces covers covered sum_to allowed has extra_of extra cores_of runs_on cut_up
signed_value =
    record {
      checked = refl;
      exact = one_task (λ i. units 10 (first_pieces cut_up 4) i 10 ≡ at (4 ∷ []) i) refl;
      on_mask = refl;
      apart = refl;
      extra = lit< tt;
      few = lit≤ tt;
      held = lit≤ tt;
      size = refl;
      beyond = refl;
    }

-- one piece that ends at F, and places beyond it that keep what they held
beyond_value : Small 1 (9 ∷ 9 ∷ 9 ∷ 9 ∷ 5 ∷ 6 ∷ []) (0 ∷ 0 ∷ 6 ∷ 4 ∷ 5 ∷ 6 ∷ [])
unfolding check_answer bad_frame bad_cores every every_two sound ordered overlap core_apart task_apart frame_pieces frame_table first_pieces covers covered sum_to allowed has extra_of extra cores_of runs_on
beyond_value =
    record {
      checked = refl;
      exact = one_task (λ i. units 10 (first_pieces (0 ∷ 0 ∷ 6 ∷ 4 ∷ 5 ∷ 6 ∷ []) 1) i 10 ≡ at (4 ∷ []) i) refl;
      on_mask = refl;
      apart = refl;
      extra = lit< tt;
      few = lit≤ tt;
      held = lit≤ tt;
      size = refl;
      beyond = refl;
    }

-- one unit too few
unit_lost : Small 1 (9 ∷ 9 ∷ 9 ∷ 9 ∷ []) (0 ∷ 0 ∷ 6 ∷ 3 ∷ []) → ⊥
unfolding first_pieces covers covered sum_to
unit_lost s = let e : ◌≡◌ {A = ℕ} 3 4 = s.exact 0 (lit< tt) in omega arith

-- three pieces where n + 2 × m − 1 is two
piece_too_many : Small 3 (9 ∷ 9 ∷ 9 ∷ 9 ∷ 9 ∷ 9 ∷ 9 ∷ 9 ∷ 9 ∷ 9 ∷ 9 ∷ 9 ∷ []) (0 ∷ 0 ∷ 0 ∷ 2 ∷ 0 ∷ 0 ∷ 4 ∷ 1 ∷ 0 ∷ 0 ∷ 8 ∷ 1 ∷ []) → ⊥
piece_too_many s = let e : 4 ≤ 3 = s.few in omega arith

-- two pieces counted, and room for one
no_room : Small 2 (9 ∷ 9 ∷ 9 ∷ 9 ∷ []) (0 ∷ 0 ∷ 2 ∷ 4 ∷ []) → ⊥
no_room s = let e : 8 ≤ 4 = s.held in omega arith

-- the list lost its end
list_cut : Small 2 (9 ∷ 9 ∷ 9 ∷ 9 ∷ 9 ∷ 9 ∷ 9 ∷ 9 ∷ []) (0 ∷ 0 ∷ 2 ∷ 4 ∷ []) → ⊥
list_cut s = let e : ◌≡◌ {A = ℕ} 4 8 = s.size in omega arith

-- the first place beyond the piece was written
place_written : Small 1 (9 ∷ 9 ∷ 9 ∷ 9 ∷ 9 ∷ []) (0 ∷ 0 ∷ 6 ∷ 4 ∷ 8 ∷ []) → ⊥
place_written s = let e : ◌≡◌ {A = ℕ} 8 9 = ap (λ (l : List ℕ). at l 0) s.beyond in omega arith

-- F 10, two cores, two tasks of budget 2, the masks given
abbrev Two : List ℕ → List ℕ → Type 0
Two masks after = SignedTable 10 2 (2 ∷ 2 ∷ []) masks after (record { answer = Accepted; pieces = 2 }) after

-- both tasks on core 0 at the instant 1
one_core_twice : Two (0b11 ∷ 0b11 ∷ []) (0 ∷ 0 ∷ 0 ∷ 2 ∷ 0 ∷ 1 ∷ 1 ∷ 2 ∷ []) → ⊥
unfolding check_answer bad_frame bad_cores every every_two sound ordered overlap core_apart task_apart frame_pieces frame_table first_pieces
one_core_twice s = let e : ◌≡◌ {A = ℕ} 8 0 = ap number_of s.checked in omega arith

-- task 1 outside its mask
outside : Two (0b11 ∷ 0b10 ∷ []) (0 ∷ 0 ∷ 0 ∷ 2 ∷ 0 ∷ 1 ∷ 2 ∷ 2 ∷ []) → ⊥
unfolding every allowed has first_pieces
outside s = true≢false (sym s.on_mask)

-- the tasks 1 and 2, each on both cores: two extra assignments, and two cores
crossing : List ℕ
crossing = 0 ∷ 1 ∷ 0 ∷ 1 ∷ 0 ∷ 2 ∷ 1 ∷ 1 ∷ 1 ∷ 2 ∷ 0 ∷ 1 ∷ 1 ∷ 1 ∷ 1 ∷ 1 ∷ []

crossed : SignedTable 10 2 (0 ∷ 2 ∷ 2 ∷ []) (0b01 ∷ 0b11 ∷ 0b11 ∷ []) crossing (record { answer = Accepted; pieces = 4 }) crossing → ⊥
unfolding extra_of extra cores_of sum_to runs_on first_pieces crossing
crossed s = let e : 2 < 2 = s.extra in omega arith

-- P2's group and cores, P6's, and P2's group with other cores than the union of its masks
named_value : NamedGroup 10 2 (8 ∷ 8 ∷ 3 ∷ []) (0b01 ∷ 0b01 ∷ 0b10 ∷ []) 0b011 0b01
unfolding sum_to has union group_budget capacity group_capacity Exceeds greatest_test smallest_test
named_value = record { smallest = smallest_computed 3 2 _ _ _ 0b011 (lit< tt) tt tt; exceeds = lit< tt; no_zero = none; cores = refl }
  where
    none : (i : ℕ) → i < 3 → at (8 ∷ 8 ∷ 3 ∷ []) i ≡ 0 → has 0b011 i ≡ 0
    none zero l e = absurd (omega arith)
    none (suc zero) l e = absurd (omega arith)
    none (suc (suc zero)) l e = refl
    none (suc (suc (suc i))) l e = absurd (far l)
      where
        far : suc (suc (suc (suc i))) ≤ 3 → ⊥
        far l = omega arith

two_tasks : (P : ℕ → Type 0) → P 0 → P 1 → (i : ℕ) → i < 2 → P i
two_tasks P h g zero l = h
two_tasks P h g (suc zero) l = g
two_tasks P h g (suc (suc i)) l = absurd (far l)
  where
    far : suc (suc (suc i)) ≤ 2 → ⊥
    far l = omega arith

named_one_core : NamedGroup 10 1 (5 ∷ 6 ∷ []) (0b1 ∷ 0b1 ∷ []) 0b11 0b1
unfolding sum_to has union group_budget capacity group_capacity Exceeds greatest_test smallest_test
named_one_core =
    record {
      smallest = smallest_computed 2 1 _ _ _ 0b11 (lit< tt) tt tt;
      exceeds = lit< tt;
      no_zero = two_tasks (λ i. at (5 ∷ 6 ∷ []) i ≡ 0 → has 0b11 i ≡ 0) (λ e. absurd (omega arith)) (λ e. absurd (omega arith));
      cores = refl;
    }

other_cores : NamedGroup 10 2 (8 ∷ 8 ∷ 3 ∷ []) (0b01 ∷ 0b01 ∷ 0b10 ∷ []) 0b011 0b11 → ⊥
unfolding union has
other_cores n = let e : ◌≡◌ {A = ℕ} 3 1 = n.cores in omega arith

-- the larger of P3's two groups of excess 2
larger_group : NamedGroup 10 2 (6 ∷ 6 ∷ 10 ∷ []) (0b01 ∷ 0b01 ∷ 0b10 ∷ []) 0b111 0b11 → ⊥
unfolding sum_to has union group_budget capacity group_capacity NoMore
larger_group n = let e : 1 ≤ 0 = n.smallest.smallest 0b011 (lit< tt) (lit≤ tt) 2 (lit< tt) in omega arith

-- a group that fits: the empty one, of a set without a budget
fitting_group : NamedGroup 10 1 (0 ∷ []) (0b1 ∷ []) 0 0 → ⊥
unfolding sum_to has union group_budget capacity group_capacity Exceeds
fitting_group n = let e : 0 < 0 = n.exceeds in omega arith

-- F 3, one core, two tasks: of the budgets 1 and 2 they have a table, of 0 and 4 they have none
one_unit : Obeys 3 2 1 (at (1 ∷ 2 ∷ [])) (at (0b1 ∷ 0b1 ∷ [])) (pieces_of (0 ∷ 0 ∷ 0 ∷ 1 ∷ 0 ∷ 1 ∷ 1 ∷ 2 ∷ []))
unfolding every every_two sound ordered overlap core_apart task_apart frame_pieces first_pieces covers covered sum_to allowed has
one_unit =
    record {
      table = refl;
      exact = two_tasks (λ i. units 3 (pieces_of (0 ∷ 0 ∷ 0 ∷ 1 ∷ 0 ∷ 1 ∷ 1 ∷ 2 ∷ [])) i 3 ≡ at (1 ∷ 2 ∷ []) i) refl refl;
      on_mask = refl;
    }

at_most_one : (t : ℕ) (ps : List Piece) → covered 1 t ps ≤ 1
unfolding covered
at_most_one t [] = omega arith
at_most_one t (p ∷ ps) = elim (covers 1 t p) as (λ b. elim b [ true ↦ 1 | false ↦ covered 1 t ps ] ≤ 1) [ true ↦ lit≤ tt | false ↦ at_most_one t ps ]

no_four_units : NoneObeys 3 1 (0 ∷ 4 ∷ []) (0b1 ∷ 0b1 ∷ [])
unfolding sum_to
no_four_units ps o =
    let e : 0 + covered 1 0 ps + covered 1 1 ps + covered 1 2 ps ≡ 4 = o.exact 1 (lit< tt) in
    omega (arith, e, at_most_one 0 ps, at_most_one 1 ps, at_most_one 2 ps)

accepted_exactly : RefusedExactly 3 1 (1 ∷ 2 ∷ []) (0b1 ∷ 0b1 ∷ []) Accepted
accepted_exactly =
    record {
      refused_has_none = λ z. absurd (not_seven z);
      none_is_refused = λ none. absurd (none (pieces_of (0 ∷ 0 ∷ 0 ∷ 1 ∷ 0 ∷ 1 ∷ 1 ∷ 2 ∷ [])) one_unit);
      else_accepted = λ z. refl;
      named = λ z. absurd (not_seven z);
    }
  where
    not_seven : ◌≡◌ {A = ℕ} 0 7 → ⊥
    not_seven z = omega arith

refused_exactly : RefusedExactly 3 1 (0 ∷ 4 ∷ []) (0b1 ∷ 0b1 ∷ []) (Overloaded 0b10 0b1)
unfolding sum_to has union group_budget capacity group_capacity Exceeds greatest_test smallest_test
refused_exactly =
    record {
      refused_has_none = λ z. no_four_units;
      none_is_refused = λ none. refl;
      else_accepted = λ z. absurd (z refl);
      named = λ z. (
        0b10,
        0b1,
        refl,
        record {
          smallest = smallest_computed 2 1 _ _ _ 0b10 (lit< tt) tt tt;
          exceeds = lit< tt;
          no_zero = two_tasks (λ i. at (0 ∷ 4 ∷ []) i ≡ 0 → has 0b10 i ≡ 0) (λ e. refl) (λ e. absurd (omega arith));
          cores = refl;
        },
      );
    }

fits : Exceeds 2 1 (λ j. 3) (at (0 ∷ 4 ∷ [])) (at (0b1 ∷ 0b1 ∷ [])) 0 → ⊥
unfolding sum_to has union group_budget capacity group_capacity Exceeds
fits e = let z : 0 < 0 = e in omega arith

-- a set without a table accepted, one with a table refused by 7, one with a table refused by 8, and one whose group is not the one named
accepts_all : RefusedExactly 3 1 (0 ∷ 4 ∷ []) (0b1 ∷ 0b1 ∷ []) Accepted → ⊥
accepts_all r = let e : ◌≡◌ {A = ℕ} 0 7 = r.none_is_refused no_four_units in omega arith

refuses_all : RefusedExactly 3 1 (1 ∷ 2 ∷ []) (0b1 ∷ 0b1 ∷ []) (Overloaded 0b10 0b1) → ⊥
refuses_all r = r.refused_has_none refl (pieces_of (0 ∷ 0 ∷ 0 ∷ 1 ∷ 0 ∷ 1 ∷ 1 ∷ 2 ∷ [])) one_unit

another_number : RefusedExactly 3 1 (1 ∷ 2 ∷ []) (0b1 ∷ 0b1 ∷ []) NotTable → ⊥
another_number r = let e : ◌≡◌ {A = ℕ} 8 0 = ap number_of (r.else_accepted seven) in omega arith
  where
    seven : ◌≡◌ {A = ℕ} 8 7 → ⊥
    seven z = omega arith

names_none : RefusedExactly 3 1 (0 ∷ 4 ∷ []) (0b1 ∷ 0b1 ∷ []) (Overloaded 0 0) → ⊥
names_none r = none (r.named refl).0 (ap (λ (l : List ℕ). at l 0) (r.named refl).2) (r.named refl).3.exceeds
  where
    none : (g : ℕ) → 0 ≡ g → Exceeds 2 1 (λ j. 3) (at (0 ∷ 4 ∷ [])) (at (0b1 ∷ 0b1 ∷ [])) g → ⊥
    none g e x = absurd (fits (subst (λ (h : ℕ). Exceeds 2 1 (λ j. 3) (at (0 ∷ 4 ∷ [])) (at (0b1 ∷ 0b1 ∷ [])) h) (sym e) x))
