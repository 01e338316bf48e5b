-- P2, P3 and P6: the group is the smallest of greatest excess among all groups. The total of P2 and the two groups of P3. P4: a budget
-- above F.
-- Assumes nothing.
use mathlib.Core.Path.{◌≡◌, refl}
use mathlib.Core.Bool.{Bool, not, ◌&&◌, ◌||◌}
use mathlib.Core.List.{List, [], ◌∷◌}
use Prim.Native.Nat.{ℕ, ◌+◌, ◌^◌, ◌≤◌, ◌<◌}
use native.Mathlib.Omega.{arith}
use lib.Dec.{T, eqb, ltb, eqb→eq, ltb→lt, lit<}
use lib.ListN.{length}
use borrow.Author.Tests.{eq-eqb}
use Rattle.rules.specs.Allocation.{limit_of}
use Rattle.rules.specs.Sum.{sum_to, first_at}
use Rattle.rules.specs.Sets.{has, union}
use Rattle.rules.specs.Excess.{group_budget, capacity, group_capacity, Exceeds, Smallest}
use Rattle.rules.specs.Tests.{tested_set, bad_frame, bad_cores, bad_tasks, empty_mask, past_cores, bad_budget, tested}
use Rattle.rules.specs.Plan.{at}
use Rattle.rules.specs.Settled.{OnlyGroups, Holds, overloads, excess, total, refuses}
use Rattle.rules.specs.declared.Answer.TheVariants.{Budget}
use Rattle.rules.proofs.Below.{all_below, each_below, and_left, and_right}
use Rattle.rules.proofs.Computed.{or_right, greatest_test, smallest_test, smallest_computed, same_test, same_computed}
use Rattle.rules.proofs.Settled.Sets.{Alloc, Passes, overloaded_only, refused_only}

-- the groups of an excess, by two tests that antt computes
module _ (F m : ℕ) (budgets masks : List ℕ) (e : ℕ) (groups : List ℕ) where
  abbrev excess_at : ℕ → Bool
  excess_at g = eqb (group_budget (length budgets) (at budgets) g) (group_capacity (length budgets) m (limit_of F) (at budgets) (at masks) g + e)

  abbrev place : ℕ → ℕ
  place g = first_at (eqb g) groups

  abbrev listed : ℕ → Bool
  listed g = ltb (place g) (length groups) && eqb g (at groups (place g))

  unfoldable pub each_test : Bool
  each_test = all_below (length groups) (λ k. excess_at (at groups k))

  unfoldable pub other_test : Bool
  other_test = all_below (2 ^ length budgets) (λ g. not (excess_at g) || listed g)

  groups_computed : T each_test → T other_test → OnlyGroups F m budgets masks e groups
  unfolding each_test other_test
  groups_computed a b =
      record {
        each = λ k l. eqb→eq _ _ (each_below (length groups) (λ k. excess_at (at groups k)) a k l);
        no_other = λ g l h. found g (or_right (excess_at g) (listed g) (each_below (2 ^ length budgets) (λ g. not (excess_at g) || listed g) b g l) (rw (eq-eqb _ _ h) tt));
      }
    where
      found : (g : ℕ) → T (listed g) → (k : ℕ) × (k < length groups) × (g ≡ at groups k)
      found g t = (
        place g,
        ltb→lt _ _ (and_left (ltb (place g) (length groups)) (eqb g (at groups (place g))) t),
        eqb→eq _ _ (and_right (ltb (place g) (length groups)) (eqb g (at groups (place g))) t),
      )

pass2 : Passes 10 2 (8 ∷ 8 ∷ 3 ∷ []) (0b01 ∷ 0b01 ∷ 0b10 ∷ [])
unfolding tested tested_set bad_frame bad_cores bad_tasks empty_mask past_cores bad_budget first_at
pass2 before roomy = rw roomy

none2 : (x : ℕ → ℕ → ℕ) → Alloc 10 2 (8 ∷ 8 ∷ 3 ∷ []) (0b01 ∷ 0b01 ∷ 0b10 ∷ []) x → ⊥
unfolding sum_to has
none2 x a =
    let a01 : x 0 1 ≡ 0 = a.inside 0 (lit< tt) 1 (lit< tt) refl in
    let a11 : x 1 1 ≡ 0 = a.inside 1 (lit< tt) 1 (lit< tt) refl in
    let r0 : 0 + x 0 0 + x 0 1 ≡ 8 = a.exact 0 (lit< tt) in
    let r1 : 0 + x 1 0 + x 1 1 ≡ 8 = a.exact 1 (lit< tt) in
    let c0 : 0 + x 0 0 + x 1 0 + x 2 0 ≤ 10 = a.within 0 (lit< tt) in
    omega arith

smallest2 : Smallest 3 2 (limit_of 10) (at (8 ∷ 8 ∷ 3 ∷ [])) (at (0b01 ∷ 0b01 ∷ 0b10 ∷ [])) 0b011
unfolding sum_to has union group_budget capacity group_capacity greatest_test smallest_test
smallest2 = smallest_computed 3 2 _ _ _ 0b011 (lit< tt) tt tt

pub p2 : Holds (overloads 10 2 (8 ∷ 8 ∷ 3 ∷ []) (0b01 ∷ 0b01 ∷ 0b10 ∷ []) 0b011 0b01 6)
unfolding sum_to has union group_budget capacity group_capacity Exceeds same_test
p2 = (overloaded_only 10 2 (8 ∷ 8 ∷ 3 ∷ []) (0b01 ∷ 0b01 ∷ 0b10 ∷ []) 0b011 0b01 pass2 none2 smallest2 (lit< tt) refl (same_computed 3 0b011 tt), smallest2, refl, refl)

pub total2 : Holds (total 10 2 (8 ∷ 8 ∷ 3 ∷ []) 19 20)
unfolding sum_to
total2 = (refl, refl, lit< tt)

pass3 : Passes 10 2 (6 ∷ 6 ∷ 10 ∷ []) (0b01 ∷ 0b01 ∷ 0b10 ∷ [])
unfolding tested tested_set bad_frame bad_cores bad_tasks empty_mask past_cores bad_budget first_at
pass3 before roomy = rw roomy

none3 : (x : ℕ → ℕ → ℕ) → Alloc 10 2 (6 ∷ 6 ∷ 10 ∷ []) (0b01 ∷ 0b01 ∷ 0b10 ∷ []) x → ⊥
unfolding sum_to has
none3 x a =
    let a01 : x 0 1 ≡ 0 = a.inside 0 (lit< tt) 1 (lit< tt) refl in
    let a11 : x 1 1 ≡ 0 = a.inside 1 (lit< tt) 1 (lit< tt) refl in
    let r0 : 0 + x 0 0 + x 0 1 ≡ 6 = a.exact 0 (lit< tt) in
    let r1 : 0 + x 1 0 + x 1 1 ≡ 6 = a.exact 1 (lit< tt) in
    let c0 : 0 + x 0 0 + x 1 0 + x 2 0 ≤ 10 = a.within 0 (lit< tt) in
    omega arith

smallest3 : Smallest 3 2 (limit_of 10) (at (6 ∷ 6 ∷ 10 ∷ [])) (at (0b01 ∷ 0b01 ∷ 0b10 ∷ [])) 0b011
unfolding sum_to has union group_budget capacity group_capacity greatest_test smallest_test
smallest3 = smallest_computed 3 2 _ _ _ 0b011 (lit< tt) tt tt

pub p3 : Holds (overloads 10 2 (6 ∷ 6 ∷ 10 ∷ []) (0b01 ∷ 0b01 ∷ 0b10 ∷ []) 0b011 0b01 2)
unfolding sum_to has union group_budget capacity group_capacity Exceeds same_test
p3 = (overloaded_only 10 2 (6 ∷ 6 ∷ 10 ∷ []) (0b01 ∷ 0b01 ∷ 0b10 ∷ []) 0b011 0b01 pass3 none3 smallest3 (lit< tt) refl (same_computed 3 0b011 tt), smallest3, refl, refl)

pub groups3 : Holds (excess 10 2 (6 ∷ 6 ∷ 10 ∷ []) (0b01 ∷ 0b01 ∷ 0b10 ∷ []) 2 (0b011 ∷ 0b111 ∷ []))
unfolding sum_to first_at has union group_budget capacity group_capacity each_test other_test
groups3 = groups_computed 10 2 (6 ∷ 6 ∷ 10 ∷ []) (0b01 ∷ 0b01 ∷ 0b10 ∷ []) 2 (0b011 ∷ 0b111 ∷ []) tt tt

pass6 : Passes 10 1 (5 ∷ 6 ∷ []) (0b1 ∷ 0b1 ∷ [])
unfolding tested tested_set bad_frame bad_cores bad_tasks empty_mask past_cores bad_budget first_at
pass6 before roomy = rw roomy

none6 : (x : ℕ → ℕ → ℕ) → Alloc 10 1 (5 ∷ 6 ∷ []) (0b1 ∷ 0b1 ∷ []) x → ⊥
unfolding sum_to has
none6 x a =
    let r0 : 0 + x 0 0 ≡ 5 = a.exact 0 (lit< tt) in
    let r1 : 0 + x 1 0 ≡ 6 = a.exact 1 (lit< tt) in
    let c0 : 0 + x 0 0 + x 1 0 ≤ 10 = a.within 0 (lit< tt) in
    omega arith

smallest6 : Smallest 2 1 (limit_of 10) (at (5 ∷ 6 ∷ [])) (at (0b1 ∷ 0b1 ∷ [])) 0b11
unfolding sum_to has union group_budget capacity group_capacity greatest_test smallest_test
smallest6 = smallest_computed 2 1 _ _ _ 0b11 (lit< tt) tt tt

pub p6 : Holds (overloads 10 1 (5 ∷ 6 ∷ []) (0b1 ∷ 0b1 ∷ []) 0b11 0b1 1)
unfolding sum_to has union group_budget capacity group_capacity Exceeds same_test
p6 = (overloaded_only 10 1 (5 ∷ 6 ∷ []) (0b1 ∷ 0b1 ∷ []) 0b11 0b1 pass6 none6 smallest6 (lit< tt) refl (same_computed 2 0b11 tt), smallest6, refl, refl)

pub p4 : Holds (refuses 10 2 (11 ∷ []) (0b11 ∷ []) (Budget 0) 5 (0 ∷ []))
unfolding tested tested_set bad_frame bad_cores bad_tasks empty_mask past_cores bad_budget first_at
p4 = (refused_only 10 2 (11 ∷ []) (0b11 ∷ []) (Budget 0) (λ before. refl), refl, refl)
