-- From a search that found no core with room to the group of answer 7: its excess is all that lacks, no group has more, and each group
-- with as much holds it.
-- Assumes nothing.
use mathlib.Core.Path.{◌≡◌, refl, sym, ◌∙◌, ap, ap₂}
use Prim.Native.Nat.{ℕ, ◌+◌, ◌*◌, ◌-◌, ◌^◌, ◌≤◌, ◌<◌}
use native.Mathlib.Nat.{le_trans, mul-le-mul_right, mul-add, mul-zero, zero-mul, one-mul, le_antisymm, le_of_eq}
use native.Mathlib.Decide.{ℕ_discrete, dec_lt}
use native.Mathlib.Omega.{arith}
use Rattle.rules.specs.Sum.{sum_to}
use Rattle.rules.specs.Sets.{has, union}
use Rattle.rules.specs.Allocation.{Allocation}
use Rattle.rules.specs.Excess.{group_budget, capacity, group_capacity, NoMore, Exceeds, Smallest}
use Rattle.sums.proofs.Order.{zero_of}
use Rattle.sums.proofs.Sum.{sum_cong, sum_le, sum_zero, sum_add, sum_scale, sum_swap, sum_term, sum_tight}
use Rattle.sums.proofs.Sets.{has_zero, has_one, has_le_one, has_ext, union_has, union_from, union_lt}
use Rattle.overload.specs.Stuck.{Partial, Closed, Stuck}

-- a member's part is the whole, any other's is nothing
pub part_le : (s i v : ℕ) → has s i * v ≤ v
part_le s i v = le_trans (mul-le-mul_right v (has_le_one s i)) (le_of_eq (one-mul v))

pub part_in : (s i v : ℕ) → has s i ≡ 1 → has s i * v ≡ v
part_in s i v e = ap (λ (k : ℕ). k * v) e ∙ one-mul v

pub part_out : (s i v : ℕ) → has s i ≡ 0 → has s i * v ≡ 0
part_out s i v e = ap (λ (k : ℕ). k * v) e ∙ zero-mul v

-- the part of what a member alone has is the whole
part_all : (s i v : ℕ) → (0 < v → has s i ≡ 1) → has s i * v ≡ v
part_all s i v f =
    elim (dec_lt 0 v) [
      | yes u ↦ part_in s i v (f u)
      | no z ↦ ap (λ (k : ℕ). has s i * k) (zero_of z) ∙ mul-zero (has s i) ∙ sym (zero_of z)
    ]

module _ {n m : ℕ} {limit budget mask : ℕ → ℕ} {x : ℕ → ℕ → ℕ} {left room : ℕ → ℕ} (p : Partial n m limit budget mask x left room) where
  -- the units of the group h on core j
  held : ℕ → ℕ → ℕ
  held h j = sum_to n (λ i. has h i * x i j)

  budget_held : (h : ℕ) → group_budget n budget h ≡ sum_to m (held h) + sum_to n (λ i. has h i * left i)
  unfolding group_budget held
  budget_held h =
      sum_cong n (λ i l. ap (λ (v : ℕ). has h i * v) (sym (p.row i l)) ∙ mul-add (has h i) (sum_to m (x i)) (left i))
      ∙ sum_add n (λ i. has h i * sum_to m (x i)) (λ i. has h i * left i)
      ∙ ap (λ (v : ℕ). v + sum_to n (λ i. has h i * left i))
      (sum_cong n (λ i l. sym (sum_scale m (has h i) (x i))) ∙ sum_swap n m (λ i j. has h i * x i j))

  -- units stand on a core of the mask
  allowed : (i : ℕ) → i < n → (j : ℕ) → j < m → 0 < x i j → has (mask i) j ≡ 1
  allowed i l j k u = has_one (mask i) j (λ z. clash (p.inside i l j k z))
    where
      clash : x i j ≡ 0 → ⊥
      clash e = omega arith

  Masks : ℕ → ℕ → Type 0
  Masks h c = (i : ℕ) → i < n → has h i ≡ 1 → (j : ℕ) → j < m → has (mask i) j ≡ 1 → has c j ≡ 1

  -- of a group and cores that hold its masks: what is held on a core is at most its limit, and nothing on any other
  held_out : (h c : ℕ) → Masks h c → (j : ℕ) → j < m → has c j ≡ 0 → held h j ≡ 0
  unfolding held Masks
  held_out h c masks j k z =
      sum_zero n
      (λ i l.
      elim (ℕ_discrete (has h i) 1) [
        | yes e ↦ part_in h i (x i j) e ∙ zero_of (λ u. apart z (masks i l e j k (allowed i l j k u)))
        | no ne ↦ part_out h i (x i j) (has_zero h i ne)
      ])
    where
      apart : {a : ℕ} → a ≡ 0 → a ≡ 1 → ⊥
      apart e f = omega arith

  held_le : (h c : ℕ) → Masks h c → (j : ℕ) → j < m → held h j ≤ has c j * limit j
  unfolding held
  held_le h c masks j k =
      elim (ℕ_discrete (has c j) 1) [
        | yes e ↦
            below (room j) (sum_le n {f = λ i. has h i * x i j} {g = λ i. x i j} (λ i l. part_le h i (x i j))) (p.column j k)
            (part_in c j (limit j) e)
        | no ne ↦ none (held_out h c masks j k (has_zero c j ne))
      ]
    where
      below : {a b l v : ℕ} (r : ℕ) → a ≤ b → b + r ≡ l → v ≡ l → a ≤ v
      below r s e f = omega arith

      none : {a v : ℕ} → a ≡ 0 → a ≤ v
      none e = omega arith

  union_masks : (h : ℕ) → Masks h (union n mask h)
  unfolding Masks
  union_masks h = λ i l e j k f. union_has n mask h i j l e f

  -- any group's budget fits its cores and what lacks
  pub budget_le : (h : ℕ) → group_budget n budget h ≤ group_capacity n m limit budget mask h + sum_to n left
  unfolding group_capacity capacity
  budget_le h =
      join (budget_held h) (sum_le m (held_le h (union n mask h) (union_masks h)))
      (sum_le n {f = λ i. has h i * left i} {g = left} (λ i l. part_le h i (left i)))
    where
      join : {b a l c t : ℕ} → b ≡ a + l → a ≤ c → l ≤ t → b ≤ c + t
      join e f g = omega arith

  module _ (h : ℕ) (t : group_capacity n m limit budget mask h + sum_to n left ≤ group_budget n budget h) where
    lacks : sum_to n left ≤ sum_to n (λ i. has h i * left i)
    unfolding group_capacity capacity
    lacks = join (budget_held h) t (sum_le m (held_le h (union n mask h) (union_masks h)))
      where
        join : {b a l c t : ℕ} → b ≡ a + l → c + t ≤ b → a ≤ c → t ≤ l
        join e f g = omega arith

    taken : sum_to m (λ j. has (union n mask h) j * limit j) ≤ sum_to m (held h)
    unfolding group_capacity capacity
    taken = join (budget_held h) t (sum_le n {f = λ i. has h i * left i} {g = left} (λ i l. part_le h i (left i)))
      where
        join : {b a l c t : ℕ} → b ≡ a + l → c + t ≤ b → l ≤ t → c ≤ a
        join e f g = omega arith

    on_core : (j : ℕ) → j < m → has (union n mask h) j ≡ 1 → sum_to n (λ i. x i j) ≤ sum_to n (λ i. has h i * x i j)
    unfolding held
    on_core j k e =
        join (room j)
        (sum_tight m (held h) (λ j. has (union n mask h) j * limit j) (held_le h (union n mask h) (union_masks h)) taken j k)
        (part_in (union n mask h) j (limit j) e) (p.column j k)
      where
        join : {a v l b : ℕ} (r : ℕ) → a ≡ v → v ≡ l → b + r ≡ l → b ≤ a
        join r e f g = omega arith

    counted : (i v : ℕ) → 0 < v → has h i * v ≡ v → has h i ≡ 1
    counted i v s e = has_one h i (λ z. clash (part_out h i v z))
      where
        clash : has h i * v ≡ 0 → ⊥
        clash z = omega arith

    -- a group whose excess is all that lacks is closed
    full_closed : Closed n m mask x left h (union n mask h)
    unfolding Masks
    full_closed =
        record {
          starts = λ i l s. counted i (left i) s (sum_tight n (λ i. has h i * left i) left (λ i l. part_le h i (left i)) lacks i l);
          masks = union_masks h;
          units = λ j k e i l u. counted i (x i j) u (sum_tight n (λ i. has h i * x i j) (λ i. x i j) (λ i l. part_le h i (x i j)) (on_core j k e) i l);
        }

  module _ {g c : ℕ} (s : Stuck n m mask x left room g c) (narrow : (i : ℕ) → i < n → mask i < 2 ^ m) where
    -- the cores found are those of the tasks found
    pub found_cores : c ≡ union n mask g
    found_cores =
        has_ext m c (union n mask g) s.cores (union_lt n mask g m narrow)
        (λ j k.
        elim (ℕ_discrete (has c j) 1) [
          | yes e ↦ e ∙ sym (there j k e)
          | no ne ↦ has_zero c j ne ∙ sym (has_zero (union n mask g) j (λ e. ne (back j k e)))
        ])
      where
        there : (j : ℕ) → j < m → has c j ≡ 1 → has (union n mask g) j ≡ 1
        there j k e = let r = s.reached j k e in union_has n mask g r.0 j r.1 r.2 r.3

        back : (j : ℕ) → j < m → has (union n mask g) j ≡ 1 → has c j ≡ 1
        back j k e = let r = union_from n mask g j e in s.closed.masks r.0 r.1 r.2 j k r.3

    held_found : (j : ℕ) → j < m → held g j ≡ has c j * limit j
    unfolding held Masks
    held_found j k =
        elim (ℕ_discrete (has c j) 1) [
          | yes e ↦
              sum_cong n (λ i l. part_all g i (x i j) (s.closed.units j k e i l)) ∙ full (p.column j k) (s.full j k e)
              ∙ sym (part_in c j (limit j) e)
          | no ne ↦
              held_out g c s.closed.masks j k (has_zero c j ne) ∙ sym (part_out c j (limit j) (has_zero c j ne))
        ]
      where
        full : {a r l : ℕ} → a + r ≡ l → r ≡ 0 → a ≡ l
        full e f = omega arith

    -- the excess of the tasks found is all that lacks
    pub found_excess : group_budget n budget g ≡ capacity m limit c + sum_to n left
    unfolding capacity
    found_excess =
        budget_held g
        ∙ ap₂ ◌+◌ (sum_cong m held_found) (sum_cong n (λ i l. part_all g i (left i) (s.closed.starts i l)))

    found_capacity : capacity m limit c ≡ group_capacity n m limit budget mask g
    unfolding group_capacity
    found_capacity = ap (capacity m limit) found_cores

    pub found_exceeds : 0 < sum_to n left → Exceeds n m limit budget mask g
    unfolding Exceeds
    found_exceeds l = omega (arith, found_excess, found_capacity)

    pub found_smallest : Smallest n m limit budget mask g
    unfolding NoMore
    found_smallest =
        record {
          tasks = s.tasks;
          greatest = λ h l. omega (arith, found_excess, found_capacity, budget_le h);
          smallest = λ h l t i k. in_each h i (s.least h (union n mask h) (full_closed h (much h t)) i k);
        }
      where
        much : (h : ℕ) → NoMore n m limit budget mask g h → group_capacity n m limit budget mask h + sum_to n left ≤ group_budget n budget h
        much h t = omega (arith, found_excess, found_capacity)

        in_each : (h i : ℕ) → (has g i ≡ 1 → has h i ≡ 1) → has g i ≤ has h i
        in_each h i f = elim (ℕ_discrete (has g i) 1) [ yes e ↦ le_of_eq (e ∙ sym (f e)) | no ne ↦ none (has_zero g i ne) ]
          where
            none : has g i ≡ 0 → has g i ≤ has h i
            none e = omega arith

    -- "It holds no zero-budget task"
    pub found_budgets : (i : ℕ) → i < n → has g i ≡ 1 → 0 < budget i
    found_budgets i l e =
        elim (dec_lt 0 (left i)) [
          | yes u ↦ omega (arith, p.row i l)
          | no z ↦ let r = s.touched i l e (zero_of z) in some (left i) r.2 (sum_term m r.0 (x i) r.1) (p.row i l)
        ]
      where
        some : {a b v : ℕ} (r : ℕ) → 0 < a → a ≤ b → b + r ≡ v → 0 < v
        some r u f e = omega arith

-- nothing lacks: the partial allocation is one
pub nothing_lacks : {n m : ℕ} {limit budget mask : ℕ → ℕ} {x : ℕ → ℕ → ℕ} {left room : ℕ → ℕ} → Partial n m limit budget mask x left room → sum_to n left ≡ 0
    → Allocation n m limit budget mask x
nothing_lacks {n} {left = left} {room = room} p z =
    record {
      inside = p.inside;
      exact = λ i l. all (p.row i l) (sum_term n i left l);
      within = λ j k. room_for (room j) (p.column j k);
    }
  where
    all : {a v b : ℕ} → a + v ≡ b → v ≤ sum_to n left → a ≡ b
    all e f = omega arith

    room_for : {a l : ℕ} (r : ℕ) → a + r ≡ l → a ≤ l
    room_for r e = omega arith

-- an allocation is a partial one that lacks nothing
pub allocation_partial : {n m : ℕ} {limit budget mask : ℕ → ℕ} {x : ℕ → ℕ → ℕ} → Allocation n m limit budget mask x
    → Partial n m limit budget mask x (λ i. 0) (λ j. limit j - sum_to n (λ i. x i j))
allocation_partial a =
    record { inside = a.inside; row = λ i l. none (a.exact i l); column = λ j k. rest (a.within j k) }
  where
    none : {v b : ℕ} → v ≡ b → v + 0 ≡ b
    none e = omega arith

    rest : {v l : ℕ} → v ≤ l → v + (l - v) ≡ l
    rest h = omega arith

-- an allocation exists, so no group exceeds its cores
pub allocation_fits_every_group : {n m : ℕ} {limit budget mask : ℕ → ℕ} {x : ℕ → ℕ → ℕ} → Allocation n m limit budget mask x → (g : ℕ)
    → Exceeds n m limit budget mask g → ⊥
unfolding Exceeds
allocation_fits_every_group {n} a g e = clash e (budget_le (allocation_partial a) g) (sum_zero n (λ i l. refl))
  where
    clash : {c b t : ℕ} → c < b → b ≤ c + t → t ≡ 0 → ⊥
    clash e f z = omega arith

-- "It is unique": two smallest groups of greatest excess are the same
pub smallest_group_is_unique : {n m : ℕ} {limit budget mask : ℕ → ℕ} {g h : ℕ} → Smallest n m limit budget mask g → Smallest n m limit budget mask h → g ≡ h
smallest_group_is_unique {n} {g = g} {h = h} p q =
    has_ext n g h p.tasks q.tasks
    (λ i l.
    le_antisymm (p.smallest h q.tasks (q.greatest g p.tasks) i l)
    (q.smallest g p.tasks (p.greatest h q.tasks) i l))
