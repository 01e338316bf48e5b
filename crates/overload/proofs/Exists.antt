-- "Overload stands exactly when no allocation exists". One way is counting. The other: unit by unit, a task with a budget can place one
-- unit on some core of its mask so that still no group exceeds; otherwise each of its cores lies in the union of a group that fills its
-- cores, so all lie in that of the groups' union, which fills its cores too, and with the task added exceeds them.
-- Assumes nothing.
use mathlib.Core.Path.{◌≡◌, refl, sym, ◌∙◌, ap, ap₂}
use mathlib.Core.Logic.{◌⊎◌, inl, inr, ⊎_elim}
use Prim.Native.Nat.{ℕ, zero, suc, ◌+◌, ◌*◌, ◌-◌, ◌^◌, ◌≤◌, ◌<◌}
use native.Mathlib.Nat.{le_trans, le_of_eq, mul-le-mul_right, add-mul, max-add-min, mul-suc, not-suc-le-zero}
use native.Mathlib.Decide.{ℕ_discrete, dec_lt, dec_le}
use native.Mathlib.Omega.{arith}
use lib.Bits.{bit_or, bit_and, or_lt, and_lt}
use lib.Pow.{pow_pos}
use Rattle.rules.specs.Sum.{sum_to, put}
use Rattle.rules.specs.Sets.{has, union}
use Rattle.rules.specs.Allocation.{Allocation}
use Rattle.rules.specs.Excess.{group_budget, capacity, group_capacity, Exceeds, Overload}
use Rattle.sums.proofs.Order.{zero_of}
use Rattle.sums.proofs.Sum.{sum_but_one, put_same, put_other, sum_put, sum_cong, sum_le, sum_zero, sum_add, sum_term, sum_some}
use Rattle.sums.proofs.Sets.{has_lt, has_zero, has_none, has_or, has_and, with_same, with_other, with_lt, union_has, union_from}
use Rattle.overload.proofs.NoRoom.{part_in, part_out, allocation_fits_every_group}

-- a bounded search, where each number has one of two properties
find_first : (P Q : ℕ → Type 0) → ((g : ℕ) → P g ⊎ Q g) → (k : ℕ) → ((g : ℕ) → g < k → P g) ⊎ ((g : ℕ) × (g < k) × Q g)
find_first P Q d zero = inl (λ g l. absurd (not-suc-le-zero l))
find_first P Q d (suc k) =
    ⊎_elim
    (λ all. ⊎_elim (λ p. inl (λ g l. elim (ℕ_discrete g k) [ yes e ↦ rw e p | no ne ↦ all g (below l ne) ])) (λ q. inr (k, omega arith, q)) (d k))
    (λ r. inr (r.0, omega (arith, r.1), r.2))
    (find_first P Q d k)
  where
    below : {g : ℕ} → g < suc k → (g ≡ k → ⊥) → g < k
    below l ne = omega arith

-- a product with one less
one_less : (a v : ℕ) → 0 < v → a * (v - 1) + a ≡ a * v
one_less a (suc v) h = ap (λ (k : ℕ). a * k + a) (down v) ∙ sym (mul-suc a v)
  where
    down : (v : ℕ) → suc v - 1 ≡ v
    down v = omega arith
one_less a zero h = absurd (not-suc-le-zero h)

module _ (n m : ℕ) (mask : ℕ → ℕ) where
  cores : ℕ → ℕ
  cores g = union n mask g

  -- more tasks, more cores
  cores_more : (g h j : ℕ) → ((t : ℕ) → has g t ≡ 1 → has h t ≡ 1) → has (cores g) j ≡ 1 → has (cores h) j ≡ 1
  unfolding cores
  cores_more g h j s e = let r = union_from n mask g j e in union_has n mask h r.0 j r.1 (s r.0 r.2) r.3

  or_left : (g h t : ℕ) → has g t ≡ 1 → has (bit_or g h) t ≡ 1
  or_left g h t e = has_or g h t ∙ omega (arith, has_lt h t)

  or_right : (g h t : ℕ) → has h t ≡ 1 → has (bit_or g h) t ≡ 1
  or_right g h t e = has_or g h t ∙ omega (arith, has_lt g t)

  -- a core of the common part is a core of both, a core of the union one of either
  cores_sub : (g h j : ℕ) → has (cores (bit_or g h)) j + has (cores (bit_and g h)) j ≤ has (cores g) j + has (cores h) j
  unfolding cores
  cores_sub g h j =
      elim (ℕ_discrete (has (cores (bit_and g h)) j) 1) [
        | yes e ↦
            both (has_lt (cores (bit_or g h)) j) (has_lt (cores (bit_and g h)) j)
            (cores_more (bit_and g h) g j (λ t a. and_left t a) e) (cores_more (bit_and g h) h j (λ t a. and_right t a) e)
        | no ne ↦
            elim (ℕ_discrete (has (cores (bit_or g h)) j) 1) [
              | yes e ↦ one e (has_zero (cores (bit_and g h)) j ne) (either e)
              | no no_or ↦ neither (has_zero (cores (bit_and g h)) j ne) (has_zero (cores (bit_or g h)) j no_or)
            ]
      ]
    where
      and_left : (t : ℕ) → has (bit_and g h) t ≡ 1 → has g t ≡ 1
      and_left t a = omega (arith, has_and g h t, has_lt g t)

      and_right : (t : ℕ) → has (bit_and g h) t ≡ 1 → has h t ≡ 1
      and_right t a = omega (arith, has_and g h t, has_lt h t)

      both : {a b c d : ℕ} → a < 2 → b < 2 → c ≡ 1 → d ≡ 1 → a + b ≤ c + d
      both p q r s = omega arith

      neither : {a b s : ℕ} → b ≡ 0 → a ≡ 0 → a + b ≤ s
      neither p q = omega arith

      one : {a b s : ℕ} → a ≡ 1 → b ≡ 0 → 1 ≤ s → a + b ≤ s
      one p q r = omega arith

      either : has (cores (bit_or g h)) j ≡ 1 → 1 ≤ has (cores g) j + has (cores h) j
      either e =
          let r = union_from n mask (bit_or g h) j e in
          elim (ℕ_discrete (has g r.0) 1) [
            | yes a ↦ left_in (has (cores h) j) (union_has n mask g r.0 j r.1 a r.3)
            | no na ↦ right_in (has (cores g) j) (union_has n mask h r.0 j r.1 (other r.0 r.2 (has_zero g r.0 na)) r.3)
          ]
        where
          other : (t : ℕ) → has (bit_or g h) t ≡ 1 → has g t ≡ 0 → has h t ≡ 1
          other t a b = omega (arith, has_or g h t, has_lt h t)

          left_in : {a : ℕ} (b : ℕ) → a ≡ 1 → 1 ≤ a + b
          left_in b e = omega arith

          right_in : {b : ℕ} (a : ℕ) → b ≡ 1 → 1 ≤ a + b
          right_in a e = omega arith

  module _ (limit budget : ℕ → ℕ) where
    need : ℕ → ℕ
    need g = group_budget n budget g

    space : ℕ → ℕ
    space g = group_capacity n m limit budget mask g

    -- no group exceeds its cores
    Fits : Type 0
    Fits = (g : ℕ) → g < 2 ^ n → need g ≤ space g

    need_modular : (g h : ℕ) → need (bit_or g h) + need (bit_and g h) ≡ need g + need h
    unfolding need group_budget
    need_modular g h =
        sym (sum_add n (λ i. has (bit_or g h) i * budget i) (λ i. has (bit_and g h) i * budget i))
        ∙ sum_cong n
        (λ i l.
        sym (add-mul (has (bit_or g h) i) (has (bit_and g h) i) (budget i))
        ∙ ap (λ (v : ℕ). v * budget i) (ap₂ ◌+◌ (has_or g h i) (has_and g h i) ∙ max-add-min (has g i) (has h i))
        ∙ add-mul (has g i) (has h i) (budget i))
        ∙ sum_add n (λ i. has g i * budget i) (λ i. has h i * budget i)

    space_sub : (g h : ℕ) → space (bit_or g h) + space (bit_and g h) ≤ space g + space h
    unfolding space group_capacity capacity cores
    space_sub g h =
        le_trans
        (le_of_eq (sym (sum_add m (λ j. has (cores (bit_or g h)) j * limit j) (λ j. has (cores (bit_and g h)) j * limit j))))
        (le_trans
        (sum_le m
        (λ j l.
        le_trans (le_of_eq (sym (add-mul (has (cores (bit_or g h)) j) (has (cores (bit_and g h)) j) (limit j))))
        (le_trans (mul-le-mul_right (limit j) (cores_sub g h j)) (le_of_eq (add-mul (has (cores g) j) (has (cores h) j) (limit j))))))
        (le_of_eq (sum_add m (λ j. has (cores g) j * limit j) (λ j. has (cores h) j * limit j))))

    -- groups that fill their cores, without the task i, and their union
    record Tight (i g : ℕ) : Type 0 where
      pub small : g < 2 ^ n
      pub without : has g i ≡ 0
      pub full : need g ≡ space g

    tight_none : (i : ℕ) → Tight i 0
    unfolding need space group_budget group_capacity capacity
    tight_none i =
        record {
          small = pow_pos n;
          without = has_none i;
          full = sum_zero n (λ k l. part_out 0 k (budget k) (has_none k)) ∙ sym (sum_zero m (λ j l. part_out (union n mask 0) j (limit j) (none j)));
        }
      where
        none : (j : ℕ) → has (union n mask 0) j ≡ 0
        none j = has_zero (union n mask 0) j (λ e. let r = union_from n mask 0 j e in clash (has_none r.0) r.2)
          where
            clash : {a : ℕ} → a ≡ 0 → a ≡ 1 → ⊥
            clash e f = omega arith

    tight_union : Fits → (i g h : ℕ) → Tight i g → Tight i h → Tight i (bit_or g h)
    unfolding Fits
    tight_union fits i g h a b =
        record {
          small = or_lt n g h a.small b.small;
          without = has_or g h i ∙ omega (arith, a.without, b.without);
          full =
              meet (need_modular g h) (space_sub g h) a.full b.full (fits (bit_or g h) (or_lt n g h a.small b.small))
              (fits (bit_and g h) (and_lt n g h a.small b.small));
        }
      where
        meet : need (bit_or g h) + need (bit_and g h) ≡ need g + need h → space (bit_or g h) + space (bit_and g h) ≤ space g + space h → need g ≡ space g
            → need h ≡ space h → need (bit_or g h) ≤ space (bit_or g h) → need (bit_and g h) ≤ space (bit_and g h) → need (bit_or g h) ≡ space (bit_or g h)
        meet p q r s u w = omega arith

  -- ---- one unit of task i on core j

  module _ (limit budget : ℕ → ℕ) (fits : Fits limit budget) (i : ℕ) (i-in : i < n) (some : 0 < budget i) where
    less_budget : ℕ → ℕ
    less_budget = put i (budget i - 1) budget

    less_limit : ℕ → ℕ → ℕ
    less_limit j = put j (limit j - 1) limit

    need_less : (g : ℕ) → group_budget n less_budget g + has g i ≡ group_budget n budget g
    unfolding group_budget less_budget
    need_less g =
        even (sum_to n (λ k. has g k * put i (budget i - 1) budget k)) (sum_to n (λ k. has g k * budget k))
        (sum_but_one n i (λ k. has g k * put i (budget i - 1) budget k) (λ k. has g k * budget k) i-in
        (λ k l ne. ap (λ (v : ℕ). has g k * v) (put_other i (budget i - 1) budget k ne)))
        (ap (λ (v : ℕ). has g i * v) (put_same i (budget i - 1) budget)) (one_less (has g i) (budget i) some)
      where
        even : {p q r : ℕ} (a b : ℕ) → a + p ≡ b + q → q ≡ r → r + has g i ≡ p → a + has g i ≡ b
        even a b e f h = omega arith

    space_less : (j : ℕ) → j < m → 0 < limit j → (g : ℕ)
        → group_capacity n m (less_limit j) less_budget mask g + has (cores g) j ≡ group_capacity n m limit budget mask g
    unfolding group_capacity capacity less_limit cores
    space_less j l h g =
        even (sum_to m (λ k. has (union n mask g) k * put j (limit j - 1) limit k)) (sum_to m (λ k. has (union n mask g) k * limit k))
        (sum_but_one m j (λ k. has (union n mask g) k * put j (limit j - 1) limit k) (λ k. has (union n mask g) k * limit k) l
        (λ k u ne. ap (λ (v : ℕ). has (union n mask g) k * v) (put_other j (limit j - 1) limit k ne)))
        (ap (λ (v : ℕ). has (union n mask g) j * v) (put_same j (limit j - 1) limit)) (one_less (has (union n mask g) j) (limit j) h)
      where
        even : {p q r : ℕ} (a b : ℕ) → a + p ≡ b + q → q ≡ r → r + has (union n mask g) j ≡ p → a + has (union n mask g) j ≡ b
        even a b e f h = omega arith

    -- core j takes the unit, and still no group exceeds
    record Good (j : ℕ) : Type 0 where
      pub core : j < m
      pub allowed : has (mask i) j ≡ 1
      pub room : 0 < limit j
      pub still : Fits (less_limit j) less_budget

    -- a group that fills its cores and holds all cores of the task below k that have a limit
    record Covers (k g : ℕ) : Type 0 where
      pub tight : Tight limit budget i g
      pub holds : (j : ℕ) → j < k → has (mask i) j ≡ 1 → 0 < limit j → has (cores g) j ≡ 1

    exceeding_fills : (j : ℕ) → j < m → 0 < limit j → (g : ℕ) → g < 2 ^ n → space (less_limit j) less_budget g < need (less_limit j) less_budget g
        → Tight limit budget i g × (has (cores g) j ≡ 1)
    unfolding Fits need space
    exceeding_fills j l h g k e =
        (record { small = k; without = parts.0; full = parts.1 }, parts.2)
      where
        parts : (has g i ≡ 0) × (group_budget n budget g ≡ group_capacity n m limit budget mask g) × (has (cores g) j ≡ 1)
        parts = (
          omega (arith, need_less g, space_less j l h g, fits g k, has_lt g i, has_lt (cores g) j),
          omega (arith, need_less g, space_less j l h g, fits g k, has_lt g i, has_lt (cores g) j),
          omega (arith, need_less g, space_less j l h g, fits g k, has_lt g i, has_lt (cores g) j),
        )

    -- core k of the task: it is good, or the group grows
    one_core : (k g : ℕ) → k < m → Covers k g → ((j : ℕ) × Good j) ⊎ ((h : ℕ) × Covers (suc k) h)
    unfolding Fits
    one_core k g l c =
        elim (ℕ_discrete (has (mask i) k) 1) [
          | no ne ↦ inr (g, record { tight = c.tight; holds = λ j u a b. c.holds j (below u (λ e. ne (sym (ap (has (mask i)) e) ∙ a))) a b })
          | yes a ↦
              elim (dec_lt 0 (limit k)) [
                | no z ↦ inr (g, record { tight = c.tight; holds = λ j u b p. c.holds j (below u (λ e. z (moved e p))) b p })
                | yes p ↦
                    ⊎_elim
                    (λ f. inl (k, record { core = l; allowed = a; room = p; still = f }))
                    (λ r. inr (bit_or g r.0, grown r.0 (exceeding_fills k l p r.0 r.1 r.2)))
                    (find_first (λ h. need (less_limit k) less_budget h ≤ space (less_limit k) less_budget h)
                    (λ h. space (less_limit k) less_budget h < need (less_limit k) less_budget h)
                    (λ h. elim (dec_le (need (less_limit k) less_budget h) (space (less_limit k) less_budget h)) [ yes f ↦ inl f | no f ↦ inr (turn f) ])
                    (2 ^ n))
              ]
        ]
      where
        below : {j : ℕ} → j < suc k → (j ≡ k → ⊥) → j < k
        below u ne = omega arith

        turn : {a b : ℕ} → (a ≤ b → ⊥) → b < a
        turn f = omega arith

        moved : {j : ℕ} → j ≡ k → 0 < limit j → 0 < limit k
        moved e p = rw e at p

        grown : (h : ℕ) → Tight limit budget i h × (has (cores h) k ≡ 1) → Covers (suc k) (bit_or g h)
        grown h r =
            record {
              tight = tight_union limit budget fits i g h c.tight r.0;
              holds = λ j u b p.
                  elim (ℕ_discrete j k) [
                    | yes e ↦ rw e (cores_more h (bit_or g h) k (or_right g h) r.1)
                    | no ne ↦ cores_more g (bit_or g h) j (or_left g h) (c.holds j (below u ne) b p)
                  ];
            }

    each_core : (k : ℕ) → k ≤ m → ((j : ℕ) × Good j) ⊎ ((h : ℕ) × Covers k h)
    each_core zero l =
        inr (0, record { tight = tight_none limit budget i; holds = λ j u b p. absurd (not-suc-le-zero u) })
    each_core (suc k) l = ⊎_elim (λ r. inl r) (λ r. one_core k r.0 l r.1) (each_core k (omega arith))

    -- a group that holds all cores of the task would exceed them with the task
    not_all : (g : ℕ) → Covers m g → ⊥
    unfolding Fits need space group_budget group_capacity capacity cores
    not_all g c =
        clash (fits (bit_or g (2 ^ i)) (with_lt n g i c.tight.small i-in)) c.tight.full added
        (sum_le m {f = λ j. has (union n mask (bit_or g (2 ^ i))) j * limit j} {g = λ j. has (union n mask g) j * limit j} same_space)
      where
        added : sum_to n (λ k. has (bit_or g (2 ^ i)) k * budget k) ≡ sum_to n (λ k. has g k * budget k) + budget i
        added =
            plus (sum_to n (λ k. has g k * budget k))
            (sum_but_one n i (λ k. has (bit_or g (2 ^ i)) k * budget k) (λ k. has g k * budget k) i-in
            (λ k l ne. ap (λ (v : ℕ). v * budget k) (with_other g i k ne)))
            (part_out g i (budget i) c.tight.without) (part_in (bit_or g (2 ^ i)) i (budget i) (with_same g i))
          where
            plus : {a p q : ℕ} (b : ℕ) → a + p ≡ b + q → p ≡ 0 → q ≡ budget i → a ≡ b + budget i
            plus b e f h = omega arith

        from_old : (j : ℕ) → j < m → 0 < limit j → has (union n mask (bit_or g (2 ^ i))) j ≡ 1 → has (union n mask g) j ≡ 1
        from_old j l p e =
            let r = union_from n mask (bit_or g (2 ^ i)) j e in
            elim (ℕ_discrete r.0 i) [
              | yes d ↦ c.holds j l (sym (ap (λ (t : ℕ). has (mask t) j) d) ∙ r.3) p
              | no ne ↦ union_has n mask g r.0 j r.1 (sym (with_other g i r.0 ne) ∙ r.2) r.3
            ]

        same_space : (j : ℕ) → j < m → has (union n mask (bit_or g (2 ^ i))) j * limit j ≤ has (union n mask g) j * limit j
        same_space j l =
            elim (ℕ_discrete (has (union n mask (bit_or g (2 ^ i))) j) 1) [
              | no ne ↦ none (part_out (union n mask (bit_or g (2 ^ i))) j (limit j) (has_zero (union n mask (bit_or g (2 ^ i))) j ne))
              | yes e ↦
                  elim (dec_lt 0 (limit j)) [
                    | yes p ↦ le_of_eq (part_in (union n mask (bit_or g (2 ^ i))) j (limit j) e ∙ sym (part_in (union n mask g) j (limit j) (from_old j l p e)))
                    | no z ↦ none (part_in (union n mask (bit_or g (2 ^ i))) j (limit j) e ∙ zero_of z)
                  ]
            ]
          where
            none : {a b : ℕ} → a ≡ 0 → a ≤ b
            none e = omega arith

        clash : {s t u v : ℕ} → s ≤ t → u ≡ v → s ≡ u + budget i → t ≤ v → ⊥
        clash p q r w = omega arith

    good_core : (j : ℕ) × Good j
    good_core = ⊎_elim (λ r. r) (λ r. absurd (not_all r.0 r.1)) (each_core m (native.Mathlib.Nat.le_refl m))

    -- one unit at (i, j), and the allocation with it
    unit : ℕ → ℕ → ℕ → ℕ
    unit j a b = put i (put j 1 (λ k. 0) b) (λ k. 0) a

    unit_row : (j : ℕ) → j < m → sum_to m (unit j i) ≡ 1
    unfolding unit
    unit_row j l =
        sum_cong m (λ b k. put_same i (put j 1 (λ k. 0) b) (λ k. 0))
        ∙ one (sum_put m j 1 (λ k. 0) l) (sum_zero m (λ k u. refl))
      where
        one : {a b : ℕ} → a + 0 ≡ b + 1 → b ≡ 0 → a ≡ 1
        one e f = omega arith

    unit_row_other : (j a : ℕ) → (a ≡ i → ⊥) → sum_to m (unit j a) ≡ 0
    unfolding unit
    unit_row_other j a ne = sum_zero m (λ b k. put_other i (put j 1 (λ k. 0) b) (λ k. 0) a ne)

    unit_column : (j : ℕ) → sum_to n (λ a. unit j a j) ≡ 1
    unfolding unit
    unit_column j =
        one (sum_put n i (put j 1 (λ k. 0) j) (λ k. 0) i-in) (sum_zero n (λ k u. refl)) (put_same j 1 (λ k. 0))
      where
        one : {a b v : ℕ} → a + 0 ≡ b + v → b ≡ 0 → v ≡ 1 → a ≡ 1
        one e f g = omega arith

    unit_column_other : (j b : ℕ) → (b ≡ j → ⊥) → sum_to n (λ a. unit j a b) ≡ 0
    unfolding unit
    unit_column_other j b ne =
        none (sum_put n i (put j 1 (λ k. 0) b) (λ k. 0) i-in) (sum_zero n (λ k u. refl)) (put_other j 1 (λ k. 0) b ne)
      where
        none : {a b v : ℕ} → a + 0 ≡ b + v → b ≡ 0 → v ≡ 0 → a ≡ 0
        none e f g = omega arith

    unit_inside : (j a b : ℕ) → ((a ≡ i) × (b ≡ j) → ⊥) → unit j a b ≡ 0
    unfolding unit
    unit_inside j a b ne =
        elim (ℕ_discrete a i) [
          | no na ↦ put_other i (put j 1 (λ k. 0) b) (λ k. 0) a na
          | yes e ↦ rw e (put_same i (put j 1 (λ k. 0) b) (λ k. 0)) ∙ put_other j 1 (λ k. 0) b (λ d. ne (e, d))
        ]

    with_unit : (j : ℕ) → Good j → (x : ℕ → ℕ → ℕ) → Allocation n m (less_limit j) less_budget mask x → Allocation n m limit budget mask (λ a b. x a b + unit j a b)
    unfolding less_limit less_budget
    with_unit j good x al =
        record {
          inside = λ a l b k z.
              both (al.inside a l b k z) (unit_inside j a b (λ p. clash (sym (ap₂ (λ (t c : ℕ). has (mask t) c) p.0 p.1) ∙ z) good.allowed));
          exact = λ a l.
              sum_add m (x a) (unit j a)
              ∙ elim (ℕ_discrete a i) [
                | yes e ↦ rw e (up (al.exact i i-in ∙ put_same i (budget i - 1) budget) (unit_row j good.core) some)
                | no na ↦ same (al.exact a l ∙ put_other i (budget i - 1) budget a na) (unit_row_other j a na)
              ];
          within = λ b k.
              le_trans (le_of_eq (sum_add n (λ a. x a b) (λ a. unit j a b)))
              (elim (ℕ_discrete b j) [
                | yes e ↦ rw e (up_le (al.within j good.core) (put_same j (limit j - 1) limit) (unit_column j) good.room)
                | no nb ↦ same_le (al.within b k) (put_other j (limit j - 1) limit b nb) (unit_column_other j b nb)
              ]);
        }
      where
        both : {p q : ℕ} → p ≡ 0 → q ≡ 0 → p + q ≡ 0
        both e f = omega arith

        clash : {p : ℕ} → p ≡ 0 → p ≡ 1 → ⊥
        clash e f = omega arith

        up : {p q v : ℕ} → p ≡ v - 1 → q ≡ 1 → 0 < v → p + q ≡ v
        up e f h = omega arith

        same : {p q v : ℕ} → p ≡ v → q ≡ 0 → p + q ≡ v
        same e f = omega arith

        up_le : {p q w v : ℕ} → p ≤ w → w ≡ v - 1 → q ≡ 1 → 0 < v → p + q ≤ v
        up_le e f g h = omega arith

        same_le : {p q w v : ℕ} → p ≤ w → w ≡ v → q ≡ 0 → p + q ≤ v
        same_le e f g = omega arith

    fewer : sum_to n less_budget + 1 ≡ sum_to n budget
    unfolding less_budget
    fewer = omega (arith, sum_put n i (budget i - 1) budget i-in)

  -- no group exceeds, so an allocation exists: by the number of units
  exists : (s : ℕ) (limit budget : ℕ → ℕ) → sum_to n budget ≡ s → Fits limit budget → (x : ℕ → ℕ → ℕ) × Allocation n m limit budget mask x
  exists zero limit budget e fits = (
    λ a b. 0,
    record {
      inside = λ a l b k z. refl;
      exact = λ a l. sum_zero m (λ b k. refl) ∙ sym (nothing (sum_term n a budget l));
      within = λ b k. none (sum_zero n (λ a l. refl));
    },
  )
    where
      nothing : {v : ℕ} → v ≤ sum_to n budget → v ≡ 0
      nothing l = omega arith

      none : {a v : ℕ} → a ≡ 0 → a ≤ v
      none e = omega arith
  exists (suc s) limit budget e fits =
      let t = sum_some n budget (omega arith) in
      let g = good_core limit budget fits t.0 t.1 t.2 in
      let r = exists s (less_limit limit budget fits t.0 t.1 t.2 g.0) (less_budget limit budget fits t.0 t.1 t.2) (omega (arith, fewer limit budget fits t.0 t.1 t.2)) g.1.still in
      (λ a b. r.0 a b + unit limit budget fits t.0 t.1 t.2 g.0 a b, with_unit limit budget fits t.0 t.1 t.2 g.0 g.1 r.0 r.1)

module _ {n m : ℕ} {limit budget mask : ℕ → ℕ} where
  -- one of the two exists
  pub allocation_or_overload : ((x : ℕ → ℕ → ℕ) × Allocation n m limit budget mask x) ⊎ Overload n m limit budget mask
  unfolding Exceeds Fits need space
  allocation_or_overload =
      ⊎_elim (λ f. inl (exists n m mask (sum_to n budget) limit budget refl f)) (λ r. inr r)
      (find_first (λ g. group_budget n budget g ≤ group_capacity n m limit budget mask g)
      (λ g. group_capacity n m limit budget mask g < group_budget n budget g)
      (λ g. elim (dec_le (group_budget n budget g) (group_capacity n m limit budget mask g)) [ yes f ↦ inl f | no f ↦ inr (turn f) ])
      (2 ^ n))
    where
      turn : {a b : ℕ} → (a ≤ b → ⊥) → b < a
      turn f = omega arith

  -- "Overload stands exactly when no allocation exists"
  pub overloaded_exactly_without_allocation : (Overload n m limit budget mask → (x : ℕ → ℕ → ℕ) → Allocation n m limit budget mask x → ⊥)
      × (((x : ℕ → ℕ → ℕ) → Allocation n m limit budget mask x → ⊥) → Overload n m limit budget mask)
  overloaded_exactly_without_allocation =
      (λ o x a. allocation_fits_every_group a o.0 o.2, λ none. ⊎_elim (λ r. absurd (none r.0 r.1)) (λ o. o) allocation_or_overload)

  pub allocation_exactly_without_overload : (((x : ℕ → ℕ → ℕ) × Allocation n m limit budget mask x) → Overload n m limit budget mask → ⊥)
      × ((Overload n m limit budget mask → ⊥) → (x : ℕ → ℕ → ℕ) × Allocation n m limit budget mask x)
  allocation_exactly_without_overload =
      (λ r o. allocation_fits_every_group r.1 o.0 o.2, λ none. ⊎_elim (λ r. r) (λ o. absurd (none o)) allocation_or_overload)
