-- A set from a choice of members, and a group without its tasks of budget 0.
-- Assumes nothing.
use mathlib.Core.Path.{◌≡◌, refl, sym, ◌∙◌, ap, subst}
use Prim.Native.Nat.{ℕ, zero, suc, ◌*◌, ◌^◌, ◌≤◌, ◌<◌}
use native.Mathlib.Decide.{ℕ_discrete}
use native.Mathlib.Nat.{not-suc-le-zero, mul-le-mul_right}
use native.Mathlib.Omega.{arith}
use lib.Bits.{bit_or}
use lib.Pow.{pow-lt}
use Rattle.rules.specs.Sum.{put}
use Rattle.rules.specs.Sets.{has, union}
use Rattle.rules.specs.Excess.{group_budget, capacity, group_capacity, NoMore, Smallest}
use Rattle.sums.proofs.Sum.{sum_cong, sum_le, put_same, put_other}
use Rattle.sums.proofs.Sets.{has_le_one, has_lt, has_above, with_same, with_other, with_lt, union_has, union_from}

-- the members i below n with f i above 0
collect : ℕ → (ℕ → ℕ) → ℕ
collect zero f = 0
collect (suc n) f = elim (f n) [ zero ↦ collect n f | suc v ↦ bit_or (collect n f) (2 ^ n) ]

wider : (n a : ℕ) → a < 2 ^ n → a < 2 ^ suc n
wider n a l = omega (arith, pow-lt {i = n} {j = suc n} (omega arith))

collect_lt : (n : ℕ) (f : ℕ → ℕ) → collect n f < 2 ^ n
unfolding collect
collect_lt zero f = omega arith
collect_lt (suc n) f = step (f n) (collect_lt n f)
  where
    step : (v : ℕ) → collect n f < 2 ^ n → (elim v as (λ w. ℕ) [ zero ↦ collect n f | suc v ↦ bit_or (collect n f) (2 ^ n) ]) < 2 ^ suc n
    step zero h = wider n (collect n f) h
    step (suc v) h = with_lt (suc n) (collect n f) n (wider n (collect n f) h) (omega arith)

Chosen : (n v : ℕ) (f : ℕ → ℕ) → ℕ
Chosen n v f = elim v as (λ w. ℕ) [ zero ↦ collect n f | suc u ↦ bit_or (collect n f) (2 ^ n) ]

chosen_last : (n v : ℕ) (f : ℕ → ℕ) → v ≤ 1 → has (Chosen n v f) n ≡ v
unfolding Chosen
chosen_last n zero f l = has_above n (collect_lt n f) (omega arith)
chosen_last n (suc v) f l = with_same (collect n f) n ∙ omega arith

chosen_before : (n v : ℕ) (f : ℕ → ℕ) (i : ℕ) → (i ≡ n → ⊥) → has (Chosen n v f) i ≡ has (collect n f) i
unfolding Chosen
chosen_before n zero f i ne = refl
chosen_before n (suc v) f i ne = with_other (collect n f) n i ne

has_collect : (n : ℕ) (f : ℕ → ℕ) → ((i : ℕ) → f i ≤ 1) → (i : ℕ) → i < n → has (collect n f) i ≡ f i
unfolding collect Chosen
has_collect zero f small i l = absurd (not-suc-le-zero l)
has_collect (suc n) f small i l =
    elim (ℕ_discrete i n) [
      | yes e ↦ subst (λ (k : ℕ). has (Chosen n (f n) f) k ≡ f k) (sym e) (chosen_last n (f n) f (small n))
      | no ne ↦ chosen_before n (f n) f i ne ∙ has_collect n f small i (omega arith)
    ]

-- the group carried by 7 "holds no zero-budget task": without it the excess would be as great
module _ (n m : ℕ) (limit budget mask : ℕ → ℕ) (g : ℕ) (s : Smallest n m limit budget mask g) (i : ℕ) (l : i < n) (none : budget i ≡ 0) where
  without : ℕ → ℕ
  without k = put i 0 (has g) k

  without_small : (k : ℕ) → without k ≤ 1
  unfolding without
  without_small k =
      elim (ℕ_discrete k i) [
        | yes e ↦ subst (λ (v : ℕ). v ≤ 1) (sym (ap (put i 0 (has g)) e ∙ put_same i 0 (has g))) (omega arith)
        | no ne ↦ subst (λ (v : ℕ). v ≤ 1) (sym (put_other i 0 (has g) k ne)) (has_le_one g k)
      ]

  less : ℕ
  less = collect n without

  less_other : (k : ℕ) → k < n → (k ≡ i → ⊥) → has less k ≡ has g k
  unfolding less without
  less_other k b ne = has_collect n without without_small k b ∙ put_other i 0 (has g) k ne

  less_self : has less i ≡ 0
  unfolding less without
  less_self = has_collect n without without_small i l ∙ put_same i 0 (has g)

  same_budget : group_budget n budget less ≡ group_budget n budget g
  unfolding group_budget
  same_budget =
      sum_cong n
      (λ k b.
      elim (ℕ_discrete k i) [
        | yes e ↦ ap (λ (j : ℕ). has less j * budget j) e ∙ ap (λ (v : ℕ). has less i * v) none ∙ zeros (has less i) (has g i) ∙ sym (ap (λ (v : ℕ). has g i * v) none) ∙ sym (ap (λ (j : ℕ). has g j * budget j) e)
        | no ne ↦ ap (λ (v : ℕ). v * budget k) (less_other k b ne)
      ])
    where
      zeros : (a b : ℕ) → a * 0 ≡ b * 0
      zeros a b = omega arith

  held : (k : ℕ) → k < n → has less k ≡ 1 → has g k ≡ 1
  held k b e =
      elim (ℕ_discrete k i) [
        | yes f ↦ absurd (wrong (ap (has less) (sym f) ∙ e))
        | no ne ↦ sym (less_other k b ne) ∙ e
      ]
    where
      wrong : has less i ≡ 1 → ⊥
      wrong h = omega (arith, less_self)

  fewer_cores : (j : ℕ) → has (union n mask less) j ≤ has (union n mask g) j
  fewer_cores j =
      elim (ℕ_discrete (has (union n mask less) j) 1) [
        | yes e ↦ let u = union_from n mask less j e in omega (arith, e, union_has n mask g u.0 j u.1 (held u.0 u.1 u.2) u.3)
        | no ne ↦ omega (arith, has_lt (union n mask less) j)
      ]

  less_capacity : group_capacity n m limit budget mask less ≤ group_capacity n m limit budget mask g
  unfolding group_capacity capacity
  less_capacity = sum_le m (λ j b. times (limit j) (fewer_cores j))
    where
      times : {a b : ℕ} (c : ℕ) → a ≤ b → a * c ≤ b * c
      times c h = mul-le-mul_right c h

  pub smallest_holds_no_zero : has g i ≡ 1 → ⊥
  unfolding NoMore less
  smallest_holds_no_zero e =
      wrong (s.smallest less (collect_lt n without) (omega (arith, same_budget, less_capacity)) i l) less_self
    where
      wrong : has g i ≤ has less i → has less i ≡ 0 → ⊥
      wrong p q = omega arith
