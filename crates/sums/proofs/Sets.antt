-- Laws on sets of numbers that are one number, bit by bit: members, unions, counts.
-- Assumes nothing.
use mathlib.Core.Path.{◌≡◌, refl, sym, ◌∙◌, ap, ap₂}
use Prim.Native.Nat.{ℕ, zero, suc, min, max, ◌+◌, ◌*◌, ◌/◌, ◌%◌, ◌^◌, ◌≤◌, ◌<◌}
use native.Mathlib.Nat.{div-eq_of_lt, div-one, div_self, lt_of_lt_of_le, max-zero, mod-eq_of_lt, not-suc-le-zero, one-mul, pow-suc, pow-zero, zero-add, zero-div, zero-mul}
use native.Mathlib.Decide.{ℕ_discrete, dec_lt}
use native.Mathlib.Omega.{arith}
use lib.Bits.{bit_or, bit_and, and_mask, mask_lt, or_step, and_step, or_shr, and_shr, or_lt}
use lib.Pow.{pow_mono, pow-lt, pow_pos, shr-shr}
use lib.Count.{ones, ones_step}
use Rattle.rules.specs.Sum.{sum_to, put}
use Rattle.rules.specs.Sets.{has, union}
use Rattle.sums.proofs.Sum.{put_same, put_other, sum_split, sum_cong}

pub has_lt : (s i : ℕ) → has s i < 2
unfolding has
has_lt s i = omega arith

-- a member, or not
pub has_zero : (s i : ℕ) → (has s i ≡ 1 → ⊥) → has s i ≡ 0
has_zero s i h = elim (ℕ_discrete (has s i) 0) [ yes e ↦ e | no ne ↦ absurd (h (omega (arith, has_lt s i))) ]

pub has_one : (s i : ℕ) → (has s i ≡ 0 → ⊥) → has s i ≡ 1
has_one s i h = elim (ℕ_discrete (has s i) 1) [ yes e ↦ e | no ne ↦ absurd (h (omega (arith, has_lt s i))) ]

pub has_le_one : (s i : ℕ) → has s i ≤ 1
has_le_one s i = omega (arith, has_lt s i)

pub has_first : (s : ℕ) → has s 0 ≡ s % 2
unfolding has
has_first s = ap (λ (n : ℕ). n % 2) (div-one s)

pub has_next : (s i : ℕ) → has s (suc i) ≡ has (s / 2) i
unfolding has
has_next s i = ap (λ (n : ℕ). n % 2) (ap (λ (k : ℕ). s / 2 ^ k) (front i) ∙ sym (shr-shr s 1 i))
  where
    front : (i : ℕ) → suc i ≡ 1 + i
    front i = omega arith

pub has_or : (a b i : ℕ) → has (bit_or a b) i ≡ max (has a i) (has b i)
unfolding has
has_or a b i = ap (λ (n : ℕ). n % 2) (or_shr a b i) ∙ omega (arith, or_step (a / 2 ^ i) (b / 2 ^ i))

pub has_and : (a b i : ℕ) → has (bit_and a b) i ≡ min (has a i) (has b i)
unfolding has
has_and a b i = ap (λ (n : ℕ). n % 2) (and_shr a b i) ∙ omega (arith, and_step (a / 2 ^ i) (b / 2 ^ i))

pub has_none : (i : ℕ) → has 0 i ≡ 0
unfolding has
has_none i = ap (λ (n : ℕ). n % 2) (zero-div (2 ^ i))

-- nothing at or above n
pub has_above : (n : ℕ) {s i : ℕ} → s < 2 ^ n → n ≤ i → has s i ≡ 0
unfolding has
has_above n {s} {i} h l = ap (λ (k : ℕ). k % 2) (div-eq_of_lt (lt_of_lt_of_le h (pow_mono l)))

-- a member is below n
pub has_below : (n : ℕ) {s i : ℕ} → s < 2 ^ n → has s i ≡ 1 → i < n
has_below n {s} {i} h e = elim (dec_lt i n) [ yes l ↦ l | no g ↦ absurd (clash e (has_above n h (turn g))) ]
  where
    clash : {a : ℕ} → a ≡ 1 → a ≡ 0 → ⊥
    clash p q = omega arith

    turn : {a b : ℕ} → (a < b → ⊥) → b ≤ a
    turn g = omega arith

pub has_self : (k : ℕ) → has (2 ^ k) k ≡ 1
unfolding has
has_self k = ap (λ (n : ℕ). n % 2) (div_self (pow_pos k))

half_power : (k : ℕ) → 2 ^ suc k / 2 ≡ 2 ^ k
half_power k = omega (arith, pow-suc 2 k)

pub has_power_other : (k i : ℕ) → (i ≡ k → ⊥) → has (2 ^ k) i ≡ 0
has_power_other zero zero ne = absurd (ne refl)
has_power_other zero (suc i) ne = has_next 1 i ∙ has_none i
has_power_other (suc k) zero ne = has_first (2 ^ suc k) ∙ omega (arith, pow-suc 2 k)
has_power_other (suc k) (suc i) ne =
    has_next (2 ^ suc k) i ∙ ap (λ (n : ℕ). has n i) (half_power k) ∙ has_power_other k i (λ e. ne (ap suc e))

-- one member more
pub has_with : (s k i : ℕ) → has (bit_or s (2 ^ k)) i ≡ put k 1 (has s) i
has_with s k i =
    elim (ℕ_discrete i k) [
      | yes e ↦ has_or s (2 ^ k) i ∙ here i e ∙ sym (at i e)
      | no ne ↦
          has_or s (2 ^ k) i ∙ ap (λ (n : ℕ). max (has s i) n) (has_power_other k i ne)
          ∙ max-zero (has s i) ∙ sym (put_other k 1 (has s) i ne)
    ]
  where
    here : (i : ℕ) → i ≡ k → max (has s i) (has (2 ^ k) i) ≡ 1
    here i e = omega (arith, has_lt s i, ap (λ (n : ℕ). has (2 ^ k) n) e, has_self k)

    at : (i : ℕ) → i ≡ k → put k 1 (has s) i ≡ 1
    at i e = rw e (put_same k 1 (has s))

pub with_same : (s k : ℕ) → has (bit_or s (2 ^ k)) k ≡ 1
with_same s k = has_with s k k ∙ put_same k 1 (has s)

pub with_other : (s k i : ℕ) → (i ≡ k → ⊥) → has (bit_or s (2 ^ k)) i ≡ has s i
with_other s k i ne = has_with s k i ∙ put_other k 1 (has s) i ne

pub with_keeps : (s k i : ℕ) → has s i ≡ 1 → has (bit_or s (2 ^ k)) i ≡ 1
with_keeps s k i h = has_or s (2 ^ k) i ∙ omega (arith, has_lt (2 ^ k) i)

pub with_lt : (n s k : ℕ) → s < 2 ^ n → k < n → bit_or s (2 ^ k) < 2 ^ n
with_lt n s k h l = or_lt n s (2 ^ k) h (pow-lt l)

half_lt : (n s : ℕ) → s < 2 ^ suc n → s / 2 < 2 ^ n
half_lt n s h = omega (arith, pow-suc 2 n)

-- two sets with the same members are the same number
pub has_ext : (n a b : ℕ) → a < 2 ^ n → b < 2 ^ n → ((i : ℕ) → i < n → has a i ≡ has b i) → a ≡ b
has_ext zero a b ha hb h = omega (arith, pow-zero 2)
has_ext (suc n) a b ha hb h =
    join
    (sym (has_first a) ∙ h 0 (omega arith) ∙ has_first b)
    (has_ext n (a / 2) (b / 2) (half_lt n a ha) (half_lt n b hb)
    (λ i l. sym (has_next a i) ∙ h (suc i) (omega arith) ∙ has_next b i))
  where
    join : a % 2 ≡ b % 2 → a / 2 ≡ b / 2 → a ≡ b
    join p q = omega arith

-- a number without bits from m on is below 2^m
pub below_of_bits : (w m s : ℕ) → s < 2 ^ w → ((j : ℕ) → m ≤ j → has s j ≡ 0) → s < 2 ^ m
below_of_bits w zero s l h = omega (arith, has_ext w s 0 l (pow_pos w) (λ i k. h i (omega arith) ∙ sym (has_none i)))
below_of_bits w (suc m) s l h = half_below s m (below_of_bits w m (s / 2) (omega arith) (λ j k. sym (has_next s j) ∙ h (suc j) (omega arith)))
  where
    half_below : (s m : ℕ) → s / 2 < 2 ^ m → s < 2 ^ suc m
    half_below s m l = omega arith

-- ---- the union of the masks of a group

has_times : (g n m j : ℕ) → has (has g n * m) j ≡ has g n * has m j
has_times g n m j =
    elim (ℕ_discrete (has g n) 1) [
      | yes e ↦ rw e (ap (λ (k : ℕ). has k j) (one-mul m) ∙ sym (one-mul (has m j)))
      | no ne ↦ rw (has_zero g n ne) (ap (λ (k : ℕ). has k j) (zero-mul m) ∙ has_none j ∙ sym (zero-mul (has m j)))
    ]

pub union_has : (n : ℕ) (mask : ℕ → ℕ) (g t j : ℕ) → t < n → has g t ≡ 1 → has (mask t) j ≡ 1 → has (union n mask g) j ≡ 1
unfolding union
union_has zero mask g t j l h k = absurd (not-suc-le-zero l)
union_has (suc n) mask g t j l h k =
    elim (ℕ_discrete t n) [
      | yes e ↦ has_or (union n mask g) (has g n * mask n) j ∙ new (union n mask g) (sym (ap (has g) e) ∙ h) (sym (ap (λ (i : ℕ). has (mask i) j) e) ∙ k)
      | no ne ↦ has_or (union n mask g) (has g n * mask n) j ∙ old (has g n * mask n) (union_has n mask g t j (omega arith) h k)
    ]
  where
    new : (u : ℕ) → has g n ≡ 1 → has (mask n) j ≡ 1 → max (has u j) (has (has g n * mask n) j) ≡ 1
    new u p q = omega (arith, has_lt u j, has_times g n (mask n) j ∙ ap₂ ◌*◌ p q)

    old : (v : ℕ) → has (union n mask g) j ≡ 1 → max (has (union n mask g) j) (has v j) ≡ 1
    old v p = omega (arith, has_lt v j)

product_one : (a b : ℕ) → a < 2 → a * b ≡ 1 → (a ≡ 1) × (b ≡ 1)
product_one a b l e =
    elim (ℕ_discrete a 1) [
      | yes o ↦ (o, sym (one-mul b) ∙ sym (ap (λ (n : ℕ). n * b) o) ∙ e)
      | no ne ↦ absurd (clash (sym (zero-mul b) ∙ sym (ap (λ (n : ℕ). n * b) (none ne)) ∙ e))
    ]
  where
    none : (a ≡ 1 → ⊥) → a ≡ 0
    none ne = omega arith

    clash : ◌≡◌ {A = ℕ} 0 1 → ⊥
    clash d = omega arith

pub union_from : (n : ℕ) (mask : ℕ → ℕ) (g j : ℕ) → has (union n mask g) j ≡ 1 → (t : ℕ) × (t < n) × (has g t ≡ 1) × (has (mask t) j ≡ 1)
unfolding union
union_from zero mask g j h = absurd (clash (sym (has_none j) ∙ h))
  where
    clash : ◌≡◌ {A = ℕ} 0 1 → ⊥
    clash e = omega arith
union_from (suc n) mask g j h =
    elim (ℕ_discrete (has (union n mask g) j) 1) [
      | yes e ↦ let r = union_from n mask g j e in (r.0, omega (arith, r.1), r.2, r.3)
      | no ne ↦ let r = both (has_zero (union n mask g) j ne) in (n, omega arith, r.0, r.1)
    ]
  where
    both : has (union n mask g) j ≡ 0 → (has g n ≡ 1) × (has (mask n) j ≡ 1)
    both z =
        product_one (has g n) (has (mask n) j) (has_lt g n)
        (omega (arith, h, has_or (union n mask g) (has g n * mask n) j, has_times g n (mask n) j))

pub union_lt : (n : ℕ) (mask : ℕ → ℕ) (g k : ℕ) → ((t : ℕ) → t < n → mask t < 2 ^ k) → union n mask g < 2 ^ k
unfolding union
union_lt zero mask g k h = pow_pos k
union_lt (suc n) mask g k h =
    or_lt k (union n mask g) (has g n * mask n) (union_lt n mask g k (λ t l. h t (omega arith))) (part (h n (omega arith)))
  where
    part : mask n < 2 ^ k → has g n * mask n < 2 ^ k
    part l =
        elim (ℕ_discrete (has g n) 1) [
          | yes e ↦ rw (e, one-mul) l
          | no ne ↦ rw (has_zero g n ne, zero-mul) (pow_pos k)
        ]

-- ---- the count of ones is the number of members

pub ones_has : (k s : ℕ) → s < 2 ^ k → ones s ≡ sum_to k (has s)
unfolding sum_to ones
ones_has zero s h = ap ones (none h)
  where
    none : s < 2 ^ 0 → s ≡ 0
    none h = omega (arith, pow-zero 2)
ones_has (suc k) s h =
    ones_step s
    ∙ ap₂ ◌+◌ (sym (has_first s)) (ones_has k (s / 2) (half_lt k s h) ∙ sum_cong k (λ i l. sym (has_next s i) ∙ ap (has s) (front i)))
    ∙ sym (peel k (has s))
  where
    front : (i : ℕ) → suc i ≡ 1 + i
    front i = omega arith

    peel : (k : ℕ) (f : ℕ → ℕ) → sum_to (suc k) f ≡ f 0 + sum_to k (λ i. f (1 + i))
    peel k f = ap (λ (n : ℕ). sum_to n f) (front k) ∙ sum_split 1 k f ∙ ap (λ (n : ℕ). n + sum_to k (λ i. f (1 + i))) (zero-add (f 0))

-- ---- as code has them: a member by a shift and a mask, one member more by a shift

pub bit_has : (s i : ℕ) → (bit_and (s / 2 ^ i) 1 ≡ has s i) × (bit_and (s / 2 ^ i) 1 < 2)
unfolding has
bit_has s i = (and_mask (s / 2 ^ i) 1, mask_lt (s / 2 ^ i) 1)

pub bit_with : (w s i : ℕ) → i < w → bit_or s ((1 * 2 ^ i) % 2 ^ w) ≡ bit_or s (2 ^ i)
bit_with w s i l = ap (bit_or s) (ap (λ (k : ℕ). k % 2 ^ w) (one-mul (2 ^ i)) ∙ mod-eq_of_lt (pow-lt l))
