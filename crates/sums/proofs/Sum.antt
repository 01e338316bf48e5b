-- Laws on finite sums of natural numbers, stated once for every crate.
-- Assumes nothing.
use mathlib.Core.Path.{◌≡◌, refl, sym, ◌∙◌, ap, ap₂}
use Prim.Native.Nat.{ℕ, zero, suc, ◌+◌, ◌*◌, ◌≤◌, ◌<◌}
use native.Mathlib.Nat.{le_refl, not-suc-le-zero, mul-add}
use native.Mathlib.Decide.{ℕ_discrete, dec_lt, dec_le}
use native.Mathlib.Omega.{arith}
use borrow.Author.Tests.{eq-eqb, ne_eqb}
use Rattle.rules.specs.Sum.{sum_to, put, positive}

pub put_same : (k v : ℕ) (f : ℕ → ℕ) → put k v f k ≡ v
put_same k v f = rw (eq-eqb k k refl)

pub put_other : (k v : ℕ) (f : ℕ → ℕ) (i : ℕ) → (i ≡ k → ⊥) → put k v f i ≡ f i
put_other k v f i ne = rw (ne_eqb i k ne)

pub sum_cong : (n : ℕ) {f g : ℕ → ℕ} → ((i : ℕ) → i < n → f i ≡ g i) → sum_to n f ≡ sum_to n g
unfolding sum_to
sum_cong zero h = refl
sum_cong (suc n) {f} {g} h = ap₂ ◌+◌ (sum_cong n (λ i l. h i (omega arith))) (h n (omega arith))

pub sum_le : (n : ℕ) {f g : ℕ → ℕ} → ((i : ℕ) → i < n → f i ≤ g i) → sum_to n f ≤ sum_to n g
unfolding sum_to
sum_le zero h = omega arith
sum_le (suc n) {f} {g} h = omega (arith, sum_le n {f = f} {g = g} (λ i l. h i (omega arith)), h n (omega arith))

pub sum_zero : (n : ℕ) {f : ℕ → ℕ} → ((i : ℕ) → i < n → f i ≡ 0) → sum_to n f ≡ 0
unfolding sum_to
sum_zero zero h = refl
sum_zero (suc n) {f} h = omega (arith, sum_zero n {f = f} (λ i l. h i (omega arith)), h n (omega arith))

pub sum_add : (n : ℕ) (f g : ℕ → ℕ) → sum_to n (λ i. f i + g i) ≡ sum_to n f + sum_to n g
unfolding sum_to
sum_add zero f g = refl
sum_add (suc n) f g = omega (arith, sum_add n f g)

pub sum_scale : (n c : ℕ) (f : ℕ → ℕ) → sum_to n (λ i. c * f i) ≡ c * sum_to n f
unfolding sum_to
sum_scale zero c f = omega arith
sum_scale (suc n) c f = omega (arith, sum_scale n c f, mul-add c (sum_to n f) (f n))

pub sum_const : (n c : ℕ) → sum_to n (λ i. c) ≡ n * c
unfolding sum_to
sum_const zero c = omega arith
sum_const (suc n) c = omega (arith, sum_const n c)

pub sum_swap : (n m : ℕ) (x : ℕ → ℕ → ℕ) → sum_to n (λ i. sum_to m (x i)) ≡ sum_to m (λ j. sum_to n (λ i. x i j))
unfolding sum_to
sum_swap zero m x = sym (sum_zero m (λ i l. refl))
sum_swap (suc n) m x = ap (λ (s : ℕ). s + sum_to m (x n)) (sum_swap n m x) ∙ sym (sum_add m (λ j. sum_to n (λ i. x i j)) (x n))

-- one term exchanged
pub sum_put : (n k v : ℕ) (f : ℕ → ℕ) → k < n → sum_to n (put k v f) + f k ≡ sum_to n f + v
unfolding sum_to
sum_put zero k v f h = absurd (not-suc-le-zero h)
sum_put (suc n) k v f h =
    elim (ℕ_discrete k n) [
      | yes e ↦
          omega
          (arith, sum_cong n {f = put k v f} {g = f} (λ i l. put_other k v f i (λ d. omega arith)), put_at n e, ap f e)
      | no ne ↦ omega (arith, sum_put n k v f (omega arith), put_other k v f n (λ d. ne (sym d)))
    ]
  where
    put_at : (n : ℕ) → k ≡ n → put k v f n ≡ v
    put_at n e = rw (← e) (put_same k v f)

-- one term exchanged past the end changes nothing
pub sum_put_past : (n k v : ℕ) (f : ℕ → ℕ) → n ≤ k → sum_to n (put k v f) ≡ sum_to n f
sum_put_past n k v f h = sum_cong n (λ i l. put_other k v f i (λ d. omega arith))

pub sum_term : (n k : ℕ) (f : ℕ → ℕ) → k < n → f k ≤ sum_to n f
sum_term n k f h = omega (arith, sum_put n k 0 f h)

pub sum_mono : (a b : ℕ) (f : ℕ → ℕ) → a ≤ b → sum_to a f ≤ sum_to b f
unfolding sum_to
sum_mono a zero f h = rw (zero_of h) (le_refl _)
  where
    zero_of : {n : ℕ} → n ≤ 0 → n ≡ 0
    zero_of h = omega arith
sum_mono a (suc b) f h =
    elim (dec_le a b) [
      | yes l ↦ omega (arith, sum_mono a b f l)
      | no g ↦ rw (top a b h g) (le_refl _)
    ]
  where
    top : (a b : ℕ) → a ≤ suc b → (a ≤ b → ⊥) → a ≡ suc b
    top a b h g = omega arith

pub sum_split : (a b : ℕ) (f : ℕ → ℕ) → sum_to (a + b) f ≡ sum_to a f + sum_to b (λ i. f (a + i))
unfolding sum_to
sum_split a zero f = ap (λ (k : ℕ). sum_to k f) (none a) ∙ sym (none (sum_to a f))
  where
    none : (a : ℕ) → a + 0 ≡ a
    none a = omega arith
sum_split a (suc b) f = ap (λ (k : ℕ). sum_to k f) (more a b) ∙ omega (arith, sum_split a b f)
  where
    more : (a b : ℕ) → a + suc b ≡ suc (a + b)
    more a b = omega arith

-- terms at most, and one less: the sum is less
pub sum_lt : (n k : ℕ) (f g : ℕ → ℕ) → ((i : ℕ) → i < n → f i ≤ g i) → k < n → f k < g k → sum_to n f < sum_to n g
unfolding sum_to
sum_lt zero k f g h l s = absurd (not-suc-le-zero l)
sum_lt (suc n) k f g h l s =
    elim (ℕ_discrete k n) [
      | yes e ↦ omega (arith, sum_le n {f = f} {g = g} (λ i l. h i (omega arith)), ap f e, ap g e)
      | no ne ↦ omega (arith, sum_lt n k f g (λ i l. h i (omega arith)) (omega arith) s, h n (omega arith))
    ]

-- terms at most, and the sum no less: the terms are equal
pub sum_tight : (n : ℕ) (f g : ℕ → ℕ) → ((i : ℕ) → i < n → f i ≤ g i) → sum_to n g ≤ sum_to n f → (k : ℕ) → k < n → f k ≡ g k
sum_tight n f g h t k l =
    elim (dec_lt (f k) (g k)) [ yes s ↦ absurd (beat (sum_lt n k f g h l s) t) | no s ↦ meet (h k l) s ]
  where
    beat : {a b : ℕ} → a < b → b ≤ a → ⊥
    beat p q = omega arith

    meet : {a b : ℕ} → a ≤ b → (a < b → ⊥) → a ≡ b
    meet p q = omega arith

-- a sum above 0 has a term above 0
pub sum_some : (n : ℕ) (f : ℕ → ℕ) → 0 < sum_to n f → (k : ℕ) × (k < n) × (0 < f k)
unfolding sum_to
sum_some zero f h = absurd (not-suc-le-zero h)
sum_some (suc n) f h =
    elim (dec_lt 0 (f n)) [
      | yes p ↦ (n, omega arith, p)
      | no z ↦ let r = sum_some n f (less h z) in (r.0, omega (arith, r.1), r.2)
    ]
  where
    less : {a b : ℕ} → 0 < a + b → (0 < b → ⊥) → 0 < a
    less p q = omega arith

-- a sum of zeros and ones is at most the number of terms
pub sum_count : (n : ℕ) (f : ℕ → ℕ) → ((i : ℕ) → i < n → f i ≤ 1) → sum_to n f ≤ n
sum_count n f h = omega (arith, sum_le n {f = f} {g = λ i. 1} h, sum_const n 1)

pub positive_le : (n : ℕ) → positive n ≤ 1
positive_le zero = omega arith
positive_le (suc n) = omega arith

pub positive_of : (n : ℕ) → 0 < n → positive n ≡ 1
positive_of zero h = absurd (not-suc-le-zero h)
positive_of (suc n) h = refl

pub positive_none : {n : ℕ} → n ≡ 0 → positive n ≡ 0
positive_none e = rw e

-- two functions that differ at one place only
pub sum_but_one : (n t : ℕ) (f g : ℕ → ℕ) → t < n → ((i : ℕ) → i < n → (i ≡ t → ⊥) → f i ≡ g i) → sum_to n f + g t ≡ sum_to n g + f t
sum_but_one n t f g l h = ap (λ (s : ℕ). s + g t) (sum_cong n same) ∙ sum_put n t (f t) g l
  where
    same : (i : ℕ) → i < n → f i ≡ put t (f t) g i
    same i k =
        elim (ℕ_discrete i t) [
          | yes e ↦ ap f e ∙ sym (put_same t (f t) g) ∙ ap (put t (f t) g) (sym e)
          | no ne ↦ h i k ne ∙ sym (put_other t (f t) g i ne)
        ]

-- terms at most v, of which at most one is above 0
pub sum_at_most_one : (n v : ℕ) (f : ℕ → ℕ) → ((i : ℕ) → i < n → f i ≤ v) → ((i k : ℕ) → i < n → k < n → 0 < f i → 0 < f k → i ≡ k) → sum_to n f ≤ v
unfolding sum_to
sum_at_most_one zero v f h one = omega arith
sum_at_most_one (suc n) v f h one =
    elim (dec_lt 0 (f n)) [
      | yes s ↦ omega (arith, sum_zero n {f = f} (λ i l. others i l s), h n (omega arith))
      | no s ↦ omega (arith, sum_at_most_one n v f (λ i l. h i (omega arith)) (λ i k a b u w. one i k (omega arith) (omega arith) u w))
    ]
  where
    others : (i : ℕ) → i < n → 0 < f n → f i ≡ 0
    others i l s = elim (dec_lt 0 (f i)) [ yes u ↦ absurd (lower i n l (one i n (omega arith) (omega arith) u s)) | no z ↦ omega arith ]
      where
        lower : (i n : ℕ) → i < n → i ≡ n → ⊥
        lower i n l e = omega arith

-- two different terms of a sum
pub sum_two : (n j k : ℕ) (f : ℕ → ℕ) → j < n → k < n → (j ≡ k → ⊥) → f j + f k ≤ sum_to n f
sum_two n j k f a b ne = omega (arith, sum_put n j 0 f a, sum_term n k (put j 0 f) b, put_other j 0 f k (λ e. ne (sym e)))

-- terms of 0 from a on add nothing
pub sum_rest : (a b : ℕ) (f : ℕ → ℕ) → a ≤ b → ((i : ℕ) → a ≤ i → f i ≡ 0) → sum_to a f ≡ sum_to b f
unfolding sum_to
sum_rest a zero f l h = ap (λ (c : ℕ). sum_to c f) (none l)
  where
    none : {c : ℕ} → c ≤ 0 → c ≡ 0
    none l = omega arith
sum_rest a (suc b) f l h =
    elim (ℕ_discrete a (suc b)) [
      | yes e ↦ ap (λ (c : ℕ). sum_to c f) e
      | no ne ↦ omega (arith, sum_rest a b f (omega arith) h, h b (omega arith))
    ]
