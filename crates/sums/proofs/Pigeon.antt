-- Different numbers below m are at most m.
-- Assumes nothing.
use mathlib.Core.Path.{◌≡◌, refl, sym, ◌∙◌}
use Prim.Native.Nat.{ℕ, ◌*◌, ◌≤◌, ◌<◌}
use native.Mathlib.Decide.{ℕ_discrete, dec_lt}
use native.Mathlib.Omega.{arith}
use borrow.Author.Tests.{eq-eqb, ne_eqb}
use Rattle.rules.specs.Sum.{sum_to, put}
use Rattle.sums.proofs.Sum.{sum_cong, sum_le, sum_zero, sum_const, sum_swap, sum_put, sum_at_most_one}

-- at most one place that is not 0, and that at most 1
pub sum_one : (k : ℕ) (g : ℕ → ℕ) → ((i : ℕ) → i < k → g i ≤ 1) → ((i l : ℕ) → i < l → l < k → 0 < g i → 0 < g l → ⊥) → sum_to k g ≤ 1
sum_one k g small alone =
    sum_at_most_one k 1 g small
    (λ i l a b p q.
    elim (ℕ_discrete i l) [
      | yes e ↦ e
      | no ne ↦ elim (dec_lt i l) [ yes s ↦ absurd (alone i l s b p q) | no s ↦ absurd (alone l i (other ne s) a q p) ]
    ])
  where
    other : {i l : ℕ} → (i ≡ l → ⊥) → (i < l → ⊥) → l < i
    other ne s = omega arith

-- 1 at c, 0 elsewhere
abbrev mark : ℕ → ℕ → ℕ
mark c j = put c 1 (λ i. 0) j

mark_sum : (m c : ℕ) → c < m → sum_to m (mark c) ≡ 1
mark_sum m c l = omega (arith, sum_put m c 1 (λ i. 0) l, sum_zero m {f = λ i. 0} (λ i k. refl))

mark_small : (c j : ℕ) → mark c j ≤ 1
mark_small c j = elim (ℕ_discrete j c) [ yes e ↦ rw (eq-eqb j c e) (omega arith) | no ne ↦ rw (ne_eqb j c ne) (omega arith) ]

mark_where : (c j : ℕ) → 0 < mark c j → j ≡ c
mark_where c j p = elim (ℕ_discrete j c) [ yes e ↦ e | no ne ↦ absurd (no_more (rw (ne_eqb j c ne) at p)) ]
  where
    no_more : 0 < 0 → ⊥
    no_more p = omega arith

pub pigeon : (k m : ℕ) (f : ℕ → ℕ) → ((i : ℕ) → i < k → f i < m) → ((i l : ℕ) → i < l → l < k → f i ≡ f l → ⊥) → k ≤ m
pigeon k m f below differ =
    omega
    (arith, rows, sum_swap k m (λ i j. mark (f i) j), sum_le m {f = λ j. sum_to k (λ i. mark (f i) j)} {g = λ j. 1} one, sum_const m 1)
  where
    rows : sum_to k (λ i. sum_to m (mark (f i))) ≡ k * 1
    rows = sum_cong k (λ i l. mark_sum m (f i) (below i l)) ∙ sum_const k 1

    one : (j : ℕ) → j < m → sum_to k (λ i. mark (f i) j) ≤ 1
    one j l =
        sum_one k (λ i. mark (f i) j) (λ i a. mark_small (f i) j)
        (λ i h a b p q. differ i h a b (sym (mark_where (f i) j p) ∙ mark_where (f h) j q))
