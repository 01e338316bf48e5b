-- What runs before what, if one is first and the rest ascend: the places fill the sum without overlap. Serves a core, whose tasks run one
-- after another, and a task, whose stretches follow each other over its cores.
-- Assumes nothing.
use mathlib.Core.Path.{◌≡◌, sym, ◌∙◌, ap}
use mathlib.Core.Logic.{◌⊎◌, inl, inr, ⊎_elim}
use Prim.Native.Nat.{ℕ, zero, suc, ◌+◌, ◌*◌, ◌≤◌, ◌<◌}
use native.Mathlib.Nat.{mul-le-mul_right, suc-mul}
use native.Mathlib.Decide.{ℕ_discrete, dec_lt}
use native.Mathlib.Omega.{arith}
use borrow.Author.Tests.{eq-eqb, ne_eqb}
use Rattle.rules.specs.Sum.{sum_to, put}
use Rattle.rules.specs.Layout.{ahead}
use Rattle.sums.proofs.Sum.{put_other, sum_put, sum_term, sum_mono}

pub ahead_first : (q : ℕ) (f : ℕ → ℕ) (i : ℕ) → i ≡ q → ahead (suc q) f i ≡ 0
unfolding ahead
ahead_first q f i e = rw (eq-eqb i q e)

pub ahead_rest : (q : ℕ) (f : ℕ → ℕ) (i : ℕ) → (i ≡ q → ⊥) → ahead (suc q) f i ≡ f q + sum_to i (put q 0 f)
unfolding ahead
ahead_rest q f i ne = rw (ne_eqb i q ne)

next_sum : (f : ℕ → ℕ) (i k : ℕ) → i < k → sum_to i f + f i ≤ sum_to k f
unfolding sum_to
next_sum f i k l = sum_mono (suc i) k f l

pub ahead_ends : (n p : ℕ) (f : ℕ → ℕ) (i : ℕ) → p ≤ n → i < n → ahead p f i + f i ≤ sum_to n f
unfolding ahead
ahead_ends n zero f i h l = next_sum f i n l
ahead_ends n (suc q) f i h l =
    elim (ℕ_discrete i q) [
      | yes e ↦ rw (ahead_first q f i e) (omega (arith, sum_term n i f l))
      | no ne ↦ rw (ahead_rest q f i ne) (omega (arith, next_sum (put q 0 f) i n l, put_other q 0 f i ne, sum_put n q 0 f h))
    ]

-- one of the two is over before the other begins
pub ahead_apart : (p : ℕ) (f : ℕ → ℕ) (i k : ℕ) → (i ≡ k → ⊥) → (ahead p f i + f i ≤ ahead p f k) ⊎ (ahead p f k + f k ≤ ahead p f i)
unfolding ahead
ahead_apart zero f i k ne =
    elim (dec_lt i k) [ yes l ↦ inl (next_sum f i k l) | no g ↦ inr (next_sum f k i (omega arith)) ]
ahead_apart (suc q) f i k ne =
    elim (ℕ_discrete i q) [
      | yes e ↦ inl (rw (ahead_first q f i e, ahead_rest q f k (λ d. ne (e ∙ sym d)), ap f e) (omega arith))
      | no d ↦
          elim (ℕ_discrete k q) [
            | yes e ↦ inr (rw (ahead_first q f k e, ahead_rest q f i d, ap f e) (omega arith))
            | no c ↦
                elim (dec_lt i k) [
                  | yes l ↦ inl (rw (ahead_rest q f i d, ahead_rest q f k c) (omega (arith, next_sum (put q 0 f) i k l, put_other q 0 f i d)))
                  | no g ↦ inr (rw (ahead_rest q f i d, ahead_rest q f k c) (omega (arith, next_sum (put q 0 f) k i (omega arith), put_other q 0 f k c)))
                ]
          ]
    ]

-- two stretches apart in a window of one frame, and a part of each that lies k or l frames later than its start says: in the frame they
-- are apart too
pub apart_in_frame : (F B a la b lb ps pl k qs ql l : ℕ) → B ≤ a → a + la ≤ B + F → B ≤ b → b + lb ≤ B + F → (a + la ≤ b) ⊎ (b + lb ≤ a)
    → a ≤ ps + k * F → ps + k * F + pl ≤ a + la → b ≤ qs + l * F → qs + l * F + ql ≤ b + lb → (ps + pl ≤ qs) ⊎ (qs + ql ≤ ps)
apart_in_frame F B a la b lb ps pl k qs ql l ba ea bb eb apart fa ta fb tb =
    elim (dec_lt k l) [
      | yes s ↦ inr (omega (arith, mul-le-mul_right F s, suc_times k F))
      | no g ↦
          elim (dec_lt l k) [
            | yes s ↦ inl (omega (arith, mul-le-mul_right F s, suc_times l F))
            | no h ↦ ⊎_elim (λ o. inl (omega (arith, ap (λ (v : ℕ). v * F) (same g h)))) (λ o. inr (omega (arith, ap (λ (v : ℕ). v * F) (same g h)))) apart
          ]
    ]
  where
    same : {k l : ℕ} → (k < l → ⊥) → (l < k → ⊥) → k ≡ l
    same g h = omega arith

    suc_times : (k F : ℕ) → suc k * F ≡ k * F + F
    suc_times k F = omega (arith, suc-mul k F)
