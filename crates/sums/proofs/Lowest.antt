-- The lowest number where a function is not 0, and how a loop finds it.
-- Assumes nothing.
use mathlib.Core.Path.{◌≡◌, refl, sym, ◌∙◌, ap}
use Prim.Native.Nat.{ℕ, zero, suc, ◌+◌, ◌≤◌, ◌<◌}
use native.Mathlib.Nat.{not-suc-le-zero, le_antisymm}
use native.Mathlib.Numerals.{add-one}
use native.Mathlib.Decide.{ℕ_discrete, dec_lt}
use native.Mathlib.Omega.{arith}
use borrow.Author.Tests.{lt-ltb, le-ltb}
use Rattle.rules.specs.Sum.{lowest}
use Rattle.sums.proofs.Order.{zero_of, pred_of}

-- one number more: found before, found here, not found
keep_low : (n : ℕ) (f : ℕ → ℕ) → lowest n f < n → lowest (suc n) f ≡ lowest n f
unfolding lowest
keep_low n f h = rw (lt-ltb (lowest n f) n h, lowest)

hit_low : (n : ℕ) (f : ℕ → ℕ) → n ≤ lowest n f → 0 < f n → lowest (suc n) f ≡ n
unfolding lowest
hit_low n f g h = let b = pred_of (f n) h in rw (le-ltb (lowest n f) n g, lowest, b.1, lowest)

miss_low : (n : ℕ) (f : ℕ → ℕ) → n ≤ lowest n f → f n ≡ 0 → lowest (suc n) f ≡ suc n
unfolding lowest
miss_low n f g z = rw (le-ltb (lowest n f) n g, lowest, z, lowest)

pub lowest_le : (n : ℕ) (f : ℕ → ℕ) → lowest n f ≤ n
unfolding lowest
lowest_le zero f = omega arith
lowest_le (suc n) f =
    elim (dec_lt (lowest n f) n) [
      | yes l ↦ omega (arith, keep_low n f l)
      | no g ↦
          elim (dec_lt 0 (f n)) [
            | yes s ↦ omega (arith, hit_low n f (omega arith) s)
            | no z ↦ omega (arith, miss_low n f (omega arith) (zero_of z))
          ]
    ]

-- f is not 0 there
pub lowest_hit : (n : ℕ) (f : ℕ → ℕ) → lowest n f < n → 0 < f (lowest n f)
lowest_hit zero f h = absurd (not-suc-le-zero h)
lowest_hit (suc n) f h =
    elim (dec_lt (lowest n f) n) [
      | yes l ↦ rw (keep_low n f l) (lowest_hit n f l)
      | no g ↦
          elim (dec_lt 0 (f n)) [
            | yes s ↦ rw (hit_low n f (omega arith) s) s
            | no z ↦ absurd (omega (arith, miss_low n f (omega arith) (zero_of z)))
          ]
    ]

-- without one f is 0 everywhere
pub lowest_none : (n : ℕ) (f : ℕ → ℕ) → n ≤ lowest n f → (i : ℕ) → i < n → f i ≡ 0
lowest_none zero f h i l = absurd (not-suc-le-zero l)
lowest_none (suc n) f h i l =
    elim (dec_lt (lowest n f) n) [
      | yes s ↦ absurd (omega (arith, keep_low n f s))
      | no g ↦
          elim (dec_lt 0 (f n)) [
            | yes s ↦ absurd (omega (arith, hit_low n f (omega arith) s))
            | no z ↦
                elim (ℕ_discrete i n) [
                  | yes e ↦ rw e (zero_of z)
                  | no ne ↦ lowest_none n f (omega arith) i (omega arith)
                ]
          ]
    ]

-- below it f is 0
pub lowest_before : (n : ℕ) (f : ℕ → ℕ) (i : ℕ) → i < lowest n f → f i ≡ 0
unfolding lowest
lowest_before zero f i h = absurd (not-suc-le-zero h)
lowest_before (suc n) f i h =
    elim (dec_lt (lowest n f) n) [
      | yes l ↦ lowest_before n f i (omega (arith, h, keep_low n f l))
      | no g ↦
          elim (dec_lt 0 (f n)) [
            | yes s ↦ lowest_before n f i (omega (arith, h, hit_low n f (omega arith) s))
            | no z ↦ lowest_none (suc n) f (omega (arith, miss_low n f (omega arith) (zero_of z))) i (omega (arith, h, miss_low n f (omega arith) (zero_of z)))
          ]
    ]

pub lowest_same : (n : ℕ) (f g : ℕ → ℕ) → ((i : ℕ) → i < n → f i ≡ g i) → lowest n f ≡ lowest n g
unfolding lowest
lowest_same zero f g h = refl
lowest_same (suc n) f g h =
    let r = lowest_same n f g (λ i l. h i (omega arith)) in
    elim (dec_lt (lowest n g) n) [
      | yes l ↦ keep_low n f (omega arith) ∙ r ∙ sym (keep_low n g l)
      | no k ↦
          elim (dec_lt 0 (g n)) [
            | yes p ↦ hit_low n f (omega arith) (rw (h n (omega arith)) p) ∙ sym (hit_low n g (omega arith) p)
            | no z ↦ miss_low n f (omega arith) (h n (omega arith) ∙ zero_of z) ∙ sym (miss_low n g (omega arith) (zero_of z))
          ]
    ]

-- as a loop finds it
module _ (f : ℕ → ℕ) where
  pub lowest_begin : lowest 0 f ≡ 0
  unfolding lowest
  lowest_begin = refl

  pub lowest_more : (j : ℕ) → lowest j f ≡ j → f j ≡ 0 → lowest (j + 1) f ≡ j + 1
  lowest_more j e z = rw (add-one j) (miss_low j f (omega arith) z)

  -- nothing below j
  pub lowest_past : (j : ℕ) → ((i : ℕ) → i < j → f i ≡ 0) → lowest j f ≡ j
  lowest_past zero h = lowest_begin
  lowest_past (suc j) h = let e = lowest_past j (λ i l. h i (omega arith)) in miss_low j f (omega arith) (h j (omega arith))

  lowest_stays : (n j : ℕ) → j ≤ n → lowest j f < j → lowest n f ≡ lowest j f
  lowest_stays zero j l h = absurd (omega arith)
  lowest_stays (suc n) j l h =
      elim (ℕ_discrete j (suc n)) [
        | yes e ↦ ap (λ (k : ℕ). lowest k f) (sym e)
        | no ne ↦ let r = lowest_stays n j (omega arith) h in keep_low n f (omega arith) ∙ r
      ]

  pub lowest_found : (n j : ℕ) → j < n → lowest j f ≡ j → 0 < f j → j ≡ lowest n f
  lowest_found n j l e h = let s = hit_low j f (omega arith) h in sym (lowest_stays n (suc j) l (omega arith) ∙ s)

  pub lowest_ended : (n j : ℕ) → j ≤ n → n ≤ j → lowest j f ≡ j → j ≡ lowest n f
  lowest_ended n j a b e = sym e ∙ ap (λ (k : ℕ). lowest k f) (le_antisymm a b)
