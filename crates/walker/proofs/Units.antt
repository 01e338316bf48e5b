-- The units that a task's stretches give: within the frame by the parts of the stretches, and over all time.
-- Assumes nothing.
use mathlib.Core.Path.{◌≡◌, ◌∙◌}
use mathlib.Core.Bool.{and-false}
use mathlib.Core.List.{List}
use Prim.Native.Nat.{ℕ, zero, suc, ◌+◌, ◌-◌, ◌*◌, ◌/◌, ◌%◌, ◌≤◌, ◌<◌, min}
use native.Mathlib.Nat.{not-suc-le-zero, le_refl}
use native.Mathlib.Decide.{ℕ_discrete, dec_lt}
use native.Mathlib.Omega.{arith}
use lib.Dec.{leb}
use lib.ListN.{length}
use borrow.Author.Tests.{lt-ltb, le-ltb, le-leb, lt-leb}
use Rattle.rules.specs.Sum.{sum_to}
use Rattle.sums.proofs.Sum.{sum_cong, sum_zero, sum_swap, sum_mono, sum_count}
use Rattle.walker.specs.declared.span.Span.{Span}
use Rattle.walker.specs.Served.{start_at, len_at, inside, unit_to, served_to, units_of, Sorted}
use Rattle.walker.proofs.Periodic.{again_frames, again_at, again_div}

module _ (s n t : ℕ) where
  pub inside_in : s ≤ t → t < s + n → inside s n t ≡ 1
  unfolding inside
  inside_in g h = rw (le-leb _ _ g, lt-ltb _ _ h)

  pub inside_before : t < s → inside s n t ≡ 0
  unfolding inside
  inside_before h = rw (lt-leb _ _ h)

  pub inside_after : s + n ≤ t → inside s n t ≡ 0
  unfolding inside
  inside_after h = rw (le-ltb _ _ h, and-false (leb s t))

-- a stretch's part before the instant r
pub inside_sum : (s n r : ℕ) → sum_to r (inside s n) ≡ min n (r - s)
unfolding sum_to
inside_sum s n zero = omega arith
inside_sum s n (suc r) =
    elim (dec_lt r s) [
      | yes h ↦ omega (arith, inside_sum s n r, inside_before s n r h)
      | no g ↦
          elim (dec_lt r (s + n)) [
            | yes h ↦ omega (arith, inside_sum s n r, inside_in s n r (omega arith) h)
            | no h ↦ omega (arith, inside_sum s n r, inside_after s n r (omega arith))
          ]
    ]

module _ (spans : List Span) where
  -- the units before r, counted one by one, are the parts of the stretches
  pub served_sum : (c r : ℕ) → sum_to r (unit_to spans c) ≡ served_to spans c r
  unfolding unit_to served_to
  served_sum c r = sum_swap r c (λ t i. inside (start_at spans i) (len_at spans i) t) ∙ sum_cong c (λ i l. inside_sum (start_at spans i) (len_at spans i) r)

  module _ (F : ℕ) (sorted : Sorted F spans) where
    pub unit_one : (c t : ℕ) → c ≤ length spans → unit_to spans c t ≤ 1
    unfolding unit_to sum_to
    unit_one zero t h = omega arith
    unit_one (suc c) t h =
        elim (dec_lt t (start_at spans c)) [
          | yes g ↦ omega (arith, unit_one c t (omega arith), inside_before (start_at spans c) (len_at spans c) t g)
          | no g ↦
              elim (dec_lt t (start_at spans c + len_at spans c)) [
                | yes k ↦ omega (arith, inside_in (start_at spans c) (len_at spans c) t (omega arith) k, alone (omega arith))
                | no k ↦ omega (arith, unit_one c t (omega arith), inside_after (start_at spans c) (len_at spans c) t (omega arith))
              ]
        ]
      where
        alone : start_at spans c ≤ t → sum_to c (λ i. inside (start_at spans i) (len_at spans i) t) ≡ 0
        alone g = sum_zero c (λ i l. inside_after (start_at spans i) (len_at spans i) t (omega (arith, sorted.order i c l h)))

    -- in the middle of stretch i: those before it whole, and its own part
    pub served_at : (i r : ℕ) → i < length spans → start_at spans i ≤ r → r ≤ start_at spans i + len_at spans i → served_to spans (length spans) r ≡ sum_to i (len_at spans) + (r - start_at spans i)
    unfolding served_to sum_to
    served_at i r h g k = up (length spans) h (le_refl _)
      where
        f : ℕ → ℕ
        f j = min (len_at spans j) (r - start_at spans j)

        whole : sum_to i f ≡ sum_to i (len_at spans)
        whole = sum_cong i (λ j l. omega (arith, sorted.order j i l h))

        up : (c : ℕ) → i < c → c ≤ length spans → sum_to c f ≡ sum_to i (len_at spans) + (r - start_at spans i)
        up zero l m = absurd (not-suc-le-zero l)
        up (suc c) l m =
            elim (ℕ_discrete i c) [
              | yes e ↦ rw (← e) (omega (arith, whole))
              | no e ↦ omega (arith, up c (omega arith) (omega arith), sorted.order i c (omega arith) m)
            ]

    pub served_total : served_to spans (length spans) F ≡ sum_to (length spans) (len_at spans)
    unfolding served_to
    served_total = sum_cong (length spans) (λ j l. omega (arith, sorted.ends j l))

    module _ (pos : 1 ≤ F) where
      pub units_mono : (a b : ℕ) → a ≤ b → units_of F spans a ≤ units_of F spans b
      unfolding units_of
      units_mono a b h = sum_mono a b (λ t. unit_to spans (length spans) (t % F)) h

      pub units_le : (e : ℕ) → units_of F spans e ≤ e
      unfolding units_of
      units_le e = sum_count e (λ t. unit_to spans (length spans) (t % F)) (λ i l. unit_one (length spans) (i % F) (le_refl _))

      pub total_le : served_to spans (length spans) F ≤ F
      total_le = rw (← served_sum (length spans) F) (sum_count F (unit_to spans (length spans)) (λ i l. unit_one (length spans) i (le_refl _)))

      pub units_at : (q r : ℕ) → r ≤ F → units_of F spans (q * F + r) ≡ q * served_to spans (length spans) F + served_to spans (length spans) r
      unfolding units_of
      units_at q r h =
          rw (← served_sum (length spans) F, ← served_sum (length spans) r) (again_at F pos (unit_to spans (length spans)) q r h)

      pub units_div : (e : ℕ) → units_of F spans e ≡ (e / F) * served_to spans (length spans) F + served_to spans (length spans) (e % F)
      unfolding units_of
      units_div e =
          rw (← served_sum (length spans) F, ← served_sum (length spans) (e % F)) (again_div F pos (unit_to spans (length spans)) e)

      pub units_later : (q a : ℕ) → units_of F spans (q * F + a) ≡ q * served_to spans (length spans) F + units_of F spans a
      unfolding units_of
      units_later q a = rw (← served_sum (length spans) F) (again_frames F pos (unit_to spans (length spans)) q a)
