-- The tests of a job list: one law for each return, and what a list that passes says.
-- Assumes nothing.
use mathlib.Core.Path.{◌≡◌, refl, sym, ◌∙◌, ap}
use mathlib.Core.Bool.{Bool, true, false, cond, not, ◌&&◌, ◌||◌, or-true}
use mathlib.Core.List.{List}
use Prim.Native.Nat.{ℕ, zero, suc, ◌-◌, ◌≤◌, ◌<◌}
use native.Mathlib.Decide.{dec_le}
use native.Mathlib.Omega.{arith}
use lib.Dec.{eqb, ltb}
use lib.ListN.{length, get_or}
use borrow.Author.Tests.{lt-ltb, eq-eqb, ne_eqb}
use Rattle.rules.specs.Sum.{lowest}
use Rattle.rules.specs.Jobs.{early, bad_job, first_bad_job, first_asking}
use Rattle.walker.specs.Jobs.{place, is_bad, JobsGood}
use Rattle.std.specs.Prelude.{None, Some}
use Rattle.std.specs.List.{position_or_len, range_with_len}
use Rattle.std.proofs.lemmas.List.Sums.{position_or_len_is}
use Rattle.std.proofs.lemmas.List.FromFn.{length-range_with_len, get_or-range_with_len}
use Rattle.moves.proofs.Rest.{some_not_none}
use Rattle.sums.proofs.Lowest.{lowest_le, lowest_hit, lowest_before, lowest_none}

early_before : (releases : List ℕ) (k : ℕ) → early releases k ≡ (not (eqb k 0) && ltb (get_or releases k 0) (get_or releases (k - 1) 0))
unfolding early
early_before releases zero = refl
early_before releases (suc j) = rw (ne_eqb (suc j) 0 (λ e. omega arith), last j)
  where
    last : (j : ℕ) → suc j - 1 ≡ j
    last j = omega arith

module _ (releases jobs : List ℕ) (k : ℕ) where
  -- its faults, as the code tests them
  pub bad_faults : is_bad releases jobs k
      ≡ ((not (eqb k 0) && ltb (get_or releases k 0) (get_or releases (k - 1) 0)) || ltb 1000000000000 (get_or releases k 0) || ltb 1000000 (get_or jobs k 0))
  unfolding bad_job
  bad_faults =
      one (early releases k || ltb 1000000000000 (get_or releases k 0) || ltb 1000000 (get_or jobs k 0))
      ∙ ap (λ (b : Bool). b || ltb 1000000000000 (get_or releases k 0) || ltb 1000000 (get_or jobs k 0)) (early_before releases k)
    where
      one : (b : Bool) → not (eqb (cond b 1 0) 0) ≡ b
      one true = refl
      one false = refl

  bad_release : 1000000000000 < get_or releases k 0 → bad_job releases jobs k ≡ 1
  unfolding bad_job
  bad_release h = rw (lt-ltb _ _ h, or-true (early releases k))

  bad_units : 1000000 < get_or jobs k 0 → bad_job releases jobs k ≡ 1
  unfolding bad_job
  bad_units h = rw (lt-ltb _ _ h, or-true (early releases k || ltb 1000000000000 (get_or releases k 0)))

-- a job without a fault is within the limits
good_job : (releases jobs : List ℕ) (k : ℕ) → bad_job releases jobs k ≡ 0 → (get_or releases k 0 ≤ 1000000000000) × (get_or jobs k 0 ≤ 1000000)
good_job releases jobs k e =
    elim (dec_le (get_or releases k 0) 1000000000000) [
      | no g ↦ absurd (never (sym (bad_release releases jobs k (omega arith)) ∙ e))
      | yes g ↦ elim (dec_le (get_or jobs k 0) 1000000) [ yes h ↦ (g, h) | no h ↦ absurd (never (sym (bad_units releases jobs k (omega arith)) ∙ e)) ]
    ]
  where
    never : ◌≡◌ {A = ℕ} 1 0 → ⊥
    never e = omega arith

-- the first place at which a test passes is the lowest at which a function is not 0, where the two agree
pub lowest_place : (n : ℕ) (f : ℕ → ℕ) (p : ℕ → Bool) (xs : List ℕ) → length xs ≡ n → ((k : ℕ) → k < n → f k ≡ 0 → p (get_or xs k 0) ≡ false)
    → ((k : ℕ) → k < n → 0 < f k → p (get_or xs k 0) ≡ true)
    → cond (ltb (position_or_len p xs) (length xs)) (Some (position_or_len p xs)) None ≡ place (lowest n f) n
lowest_place n f p xs e misses hits = rw (first, e)
  where
    first : position_or_len p xs ≡ lowest n f
    first =
        position_or_len_is p xs (lowest n f) 0 (omega (arith, lowest_le n f))
        (λ k h. misses k (omega (arith, lowest_le n f)) (lowest_before n f k h)) (λ h. hits (lowest n f) (omega arith) (lowest_hit n f (omega arith)))

pub place_bad : (releases jobs : List ℕ)
    → cond (ltb (position_or_len (is_bad releases jobs) (range_with_len 0 (length releases))) (length (range_with_len 0 (length releases)))) (Some (position_or_len (is_bad releases jobs) (range_with_len 0 (length releases)))) None
    ≡ place (first_bad_job releases jobs) (length releases)
unfolding first_bad_job
place_bad releases jobs =
    lowest_place (length releases) (bad_job releases jobs) (is_bad releases jobs) (range_with_len 0 (length releases)) (length-range_with_len 0 (length releases))
    (λ k h e. rw (here k h, eq-eqb _ _ e)) (λ k h e. rw (here k h, ne_eqb (bad_job releases jobs k) 0 (λ d. omega arith)))
  where
    here : (k : ℕ) → k < length releases → get_or (range_with_len 0 (length releases)) k 0 ≡ k
    here k h = omega (arith, get_or-range_with_len 0 (length releases) k 0 h)

pub place_asking : (jobs : List ℕ)
    → cond (ltb (position_or_len (λ u. not (eqb u 0)) jobs) (length jobs)) (Some (position_or_len (λ u. not (eqb u 0)) jobs)) None ≡ place (first_asking jobs) (length jobs)
unfolding first_asking
place_asking jobs =
    lowest_place (length jobs) (λ k. get_or jobs k 0) (λ u. not (eqb u 0)) jobs refl (λ k h e. rw (eq-eqb _ _ e))
    (λ k h e. rw (ne_eqb (get_or jobs k 0) 0 (λ d. omega arith)))

module _ (jobs : List ℕ) where
  pub nothing_asked : length jobs ≤ first_asking jobs → (k : ℕ) → k < length jobs → get_or jobs k 0 ≡ 0
  unfolding first_asking
  nothing_asked h k l = lowest_none (length jobs) (λ i. get_or jobs i 0) h k l

module _ (releases jobs : List ℕ) (none : None ≡ place (first_bad_job releases jobs) (length releases)) where
  no_bad : (k : ℕ) → k < length releases → bad_job releases jobs k ≡ 0
  unfolding first_bad_job
  no_bad = lowest_none (length releases) (bad_job releases jobs) (past (lowest (length releases) (bad_job releases jobs)) (length releases) none)
    where
      past : (k n : ℕ) → None ≡ place k n → n ≤ k
      past k n e = elim (dec_le n k) [ yes h ↦ h | no h ↦ absurd (some_not_none _ (sym (rw (lt-ltb k n (omega arith)) at e))) ]

  -- a list that passes
  pub jobs_good : length jobs ≡ length releases → length releases ≤ 4096 → JobsGood releases jobs
  jobs_good same few =
      record {
        same = same;
        few = few;
        release = λ k h. (good_job releases jobs k (no_bad k h)).0;
        job = λ k h. (good_job releases jobs k (no_bad k h)).1;
      }
