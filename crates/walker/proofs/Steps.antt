-- The loop over the jobs: each place below the clock's job holds its finish.
-- Assumes nothing.
use mathlib.Core.Path.{◌≡◌, refl, sym, ◌∙◌}
use mathlib.Core.List.{List}
use Prim.Native.Nat.{ℕ, zero, suc, ◌+◌, ◌*◌, ◌≤◌, ◌<◌, max}
use native.Mathlib.Nat.{not-suc-le-zero, le_refl, max-zero, mul-le-mul_right}
use native.Mathlib.Decide.{ℕ_discrete}
use native.Mathlib.Numerals.{add-one}
use native.Mathlib.Omega.{arith}
use lib.ListN.{length, get_or, set, drop, length-set}
use lib.Seq.{get_or-set_same, get_or-set_other, drop-set-lt}
use Rattle.rules.specs.Finish.{begin_of}
use Rattle.walker.specs.declared.span.Span.{Span}
use Rattle.walker.specs.Served.{units_of}
use Rattle.walker.specs.Least.{FinishBy}
use Rattle.walker.specs.Step.{Ready, StepReady, Stepped}
use Rattle.walker.specs.Jobs.{Finished, AllReady, JobsGood}

-- the finish before job k; 0 before the first
abbrev pub prior : List ℕ → ℕ → ℕ
prior after zero = 0
prior after (suc k) = get_or after k 0

begin_prior : (releases after : List ℕ) (k : ℕ) → begin_of (λ k. get_or releases k 0) (λ k. get_or after k 0) k ≡ max (get_or releases k 0) (prior after k)
unfolding begin_of
begin_prior releases after zero = sym (max-zero (get_or releases zero 0))
begin_prior releases after (suc k) = refl

prior_set : (after : List ℕ) (k e j : ℕ) → j ≤ k → prior (set after k e) j ≡ prior after j
prior_set after k e zero h = refl
prior_set after k e (suc j) h = get_or-set_other after k j e 0 (λ d. omega arith)

module _ (F : ℕ) (spans : List Span) (releases jobs before : List ℕ) where
  -- the clock stands at `at` before job k
  pub record Finishing (after : List ℕ) (at k : ℕ) : Type 0 where
    pub below : k ≤ length releases
    pub clock : at ≡ prior after k
    pub near : at ≤ 1000000000000 * (k + 1)
    pub done : (j : ℕ) → j < k → FinishBy (units_of F spans) (max (get_or releases j 0) (prior after j)) (get_or jobs j 0) (get_or after j 0)
    pub size : length after ≡ length before
    pub kept : drop (length releases) after ≡ drop (length releases) before

  pub finishing_none : Finishing before 0 0
  finishing_none =
      record {
        below = omega arith;
        clock = refl;
        near = omega arith;
        done = λ j h. absurd (not-suc-le-zero h);
        size = refl;
        kept = refl;
      }

  module _ (total : ℕ) (ready : Ready F spans) (good : JobsGood releases jobs) (all : AllReady releases jobs before total) (after : List ℕ) (at k : ℕ) (now : Finishing after at k) (inside : k < length releases) where
    job_small : get_or jobs k 0 * F ≤ 1000000000000
    job_small = omega (arith, mul-le-mul_right F (good.job k inside), ready.short)

    pub finishing_ready : StepReady F total (max (get_or releases k 0) at) (get_or jobs k 0)
    finishing_ready =
        record {
          some = all.asked k (omega (arith, good.same));
          small = omega (arith, job_small, good.release k inside, now.near, good.few);
        }

    pub finishing_room : k < length after
    finishing_room = omega (arith, now.size, all.room)

    pub finishing_more : (e : ℕ) → Stepped F spans (max (get_or releases k 0) at) (get_or jobs k 0) e → Finishing (set after k e) e (k + 1)
    finishing_more e s =
        record {
          below = omega arith;
          clock = rw (add-one k) (sym here);
          near = omega (arith, s.near, job_small, good.release k inside, now.near);
          done = done;
          size = length-set after k e ∙ now.size;
          kept = drop-set-lt (length releases) after k e inside ∙ now.kept;
        }
      where
        here : get_or (set after k e) k 0 ≡ e
        here = get_or-set_same after k e 0 finishing_room

        last : FinishBy (units_of F spans) (max (get_or releases k 0) (prior (set after k e) k)) (get_or jobs k 0) (get_or (set after k e) k 0)
        last = rw (prior_set after k e k (le_refl _), ← now.clock, here) s.finish

        done : (j : ℕ) → j < k + 1 → FinishBy (units_of F spans) (max (get_or releases j 0) (prior (set after k e) j)) (get_or jobs j 0) (get_or (set after k e) j 0)
        done j h =
            elim (ℕ_discrete j k) [
              | yes d ↦ rw d last
              | no d ↦ rw (prior_set after k e j (omega arith), get_or-set_other after k j e 0 (λ f. d f)) (now.done j (omega arith))
            ]

  pub finishing_done : (after : List ℕ) (at k : ℕ) → Finishing after at k → length releases ≤ k → Finished F spans releases jobs before after
  finishing_done after at k now h =
      record {
        finishes = λ j l. rw (begin_prior releases after j) (now.done j (omega arith));
        size = now.size;
        kept = now.kept;
      }

  pub finishing_size : (after : List ℕ) (at k : ℕ) → Finishing after at k → length after ≡ length before
  finishing_size after at k now = now.size
