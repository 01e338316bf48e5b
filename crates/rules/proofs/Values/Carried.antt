-- What answers carry, and when a finish is bounded, worked out by hand.
-- Assumes nothing.
use mathlib.Core.Path.{◌≡◌, refl}
use mathlib.Core.List.{[], ◌∷◌}
use Prim.Native.Nat.{ℕ, zero, suc, ◌+◌, ◌*◌, ◌≤◌, ◌<◌}
use native.Mathlib.Omega.{arith}
use lib.Dec.{lit<, lit≤}
use Rattle.rules.specs.Sum.{first_at, lowest}
use Rattle.rules.specs.Sets.{has}
use Rattle.rules.specs.Tests.{empty_mask, past_cores, lowest_missing, bad_budget, plan_carries}
use Rattle.rules.specs.Jobs.{bad_job_count, early, bad_job, first_bad_job, first_asking}
use Rattle.rules.specs.Walked.{walk_carries}
use Rattle.rules.specs.Line.{line_widths}
use Rattle.rules.specs.Paced.{Paced, Bounded}
use Rattle.rules.specs.Plan.{at}

-- F 9, m 2: task 2 has an empty mask, task 1 one with core 3, task 0 a budget above F; only 4, 13 and 5 carry a task
plan_carries_lem :
    plan_carries 9 2 (10 ∷ 1 ∷ 1 ∷ []) (1 ∷ 9 ∷ 0 ∷ []) 4 ∷ plan_carries 9 2 (10 ∷ 1 ∷ 1 ∷ []) (1 ∷ 9 ∷ 0 ∷ []) 13 ∷
    plan_carries 9 2 (10 ∷ 1 ∷ 1 ∷ []) (1 ∷ 9 ∷ 0 ∷ []) 5 ∷ plan_carries 9 2 (10 ∷ 1 ∷ 1 ∷ []) (1 ∷ 9 ∷ 0 ∷ []) 3 ∷
    plan_carries 9 2 (10 ∷ 1 ∷ 1 ∷ []) (1 ∷ 9 ∷ 0 ∷ []) 6 ∷ plan_carries 9 2 (10 ∷ 1 ∷ 1 ∷ []) (1 ∷ 9 ∷ 0 ∷ []) 12 ∷ [] ≡
    (2 ∷ []) ∷ (1 ∷ 3 ∷ []) ∷ (0 ∷ []) ∷ [] ∷ [] ∷ [] ∷ []
unfolding plan_carries empty_mask past_cores lowest_missing lowest has bad_budget first_at
plan_carries_lem = refl

-- job 2 is released too early, job 1 asks units; only 9 and 10 carry a job
walk_carries_lem :
    walk_carries (5 ∷ 7 ∷ 6 ∷ []) (0 ∷ 1 ∷ 1 ∷ []) 9 ∷ walk_carries (5 ∷ 7 ∷ 6 ∷ []) (0 ∷ 1 ∷ 1 ∷ []) 10 ∷ walk_carries (5 ∷ 7 ∷ 6 ∷ []) (0 ∷ 1 ∷ 1 ∷ []) 8 ∷
    walk_carries (5 ∷ 7 ∷ 6 ∷ []) (0 ∷ 1 ∷ 1 ∷ []) 11 ∷ [] ≡ (2 ∷ []) ∷ (1 ∷ []) ∷ [] ∷ [] ∷ []
unfolding walk_carries bad_job_count first_bad_job bad_job early first_asking lowest
walk_carries_lem = refl

-- lists of unlike length carry job 0, whatever job is released too early
unlike_lists : walk_carries (5 ∷ 7 ∷ 6 ∷ []) (0 ∷ 1 ∷ []) 9 ≡ 0 ∷ []
unfolding walk_carries bad_job_count first_bad_job bad_job early lowest
unlike_lists = refl

-- the widths on a line of what 3 to 8 and 12 to 14 carry
line_widths_lem :
    line_widths 3 ∷ line_widths 4 ∷ line_widths 5 ∷ line_widths 6 ∷ line_widths 7 ∷ line_widths 8 ∷ line_widths 12 ∷ line_widths 13 ∷ line_widths 14 ∷ [] ≡
    [] ∷ (1 ∷ []) ∷ (1 ∷ []) ∷ [] ∷ (8 ∷ 2 ∷ []) ∷ [] ∷ [] ∷ (1 ∷ 1 ∷ []) ∷ [] ∷ []
unfolding line_widths
line_widths_lem = refl

beyond_two : (k : ℕ) → suc (suc (suc k)) ≤ 2 → ⊥
beyond_two k l = omega arith

-- F 6, b 4, T 9, c 6: 36 is at most 36; two jobs 9 apart, of 6 and 5 units; what stands beyond them does not count
paced_value : Paced 6 4 9 6 2 (at (4 ∷ 13 ∷ 14 ∷ [])) (at (6 ∷ 5 ∷ 7 ∷ []))
paced_value = record { enough = lit≤ tt; apart = apart; small = small }
  where
    apart : (k : ℕ) → suc k < 2 → at (4 ∷ 13 ∷ 14 ∷ []) k + 9 ≤ at (4 ∷ 13 ∷ 14 ∷ []) (suc k)
    apart zero l = lit≤ tt
    apart (suc k) l = absurd (beyond_two k l)

    small : (k : ℕ) → k < 2 → at (6 ∷ 5 ∷ 7 ∷ []) k ≤ 6
    small zero l = lit≤ tt
    small (suc zero) l = lit≤ tt
    small (suc (suc k)) l = absurd (beyond_two k l)

-- 36 above 35, a release one too early, a job of one unit too many
too_much : Paced 6 5 7 6 0 (at []) (at []) → ⊥
too_much p = let e : 36 ≤ 35 = p.enough in omega arith

too_close : Paced 6 4 9 6 2 (at (4 ∷ 12 ∷ [])) (at (6 ∷ 6 ∷ [])) → ⊥
too_close p = let e : 13 ≤ 12 = p.apart 0 (lit< tt) in omega arith

too_large : Paced 6 4 9 6 2 (at (4 ∷ 13 ∷ [])) (at (6 ∷ 7 ∷ [])) → ⊥
too_large p = let e : 7 ≤ 6 = p.small 1 (lit< tt) in omega arith

-- a finish at its release + T + F, where F does not divide T; what stands beyond the jobs does not count
frame_bound : Bounded 6 9 1 (at (4 ∷ [])) (at (19 ∷ 99 ∷ []))
frame_bound = record { by_frame = by_frame; by_period = λ q e. absurd (thirds q e) }
  where
    by_frame : (k : ℕ) → k < 1 → at (19 ∷ 99 ∷ []) k ≤ at (4 ∷ []) k + 9 + 6
    by_frame zero l = lit≤ tt
    by_frame (suc k) l = absurd (far l)
      where
        far : suc (suc k) ≤ 1 → ⊥
        far l = omega arith

    thirds : (q : ℕ) → 9 ≡ q * 6 → ⊥
    thirds q e = omega arith

-- a finish at its release + T, where F divides T
period_bound : Bounded 6 12 1 (at (4 ∷ [])) (at (16 ∷ 99 ∷ []))
period_bound = record { by_frame = by_frame; by_period = by_period }
  where
    far : (k : ℕ) → suc (suc k) ≤ 1 → ⊥
    far k l = omega arith

    by_frame : (k : ℕ) → k < 1 → at (16 ∷ 99 ∷ []) k ≤ at (4 ∷ []) k + 12 + 6
    by_frame zero l = lit≤ tt
    by_frame (suc k) l = absurd (far k l)

    by_period : (q : ℕ) → 12 ≡ q * 6 → (k : ℕ) → k < 1 → at (16 ∷ 99 ∷ []) k ≤ at (4 ∷ []) k + 12
    by_period q e zero l = lit≤ tt
    by_period q e (suc k) l = absurd (far k l)

-- one later, each
past_the_frame : Bounded 6 9 1 (at (4 ∷ [])) (at (20 ∷ [])) → ⊥
past_the_frame b = let e : 20 ≤ 19 = b.by_frame 0 (lit< tt) in omega arith

past_the_period : Bounded 6 12 1 (at (4 ∷ [])) (at (17 ∷ [])) → ⊥
past_the_period b = let e : 17 ≤ 16 = b.by_period 2 refl 0 (lit< tt) in omega arith
