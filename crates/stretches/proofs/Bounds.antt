-- The starts of a walk stay small: a task that is met adds at most what its core and its own row hold.
-- Assumes nothing.
use mathlib.Core.Path.{◌≡◌}
use Prim.Native.Nat.{ℕ, zero, suc, ◌+◌, ◌*◌, ◌≤◌, ◌<◌}
use native.Mathlib.Nat.{le_refl, le_trans}
use native.Mathlib.Decide.{ℕ_discrete, dec_lt}
use native.Mathlib.Omega.{arith}
use Rattle.rules.specs.Layout.{Walk, stretch, begun, reach, meet_mark, meet_one, meet, visit_mark, visit, next_core, visits}
use Rattle.stretches.specs.Small.{Small, Bounded}
use Rattle.sums.proofs.Order.{zero_of}
use Rattle.stretches.proofs.Reaching.{SameAt, reach_come, reach_same, meet_none, meet_old, meet_fresh}
use Rattle.stretches.proofs.Ahead.{ahead_ends}
use Rattle.stretches.proofs.Visits.{next_core_below}

pub bounded_more : {n b c : ℕ} {w : Walk} → b ≤ c → Bounded n b w → Bounded n c w
bounded_more l h = record { starts = λ k. le_trans (h.starts k) l; firsts = h.firsts }

module _ (n m : ℕ) (x : ℕ → ℕ → ℕ) (small : Small n m x) where
  bounded_reach : (t j s b : ℕ) (w : Walk) → t < n → j < m → s + 1000000 ≤ b → Bounded n b w → Bounded n b (reach n m x t j s m (meet_mark n m x t w))
  unfolding meet_mark
  bounded_reach t j s b w tn jm l h =
      record {
        starts = λ k. by_cases k (λ km u ne. rw (reach_come n m x t j s m (meet_mark n m x t w) k km u ne).start (omega (arith, ahead_ends m (suc j) (x t) k jm km, small.rows t tn))) (λ e. rw e.start (h.starts k));
        firsts = λ k. by_cases k (λ km u ne. rw (reach_come n m x t j s m (meet_mark n m x t w) k km u ne).first tn) (λ e. rw e.first (h.firsts k));
      }
    where
      by_cases : {P : Type 0} (k : ℕ) → (k < m → 0 < x t k → (k ≡ j → ⊥) → P) → (SameAt (reach n m x t j s m (meet_mark n m x t w)) (meet_mark n m x t w) k → P) → P
      by_cases k hit miss =
          elim (dec_lt k m) [
            | no a ↦ miss (reach_same n m x t j s m (meet_mark n m x t w) k (λ l h ne. a l))
            | yes l ↦
                elim (dec_lt 0 (x t k)) [
                  | no a ↦ miss (reach_same n m x t j s m (meet_mark n m x t w) k (λ l h ne. a h))
                  | yes h ↦ elim (ℕ_discrete k j) [ yes e ↦ miss (reach_same n m x t j s m (meet_mark n m x t w) k (λ l h ne. ne e)) | no ne ↦ hit l h ne ]
                ]
          ]

  stretch_below : (t j b : ℕ) (w : Walk) → t < n → j < m → Bounded n b w → stretch n m x w t j ≤ b + 1000000
  unfolding stretch
  stretch_below t j b w tn jm h = omega (arith, h.starts j, ahead_ends n (w.first j) (λ i. x i j) t (h.firsts j) tn, small.cols j jm)

  pub bounded_meet_one : (j t b : ℕ) (w : Walk) → t < n → j < m → Bounded n b w → Bounded n (b + 2000000) (meet_one n m x j t w)
  bounded_meet_one j t b w tn jm h =
      elim (dec_lt 0 (x t j)) [
        | no z ↦ rw (meet_none n m x j t w (zero_of z)) (bounded_more (omega arith) h)
        | yes u ↦
            elim (dec_lt 0 (w.met t)) [
              | yes s ↦ rw (meet_old n m x j t w s) (bounded_more (omega arith) h)
              | no z ↦ rw (meet_fresh n m x j t w u (zero_of z)) (bounded_reach t j (stretch n m x w t j) (b + 2000000) w tn jm (omega (arith, stretch_below t j b w tn jm h)) (bounded_more (omega arith) h))
            ]
      ]

  pub bounded_meet : (j c b : ℕ) (w : Walk) → c ≤ n → j < m → Bounded n b w → Bounded n (b + c * 2000000) (meet n m x j c w)
  unfolding meet
  bounded_meet j zero b w l jm h = bounded_more (omega arith) h
  bounded_meet j (suc c) b w l jm h =
      bounded_more (omega arith) (bounded_meet_one j c (b + c * 2000000) (meet n m x j c w) l jm (bounded_meet j c b w (omega arith) jm h))

  pub bounded_mark : (j b : ℕ) (w : Walk) → Bounded n b w → Bounded n b (visit_mark n m x j w)
  unfolding visit_mark
  bounded_mark j b w h = record { starts = h.starts; firsts = h.firsts }

  bounded_visit : (j b : ℕ) (w : Walk) → j < m → Bounded n b w → Bounded n (b + 128000000) (visit n m x j w)
  unfolding visit
  bounded_visit j b w jm h = bounded_more (omega (arith, small.tasks)) (bounded_meet j n b (visit_mark n m x j w) (le_refl _) jm (bounded_mark j b w h))

  pub bounded_visits : (c : ℕ) → c ≤ m → Bounded n (c * 128000000) (visits n m x c)
  unfolding visits begun
  bounded_visits zero l = record { starts = λ k. omega arith; firsts = λ k. omega arith }
  bounded_visits (suc c) l =
      bounded_more (omega arith)
      (bounded_visit (next_core n m x (visits n m x c)) (c * 128000000) (visits n m x c) (next_core_below n m x c l) (bounded_visits c (omega arith)))
