-- Each visit marks one core, so before the last visit some core is left, and the next core is one that there is: for any units.
-- Assumes nothing.
use mathlib.Core.Path.{◌≡◌, refl, ◌∙◌, ap}
use mathlib.Core.Bool.{cond}
use Prim.Native.Nat.{ℕ, zero, suc, ◌≤◌, ◌<◌}
use native.Mathlib.Decide.{dec_lt}
use native.Mathlib.Omega.{arith}
use lib.Dec.{eqb}
use borrow.Author.Tests.{lt-ltb, le-ltb}
use Rattle.rules.specs.Sum.{sum_to, put, lowest}
use Rattle.rules.specs.Layout.{Walk, stretch, begun, meet_mark, meet_one, meet, visit_mark, visit, waiting, unvisited, next_core, visits}
use Rattle.sums.proofs.Sum.{sum_put, sum_le, sum_zero, sum_const}
use Rattle.sums.proofs.Lowest.{lowest_none}
use Rattle.sums.proofs.Order.{zero_of}
use Rattle.stretches.proofs.Reaching.{reach_rest, meet_none, meet_old, meet_fresh}

module _ (n m : ℕ) (x : ℕ → ℕ → ℕ) where
  meet_one_visited : (j t : ℕ) (w : Walk) → (meet_one n m x j t w).visited ≡ w.visited
  unfolding meet_mark
  meet_one_visited j t w =
      elim (dec_lt 0 (x t j)) [
        | no z ↦ ap (λ (v : Walk). v.visited) (meet_none n m x j t w (zero_of z))
        | yes h ↦
            elim (dec_lt 0 (w.met t)) [
              | yes s ↦ ap (λ (v : Walk). v.visited) (meet_old n m x j t w s)
              | no z ↦ ap (λ (v : Walk). v.visited) (meet_fresh n m x j t w h (zero_of z)) ∙ (reach_rest n m x t j (stretch n m x w t j) m (meet_mark n m x t w)).0
            ]
      ]

  meet_visited : (j c : ℕ) (w : Walk) → (meet n m x j c w).visited ≡ w.visited
  unfolding meet
  meet_visited j zero w = refl
  meet_visited j (suc c) w = meet_one_visited j c (meet n m x j c w) ∙ meet_visited j c w

  visit_visited : (j : ℕ) (w : Walk) → (visit n m x j w).visited ≡ put j 1 w.visited
  unfolding visit visit_mark
  visit_visited j w = meet_visited j n (visit_mark n m x j w)

  -- a core is left
  pub unvisited_below : (w : Walk) → sum_to m w.visited < m → lowest m (unvisited n m x w) < m
  unfolding unvisited
  unvisited_below w few = elim (dec_lt (lowest m (unvisited n m x w)) m) [ yes h ↦ h | no g ↦ absurd (full (omega arith)) ]
    where
      full : m ≤ lowest m (unvisited n m x w) → ⊥
      full h = omega (arith, sum_const m 1, sum_le m {f = λ k. 1} {g = w.visited} (λ k b. flag (w.visited k) (lowest_none m (unvisited n m x w) h k b)))
        where
          flag : (a : ℕ) → ◌≡◌ {A = ℕ} (cond (eqb a 0) 1 0) 0 → 1 ≤ a
          flag zero e = absurd (omega arith)
          flag (suc a) e = omega arith

  -- and so the next core is one that there is
  pub next_below : (w : Walk) → sum_to m w.visited < m → next_core n m x w < m
  unfolding next_core
  next_below w few =
      elim (dec_lt (lowest m (waiting n m x w)) m) [
        | yes h ↦ rw (lt-ltb (lowest m (waiting n m x w)) m h, next_core) h
        | no g ↦ rw (le-ltb (lowest m (waiting n m x w)) m (omega arith), next_core) (unvisited_below w few)
      ]

  -- after c visits at most c cores are marked
  visits_counted : (c : ℕ) → c ≤ m → sum_to m (visits n m x c).visited ≤ c
  unfolding visits begun
  visits_counted zero l = omega (arith, sum_zero m {f = λ k. 0} (λ k b. refl))
  visits_counted (suc c) l =
      rw (visit_visited (next_core n m x (visits n m x c)) (visits n m x c)) (
      omega (
        arith,
        visits_counted c (omega arith),
        sum_put m (next_core n m x (visits n m x c)) 1 (visits n m x c).visited (next_below (visits n m x c) (omega (arith, visits_counted c (omega arith)))),
      )
      )

  pub next_core_below : (c : ℕ) → c < m → next_core n m x (visits n m x c) < m
  next_core_below c l = next_below (visits n m x c) (omega (arith, visits_counted c (omega arith)))
