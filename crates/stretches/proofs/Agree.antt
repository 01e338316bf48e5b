-- Allocations that agree on the first n tasks and m cores have the same walk and the same table.
-- Assumes nothing.
use mathlib.Core.Path.{◌≡◌, refl, sym, ◌∙◌, ap, ap₂}
use mathlib.Core.Bool.{cond}
use mathlib.Core.List.{◌++◌}
use Prim.Native.Nat.{ℕ, zero, suc, ◌+◌, ◌*◌, ◌%◌, ◌≤◌, ◌<◌}
use native.Mathlib.Nat.{le_refl}
use native.Mathlib.Decide.{ℕ_discrete, dec_lt}
use native.Mathlib.Omega.{arith}
use lib.Dec.{eqb}
use Rattle.rules.specs.Sum.{put}
use Rattle.rules.specs.Layout.{Walk, ahead, stretch, reach_one, reach, meet_mark, meet_one, meet, visit_mark, visit, waiting, unvisited, next_core, visits, layout}
use Rattle.rules.specs.Table.{cut, insert_all, pieces_on, core_to, cores_to}
use Rattle.sums.proofs.Sum.{sum_cong}
use Rattle.stretches.specs.Small.{Small, Bounded}
use Rattle.sums.proofs.Order.{zero_of}
use Rattle.stretches.proofs.Reaching.{one_none, one_here, one_moved, meet_none, meet_old, meet_fresh}
use Rattle.stretches.proofs.Visits.{next_core_below}
use Rattle.stretches.proofs.Bounds.{bounded_meet, bounded_mark, bounded_visits}
use Rattle.stretches.proofs.Cuts.{pieces_none, pieces_some}

ahead_agree : (n p : ℕ) (f g : ℕ → ℕ) (i : ℕ) → ((k : ℕ) → k < n → f k ≡ g k) → p ≤ n → i ≤ n → ahead p f i ≡ ahead p g i
unfolding ahead
ahead_agree n zero f g i h a b = sum_cong i (λ k l. h k (omega arith))
ahead_agree n (suc q) f g i h a b =
    ap₂ (λ (u v : ℕ). cond (eqb i q) 0 (u + v)) (h q a)
    (sum_cong i {f = put q 0 f} {g = put q 0 g} (λ k l. ap (λ (z : ℕ). cond (eqb k q) 0 z) (h k (omega arith))))

module _ (n m : ℕ) (x y : ℕ → ℕ → ℕ) (agree : (i j : ℕ) → i < n → j < m → x i j ≡ y i j) where
  reach_one_agree : (t j s k : ℕ) (w : Walk) → t < n → j < m → k < m → reach_one n m x t j s k w ≡ reach_one n m y t j s k w
  reach_one_agree t j s k w tn jm km =
      elim (dec_lt 0 (x t k)) [
        | no z ↦ one_none n m x t j s k w (zero_of z) ∙ sym (one_none n m y t j s k w (sym (agree t k tn km) ∙ zero_of z))
        | yes h ↦
            elim (ℕ_discrete k j) [
              | yes e ↦ one_here n m x t j s k w e ∙ sym (one_here n m y t j s k w e)
              | no ne ↦
                  one_moved n m x t j s k w h ne
                  ∙ ap (λ (a : ℕ). record { visited = w.visited; reached = put k 1 w.reached; met = w.met; start = put k (s + a) w.start; first = put k (suc t) w.first })
                  (ahead_agree m (suc j) (x t) (y t) k (λ i l. agree t i tn l) jm (omega arith))
                  ∙ sym (one_moved n m y t j s k w (rw (sym (agree t k tn km)) h) ne)
            ]
      ]

  reach_agree : (t j s c : ℕ) (w : Walk) → t < n → j < m → c ≤ m → reach n m x t j s c w ≡ reach n m y t j s c w
  unfolding reach
  reach_agree t j s zero w tn jm l = refl
  reach_agree t j s (suc c) w tn jm l =
      reach_one_agree t j s c (reach n m x t j s c w) tn jm l ∙ ap (reach_one n m y t j s c) (reach_agree t j s c w tn jm (omega arith))

  stretch_agree : (w : Walk) (t j : ℕ) → t < n → j < m → w.first j ≤ n → stretch n m x w t j ≡ stretch n m y w t j
  unfolding stretch
  stretch_agree w t j tn jm h = ap (λ (a : ℕ). w.start j + a) (ahead_agree n (w.first j) (λ i. x i j) (λ i. y i j) t (λ i l. agree i j l jm) h (omega arith))

  meet_one_agree : (j t : ℕ) (w : Walk) → t < n → j < m → w.first j ≤ n → meet_one n m x j t w ≡ meet_one n m y j t w
  unfolding meet_mark
  meet_one_agree j t w tn jm h =
      elim (dec_lt 0 (x t j)) [
        | no z ↦ meet_none n m x j t w (zero_of z) ∙ sym (meet_none n m y j t w (sym (agree t j tn jm) ∙ zero_of z))
        | yes u ↦
            elim (dec_lt 0 (w.met t)) [
              | yes s ↦ meet_old n m x j t w s ∙ sym (meet_old n m y j t w s)
              | no z ↦
                  meet_fresh n m x j t w u (zero_of z) ∙ ap (λ (s : ℕ). reach n m x t j s m (meet_mark n m x t w)) (stretch_agree w t j tn jm h)
                  ∙ reach_agree t j (stretch n m y w t j) m (meet_mark n m x t w) tn jm (le_refl _) ∙ sym (meet_fresh n m y j t w (rw (sym (agree t j tn jm)) u) (zero_of z))
            ]
      ]

  module _ (small : Small n m x) where
    meet_agree : (j c b : ℕ) (w : Walk) → c ≤ n → j < m → Bounded n b w → meet n m x j c w ≡ meet n m y j c w
    unfolding meet
    meet_agree j zero b w l jm h = refl
    meet_agree j (suc c) b w l jm h =
        meet_one_agree j c (meet n m x j c w) l jm ((bounded_meet n m x small j c b w (omega arith) jm h).firsts j) ∙ ap (meet_one n m y j c) (meet_agree j c b w (omega arith) jm h)

    visit_agree : (j b : ℕ) (w : Walk) → j < m → Bounded n b w → visit n m x j w ≡ visit n m y j w
    unfolding visit visit_mark
    visit_agree j b w jm h = meet_agree j n b (visit_mark n m x j w) (le_refl _) jm (bounded_mark n m x small j b w h)

    visits_agree : (c : ℕ) → c ≤ m → visits n m x c ≡ visits n m y c
    unfolding visits next_core waiting unvisited
    visits_agree zero l = refl
    visits_agree (suc c) l =
        visit_agree (next_core n m x (visits n m x c)) (c * 128000000) (visits n m x c)
        (next_core_below n m x c l) (bounded_visits n m x small c (omega arith))
        ∙ ap (λ (w : Walk). visit n m y (next_core n m y w) w) (visits_agree c (omega arith))

    pub layout_agree : layout n m x ≡ layout n m y
    unfolding layout
    layout_agree = visits_agree m (le_refl _)

  module _ (F : ℕ) (w : Walk) (firsts : (k : ℕ) → w.first k ≤ n) where
    pieces_agree : (j t : ℕ) → j < m → t < n → pieces_on F n m x w j t ≡ pieces_on F n m y w j t
    pieces_agree j t jm tn =
        elim (dec_lt 0 (x t j)) [
          | no z ↦ pieces_none F n m x w j t (zero_of z) ∙ sym (pieces_none F n m y w j t (sym (agree t j tn jm) ∙ zero_of z))
          | yes h ↦
              pieces_some F n m x w j t h ∙ ap₂ (λ (s l : ℕ). cut F j t (s % F) l) (stretch_agree w t j tn jm (firsts j)) (agree t j tn jm)
              ∙ sym (pieces_some F n m y w j t (rw (sym (agree t j tn jm)) h))
        ]

    core_agree : (j c : ℕ) → j < m → c ≤ n → core_to F n m x w j c ≡ core_to F n m y w j c
    unfolding core_to
    core_agree j zero jm l = refl
    core_agree j (suc c) jm l = ap₂ insert_all (pieces_agree j c jm l) (core_agree j c jm (omega arith))

    pub cores_agree : (c : ℕ) → c ≤ m → cores_to F n m x w c ≡ cores_to F n m y w c
    unfolding cores_to
    cores_agree zero l = refl
    cores_agree (suc c) l = ap₂ ◌++◌ (cores_agree c (omega arith)) (core_agree c n l (le_refl _))
