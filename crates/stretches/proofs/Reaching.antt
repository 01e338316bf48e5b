-- What one visit changes in a walk (rules, specs/Layout.antt): a task that is met reaches its other cores, and everything else stays.
-- Assumes nothing.
use mathlib.Core.Path.{◌≡◌, refl, sym, ◌∙◌}
use Prim.Native.Nat.{ℕ, zero, suc, ◌+◌, ◌<◌}
use native.Mathlib.Nat.{not-suc-le-zero}
use native.Mathlib.Decide.{ℕ_discrete, dec_lt}
use native.Mathlib.Omega.{arith}
use borrow.Author.Tests.{eq-eqb, ne_eqb}
use Rattle.rules.specs.Sum.{put}
use Rattle.rules.specs.Layout.{Walk, ahead, stretch, reach_one, reach, meet_mark, meet_one}
use Rattle.sums.proofs.Sum.{put_same, put_other}
use Rattle.sums.proofs.Order.{zero_of, pred_of}

-- a core's entries are the same in both walks
pub record SameAt (v w : Walk) (k : ℕ) : Type 0 where
  pub reached : v.reached k ≡ w.reached k
  pub start : v.start k ≡ w.start k
  pub first : v.first k ≡ w.first k

pub same_refl : (w : Walk) (k : ℕ) → SameAt w w k
same_refl w k = record { reached = refl; start = refl; first = refl }

pub same_trans : {u v w : Walk} {k : ℕ} → SameAt u v k → SameAt v w k → SameAt u w k
same_trans a b = record { reached = a.reached ∙ b.reached; start = a.start ∙ b.start; first = a.first ∙ b.first }

-- core k was reached through task t, which was met on core j where it starts at s
pub record Come (x : ℕ → ℕ → ℕ) (t j s k : ℕ) (v : Walk) : Type 0 where
  pub reached : v.reached k ≡ 1
  pub start : v.start k ≡ s + ahead (suc j) (x t) k
  pub first : v.first k ≡ suc t

module _ (n m : ℕ) (x : ℕ → ℕ → ℕ) (t j s : ℕ) where
  pub one_none : (k : ℕ) (w : Walk) → x t k ≡ 0 → reach_one n m x t j s k w ≡ w
  unfolding reach_one
  one_none k w e = rw (e, reach_one)

  pub one_here : (k : ℕ) (w : Walk) → k ≡ j → reach_one n m x t j s k w ≡ w
  unfolding reach_one
  one_here k w e =
      elim (dec_lt 0 (x t k)) [
        | yes h ↦ let b = pred_of (x t k) h in rw (b.1, reach_one, eq-eqb k j e, reach_one)
        | no z ↦ rw (zero_of z, reach_one)
      ]

  abbrev pub moved : ℕ → Walk → Walk
  moved k w =
      record {
        visited = w.visited;
        reached = put k 1 w.reached;
        met = w.met;
        start = put k (s + ahead (suc j) (x t) k) w.start;
        first = put k (suc t) w.first;
      }

  pub one_moved : (k : ℕ) (w : Walk) → 0 < x t k → (k ≡ j → ⊥) → reach_one n m x t j s k w ≡ moved k w
  unfolding reach_one
  one_moved k w h ne = let b = pred_of (x t k) h in rw (b.1, reach_one, ne_eqb k j ne, reach_one)

  one_come : (k : ℕ) (w : Walk) → 0 < x t k → (k ≡ j → ⊥) → Come x t j s k (reach_one n m x t j s k w)
  one_come k w h ne =
      rw (one_moved k w h ne)
      (record { reached = put_same k 1 w.reached; start = put_same k (s + ahead (suc j) (x t) k) w.start; first = put_same k (suc t) w.first })

  one_same : (k c : ℕ) (w : Walk) → (k ≡ c → ⊥) → SameAt (reach_one n m x t j s c w) w k
  one_same k c w ne =
      elim (dec_lt 0 (x t c)) [
        | no z ↦ rw (one_none c w (zero_of z)) (same_refl w k)
        | yes h ↦
            elim (ℕ_discrete c j) [
              | yes e ↦ rw (one_here c w e) (same_refl w k)
              | no d ↦ rw (one_moved c w h d) (record { reached = put_other c 1 w.reached k ne; start = put_other c (s + ahead (suc j) (x t) c) w.start k ne; first = put_other c (suc t) w.first k ne })
            ]
      ]

  one_rest : (c : ℕ) (w : Walk) → ((reach_one n m x t j s c w).visited ≡ w.visited) × ((reach_one n m x t j s c w).met ≡ w.met)
  one_rest c w =
      elim (dec_lt 0 (x t c)) [
        | no z ↦ rw (one_none c w (zero_of z)) (refl, refl)
        | yes h ↦
            elim (ℕ_discrete c j) [
              | yes e ↦ rw (one_here c w e) (refl, refl)
              | no d ↦ rw (one_moved c w h d) (refl, refl)
            ]
      ]

  pub reach_rest : (c : ℕ) (w : Walk) → ((reach n m x t j s c w).visited ≡ w.visited) × ((reach n m x t j s c w).met ≡ w.met)
  unfolding reach
  reach_rest zero w = (refl, refl)
  reach_rest (suc c) w =
      let a = one_rest c (reach n m x t j s c w) in
      let b = reach_rest c w in
      (a.0 ∙ b.0, a.1 ∙ b.1)

  come_kept : {k : ℕ} {v w : Walk} → SameAt v w k → Come x t j s k w → Come x t j s k v
  come_kept a b = record { reached = a.reached ∙ b.reached; start = a.start ∙ b.start; first = a.first ∙ b.first }

  pub reach_come : (c : ℕ) (w : Walk) (k : ℕ) → k < c → 0 < x t k → (k ≡ j → ⊥) → Come x t j s k (reach n m x t j s c w)
  unfolding reach
  reach_come zero w k l h ne = absurd (not-suc-le-zero l)
  reach_come (suc c) w k l h ne =
      elim (ℕ_discrete c k) [
        | yes e ↦ at_last c e
        | no d ↦ come_kept (one_same k c (reach n m x t j s c w) (λ e. d (sym e))) (reach_come c w k (omega arith) h ne)
      ]
    where
      at_last : (c : ℕ) → c ≡ k → Come x t j s k (reach_one n m x t j s c (reach n m x t j s c w))
      at_last c e = rw e (one_come k (reach n m x t j s k w) h ne)

  pub reach_same : (c : ℕ) (w : Walk) (k : ℕ) → (k < c → 0 < x t k → (k ≡ j → ⊥) → ⊥) → SameAt (reach n m x t j s c w) w k
  unfolding reach
  reach_same zero w k no_way = same_refl w k
  reach_same (suc c) w k no_way =
      elim (ℕ_discrete c k) [
        | yes e ↦ same_trans (at_last c e (λ h ne. no_way (omega arith) h ne)) (reach_same c w k (λ l h ne. no_way (omega arith) h ne))
        | no d ↦ same_trans (one_same k c (reach n m x t j s c w) (λ e. d (sym e))) (reach_same c w k (λ l h ne. no_way (omega arith) h ne))
      ]
    where
      stays : (v : Walk) → (0 < x t k → (k ≡ j → ⊥) → ⊥) → reach_one n m x t j s k v ≡ v
      stays v q =
          elim (dec_lt 0 (x t k)) [
            | no z ↦ one_none k v (zero_of z)
            | yes h ↦ elim (ℕ_discrete k j) [ yes e ↦ one_here k v e | no d ↦ absurd (q h d) ]
          ]

      at_last : (c : ℕ) → c ≡ k → (0 < x t k → (k ≡ j → ⊥) → ⊥) → SameAt (reach_one n m x t j s c (reach n m x t j s c w)) (reach n m x t j s c w) k
      at_last c e q = rw e (rw (stays (reach n m x t j s k w) q) (same_refl (reach n m x t j s k w) k))

module _ (n m : ℕ) (x : ℕ → ℕ → ℕ) (j t : ℕ) (w : Walk) where
  pub meet_none : x t j ≡ 0 → meet_one n m x j t w ≡ w
  unfolding meet_one
  meet_none e = rw (e, meet_one)

  pub meet_old : 0 < w.met t → meet_one n m x j t w ≡ w
  unfolding meet_one
  meet_old s =
      elim (dec_lt 0 (x t j)) [
        | no z ↦ rw (zero_of z, meet_one)
        | yes h ↦ let a = pred_of (x t j) h in let b = pred_of (w.met t) s in rw (a.1, meet_one, b.1, meet_one)
      ]

  pub meet_fresh : 0 < x t j → w.met t ≡ 0 → meet_one n m x j t w ≡ reach n m x t j (stretch n m x w t j) m (meet_mark n m x t w)
  unfolding meet_one
  meet_fresh h e = let a = pred_of (x t j) h in rw (a.1, meet_one, e, meet_one)
