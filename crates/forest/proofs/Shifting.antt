-- Shifting units round a cycle keeps all sums, makes no edge, and one edge at least goes.
-- Assumes nothing.
use mathlib.Core.Path.{◌≡◌, refl, sym, ◌∙◌, ap, subst}
use mathlib.Core.Bool.{cond}
use Prim.Native.Nat.{ℕ, suc, ◌+◌, ◌-◌, ◌≤◌, ◌<◌}
use native.Mathlib.Decide.{ℕ_discrete, dec_lt}
use native.Mathlib.Numerals.{add-one}
use native.Mathlib.Omega.{arith}
use borrow.Author.Tests.{eq-eqb, ne_eqb}
use lib.Dec.{eqb}
use Rattle.rules.specs.Sum.{sum_to, put, positive}
use Rattle.sums.proofs.Sum.{sum_cong, sum_le, sum_lt, sum_put, sum_but_one, put_same, put_other, positive_le, positive_of, positive_none}
use Rattle.forest.specs.Ring.{amount, Moved, prior, Ring, Least, Shifted, Kept, edges}

pub amount_at : (j c d : ℕ) → j ≡ c → amount j c d ≡ d
amount_at j c d e = rw (eq-eqb j c e)

pub amount_off : (j c d : ℕ) → (j ≡ c → ⊥) → amount j c d ≡ 0
amount_off j c d ne = rw (ne_eqb j c ne)

module _ (n m : ℕ) (wide : m ≤ 16) (x y : ℕ → ℕ → ℕ) (t from to d : ℕ) (mv : Moved x y t from to d) (below : t < n) (f-below : from < m) (t-below : to < m) where
  -- the row of the task
  own_row : sum_to m (y t) ≡ sum_to m (x t)
  own_row =
      omega
      (arith, sum_put m from (y t from) (x t) f-below, sum_but_one m to (y t) (put from (y t from) (x t)) t-below same, at_to, mv.less, mv.more)
    where
      same : (j : ℕ) → j < m → (j ≡ to → ⊥) → y t j ≡ put from (y t from) (x t) j
      same j l ne =
          elim (ℕ_discrete j from) [
            | yes e ↦ ap (y t) e ∙ sym (put_same from (y t from) (x t)) ∙ ap (put from (y t from) (x t)) (sym e)
            | no nf ↦ mv.rest j (omega arith) nf ne ∙ sym (put_other from (y t from) (x t) j nf)
          ]

      at_to : put from (y t from) (x t) to ≡ x t to
      at_to = put_other from (y t from) (x t) to (λ e. mv.differ (sym e))

  pub moved_rows : (a : ℕ) → a < n → sum_to m (y a) ≡ sum_to m (x a)
  moved_rows a l =
      elim (ℕ_discrete a t) [
        | yes e ↦ ap (λ (k : ℕ). sum_to m (y k)) e ∙ own_row ∙ ap (λ (k : ℕ). sum_to m (x k)) (sym e)
        | no ne ↦ sum_cong m (λ j k. mv.others a ne j (omega arith))
      ]

  pub moved_columns : (j : ℕ) → j < m → sum_to n (λ a. y a j) + amount j from d ≡ sum_to n (λ a. x a j) + amount j to d
  moved_columns j l =
      elim (ℕ_discrete j from) [
        | yes e ↦
            omega (arith, one, amount_at j from d e, amount_off j to d (λ g. mv.differ (sym e ∙ g)), ap (λ (k : ℕ). y t k + d) e ∙ mv.less ∙ ap (x t) (sym e))
        | no nf ↦
            elim (ℕ_discrete j to) [
              | yes e ↦ omega (arith, one, amount_off j from d nf, amount_at j to d e, ap (y t) e ∙ mv.more ∙ ap (λ (k : ℕ). x t k + d) (sym e))
              | no ne ↦ omega (arith, one, amount_off j from d nf, amount_off j to d ne, mv.rest j (omega arith) nf ne)
            ]
      ]
    where
      one : sum_to n (λ a. y a j) + x t j ≡ sum_to n (λ a. x a j) + y t j
      one = sum_but_one n t (λ a. y a j) (λ a. x a j) below (λ a k ne. mv.others a ne j (omega arith))

  -- an edge after the shift was one before, where there was one to the core that gets units
  pub moved_fewer : 0 < x t to → (a : ℕ) → a < n → (j : ℕ) → j < m → 0 < y a j → 0 < x a j
  moved_fewer p a l j k q =
      elim (ℕ_discrete a t) [
        | yes e ↦
            subst (λ (b : ℕ). 0 < x b j) (sym e)
            (elim (ℕ_discrete j from) [
              | yes f ↦ subst (λ (i : ℕ). 0 < x t i) (sym f) (up (subst (λ (i : ℕ). 0 < y t i) f (subst (λ (b : ℕ). 0 < y b j) e q)) mv.less)
              | no nf ↦
                  elim (ℕ_discrete j to) [
                    | yes g ↦ subst (λ (i : ℕ). 0 < x t i) (sym g) p
                    | no ng ↦ subst (λ (v : ℕ). 0 < v) (mv.rest j (omega arith) nf ng) (subst (λ (b : ℕ). 0 < y b j) e q)
                  ]
            ])
        | no ne ↦ subst (λ (v : ℕ). 0 < v) (mv.others a ne j (omega arith)) q
      ]
    where
      up : {a b : ℕ} → 0 < a → a + d ≡ b → 0 < b
      up p q = omega arith

module _ (n m : ℕ) (wide : m ≤ 16) (x : ℕ → ℕ → ℕ) (task core : ℕ → ℕ) (lo hi d : ℕ) (ring : Ring n m x task core lo hi) where
  pub shifted_none : Shifted n m x x task core lo hi d lo
  shifted_none =
      record {
        rows = λ a l. refl;
        columns = λ j l. rw (eq-eqb lo lo refl);
        untouched = λ l a b j k. refl;
        fewer = λ a l j k p. p;
        emptied = λ w a b e. absurd (no a b);
      }
    where
      no : {a b : ℕ} → a ≤ b → b < a → ⊥
      no p q = omega arith

  prior_below : (i : ℕ) → lo ≤ i → i < hi → prior core lo hi i < m
  prior_below i a b =
      elim (ℕ_discrete i lo) [
        | yes e ↦ rw (eq-eqb i lo e) (ring.cores_below (hi - 1) (omega (arith, ring.two)) (omega (arith, ring.two)))
        | no ne ↦ rw (ne_eqb i lo ne) (ring.cores_below (i - 1) (omega arith) (omega arith))
      ]

  -- the debt moves from the prior core to this one
  step_columns : (y z : ℕ → ℕ → ℕ) (i : ℕ) → lo ≤ i → i < hi → (j : ℕ)
      → sum_to n (λ a. y a j) + cond (eqb i lo) 0 (amount j (core (i - 1)) d) ≡ sum_to n (λ a. x a j) + cond (eqb i lo) 0 (amount j (core (hi - 1)) d)
      → sum_to n (λ a. z a j) + amount j (core i) d ≡ sum_to n (λ a. y a j) + amount j (prior core lo hi i) d
      → sum_to n (λ a. z a j) + cond (eqb (suc i) lo) 0 (amount j (core i) d) ≡ sum_to n (λ a. x a j) + cond (eqb (suc i) lo) 0 (amount j (core (hi - 1)) d)
  step_columns y z i a b j p q =
      rw (ne_eqb (suc i) lo (λ e. past a e))
      (elim (ℕ_discrete i lo) [
        | yes e ↦ q ∙ at_lo e (rw (eq-eqb i lo e) at p)
        | no ne ↦ q ∙ later ne (rw (ne_eqb i lo ne) at p)
      ])
    where
      past : {a b : ℕ} → a ≤ b → suc b ≡ a → ⊥
      past p q = omega arith

      at_lo : i ≡ lo → sum_to n (λ a. y a j) + 0 ≡ sum_to n (λ a. x a j) + 0
          → sum_to n (λ a. y a j) + amount j (prior core lo hi i) d ≡ sum_to n (λ a. x a j) + amount j (core (hi - 1)) d
      at_lo e p = rw (eq-eqb i lo e) (omega arith)

      later : (i ≡ lo → ⊥) → sum_to n (λ a. y a j) + amount j (core (i - 1)) d ≡ sum_to n (λ a. x a j) + amount j (core (hi - 1)) d
          → sum_to n (λ a. y a j) + amount j (prior core lo hi i) d ≡ sum_to n (λ a. x a j) + amount j (core (hi - 1)) d
      later ne p = rw (ne_eqb i lo ne) p

  module _ (y z : ℕ → ℕ → ℕ) (i : ℕ) (a : lo ≤ i) (b : i < hi) (s : Shifted n m x y task core lo hi d i)
      (mv : Moved y z (task i) (core i) (prior core lo hi i) d) where
    before_back : 0 < y (task i) (prior core lo hi i)
    before_back = subst (λ (v : ℕ). 0 < v) (sym (s.untouched i (omega arith) b (prior core lo hi i) (wider (prior_below i a b)))) (ring.back i a b)
      where
        wider : {k : ℕ} → k < m → k < 16
        wider l = omega arith

    emptied_more : (w : ℕ) → lo ≤ w → w < suc i → x (task w) (core w) ≡ d → z (task w) (core w) ≡ 0
    emptied_more w p q e =
        elim (ℕ_discrete w i) [
          | yes f ↦
              subst (λ (k : ℕ). z (task k) (core k) ≡ 0) (sym f)
              (zero_left mv.less (s.untouched i (omega arith) b (core i) (wider (ring.cores_below i a b)) ∙ subst (λ (k : ℕ). x (task k) (core k) ≡ d) f e))
          | no ne ↦
              mv.others (task w) (λ g. ring.tasks_differ w i p (omega arith) b g) (core w) (wider (ring.cores_below w p (omega arith))) ∙ s.emptied w p (omega arith) e
        ]
      where
        wider : {k : ℕ} → k < m → k < 16
        wider l = omega arith

        zero_left : {u v : ℕ} → u + d ≡ v → v ≡ d → u ≡ 0
        zero_left p q = omega arith

    pub shifted_more : Shifted n m x z task core lo hi d (i + 1)
    shifted_more =
        rw add-one
        (record {
          rows = λ c l. moved_rows n m wide y z (task i) (core i) (prior core lo hi i) d mv (ring.tasks_below i a b) (ring.cores_below i a b) (prior_below i a b) c l ∙ s.rows c l;
          columns = λ j l.
              subst (λ (k : ℕ). sum_to n (λ a. z a j) + cond (eqb (suc i) lo) 0 (amount j (core k) d) ≡ sum_to n (λ a. x a j) + cond (eqb (suc i) lo) 0 (amount j (core (hi - 1)) d)) (back_one i)
              (step_columns y z i a b j (s.columns j l) (moved_columns n m wide y z (task i) (core i) (prior core lo hi i) d mv (ring.tasks_below i a b) (ring.cores_below i a b) (prior_below i a b) j l));
          untouched = λ l p q j k. mv.others (task l) (λ g. ring.tasks_differ i l a p q (sym g)) j k ∙ s.untouched l (omega arith) q j k;
          fewer = λ c l j k p. s.fewer c l j k (moved_fewer n m wide y z (task i) (core i) (prior core lo hi i) d mv (ring.tasks_below i a b) (ring.cores_below i a b) (prior_below i a b) before_back c l j k p);
          emptied = emptied_more;
        })
      where
        back_one : (i : ℕ) → i ≡ suc i - 1
        back_one i = omega arith

  pub shifted_kept : (y : ℕ → ℕ → ℕ) → Shifted n m x y task core lo hi d hi → Kept n m x y
  shifted_kept y s =
      record {
        rows = s.rows;
        columns = λ j l. even j (rw (ne_eqb hi lo (λ e. no e ring.two)) at (s.columns j l));
        fewer = s.fewer;
      }
    where
      no : hi ≡ lo → suc lo < hi → ⊥
      no e l = omega arith

      even : (j : ℕ) → sum_to n (λ a. y a j) + amount j (core (hi - 1)) d ≡ sum_to n (λ a. x a j) + amount j (core (hi - 1)) d → sum_to n (λ a. y a j) ≡ sum_to n (λ a. x a j)
      even j p = omega arith

  pub shifted_edges : (y : ℕ → ℕ → ℕ) → Shifted n m x y task core lo hi d hi → Least x task core lo hi d → edges n m y < edges n m x
  unfolding edges
  shifted_edges y s least =
      let w = least.place in
      sum_lt n (task w) (λ i. sum_to m (λ j. positive (y i j))) (λ i. sum_to m (λ j. positive (x i j)))
      (λ i l. sum_le m (λ j k. fewer_edge (y i j) (x i j) (s.fewer i l j k)))
      (ring.tasks_below w least.from_lo least.to_hi)
      (sum_lt m (core w) (λ j. positive (y (task w) j)) (λ j. positive (x (task w) j))
      (λ j k. fewer_edge (y (task w) j) (x (task w) j) (s.fewer (task w) (ring.tasks_below w least.from_lo least.to_hi) j k))
      (ring.cores_below w least.from_lo least.to_hi)
      (drops (positive_none (s.emptied w least.from_lo least.to_hi least.met)) (positive_of _ (ring.along w least.from_lo least.to_hi))))
    where
      fewer_edge : (u v : ℕ) → (0 < u → 0 < v) → positive u ≤ positive v
      fewer_edge u v h =
          elim (dec_lt 0 u) [
            | yes p ↦ subst (λ (k : ℕ). positive u ≤ k) (sym (positive_of v (h p))) (positive_le u)
            | no z ↦ subst (λ (k : ℕ). k ≤ positive v) (sym (positive_none (none z))) (omega arith)
          ]
        where
          none : {u : ℕ} → (0 < u → ⊥) → u ≡ 0
          none z = omega arith

      drops : {a b : ℕ} → a ≡ 0 → b ≡ 1 → a < b
      drops p q = omega arith

pub kept_none : (n m : ℕ) (x : ℕ → ℕ → ℕ) → Kept n m x x
kept_none n m x = record { rows = λ a l. refl; columns = λ j l. refl; fewer = λ a l j k p. p }

pub kept_more : (n m : ℕ) (x y z : ℕ → ℕ → ℕ) → Kept n m x y → Kept n m y z → Kept n m x z
kept_more n m x y z p q =
    record {
      rows = λ a l. q.rows a l ∙ p.rows a l;
      columns = λ j l. q.columns j l ∙ p.columns j l;
      fewer = λ a l j k u. p.fewer a l j k (q.fewer a l j k u);
    }
