-- The walk of specs/Layout.antt over a peeled graph reaches no core twice: the vertices of the tree that is being walked would have too many
-- edges. So what a met task fixed stays fixed.
-- Assumes nothing.
use mathlib.Core.Path.{◌≡◌, sym, ◌∙◌, ap}
use Prim.Native.Nat.{ℕ, zero, suc, ◌+◌, ◌-◌, ◌*◌, ◌≤◌, ◌<◌}
use native.Mathlib.Nat.{le_refl, le_trans, not-suc-le-zero, mul-le-mul, one-mul, zero-mul}
use native.Mathlib.Decide.{ℕ_discrete, dec_lt}
use native.Mathlib.Omega.{arith}
use Rattle.rules.specs.Sum.{sum_to, put, positive}
use Rattle.rules.specs.Layout.{Walk, ahead, stretch, reach, meet_mark}
use Rattle.sums.proofs.Sum.{put_same, put_other, sum_cong, sum_le, sum_zero, sum_add, sum_put, sum_term, sum_lt, positive_of}
use Rattle.forest.specs.Peeled.{Peeled}
use Rattle.forest.proofs.Forest.{edges, sparse}
use Rattle.sums.proofs.Order.{zero_of}
use Rattle.stretches.proofs.Reaching.{SameAt, same_trans, Come, reach_rest, reach_come, reach_same}

-- terms at most: the sum grows by at least as much as one term
pub sum_gain : (n k : ℕ) (f g : ℕ → ℕ) → ((i : ℕ) → i < n → f i ≤ g i) → k < n → sum_to n f + g k ≤ sum_to n g + f k
unfolding sum_to
sum_gain zero k f g h l = absurd (not-suc-le-zero l)
sum_gain (suc n) k f g h l =
    elim (ℕ_discrete k n) [
      | yes e ↦ omega (arith, sum_le n {f = f} {g = g} (λ i b. h i (omega arith)), ap f e, ap g e)
      | no ne ↦ omega (arith, sum_gain n k f g (λ i b. h i (omega arith)) (omega arith), h n (omega arith))
    ]

pub sum_two : (n i k : ℕ) (f : ℕ → ℕ) → i < n → k < n → (k ≡ i → ⊥) → 0 < f i → 0 < f k → 2 ≤ sum_to n f
sum_two n i k f a b ne u v = omega (arith, sum_put n i 0 f a, sum_term n k (put i 0 f) b, put_other i 0 f k ne)

module _ (n m : ℕ) (x : ℕ → ℕ → ℕ) where
  -- a task more, and perhaps cores
  pub edges_gain : (g h g' h' : ℕ → ℕ) (t : ℕ) → ((i : ℕ) → i < n → g i ≤ g' i) → ((j : ℕ) → j < m → h j ≤ h' j) → t < n → g t ≡ 0 → g' t ≡ 1
      → edges n m x g h + sum_to m (λ k. h' k * positive (x t k)) ≤ edges n m x g' h'
  unfolding edges
  edges_gain g h g' h' t gs hs l none one =
      omega (
        arith,
        sum_gain n t (λ i. sum_to m (λ j. g i * h j * positive (x i j))) (λ i. sum_to m (λ j. g' i * h' j * positive (x i j)))
            (λ i a. sum_le m (λ j b. mul-le-mul (mul-le-mul (gs i a) (hs j b)) (le_refl _))) l,
        before,
        after,
      )
    where
      before : sum_to m (λ j. g t * h j * positive (x t j)) ≡ 0
      before = sum_zero m (λ j b. rw none (simp zero-mul))

      after : sum_to m (λ j. g' t * h' j * positive (x t j)) ≡ sum_to m (λ k. h' k * positive (x t k))
      after = sum_cong m (λ j b. rw one (simp one-mul))

  -- task t was met on the core `met_on`, and its other cores were reached through it
  pub record Laid (w : Walk) (t : ℕ) : Type 0 where
    pub met_on : ℕ
    pub below : met_on < m
    pub runs : 0 < x t met_on
    pub reached : 0 < w.reached met_on
    pub others : (c : ℕ) → c < m → 0 < x t c → (c ≡ met_on → ⊥) → (0 < w.reached c) × (w.first c ≡ suc t) × (w.start c ≡ stretch n m x w t met_on + ahead (suc met_on) (x t) c)

  -- what was reached stays as it was
  abbrev pub Kept : Walk → Walk → Type 0
  Kept v w = (k : ℕ) → 0 < v.reached k → SameAt w v k

  pub kept_trans : {u v w : Walk} → Kept u v → Kept v w → Kept u w
  kept_trans a b k h = same_trans (b k (rw (a k h).reached h)) (a k h)

  pub stretch_kept : {v w : Walk} (t k : ℕ) → SameAt w v k → stretch n m x w t k ≡ stretch n m x v t k
  unfolding stretch
  stretch_kept t k e = rw (e.start, e.first)

  pub laid_kept : {v w : Walk} {t : ℕ} → Kept v w → Laid v t → Laid w t
  laid_kept {v} {w} {t} keeps l =
      record {
        met_on = l.met_on;
        below = l.below;
        runs = l.runs;
        reached = rw (keeps l.met_on l.reached).reached l.reached;
        others =
            λ c b h ne.
            let o = l.others c b h ne in
            let e = keeps c o.0 in
            (rw e.reached o.0, e.first ∙ o.1, e.start ∙ o.2 ∙ ap (λ (s : ℕ). s + ahead (suc l.met_on) (x t) c) (sym (stretch_kept t l.met_on (keeps l.met_on l.reached))));
      }

  -- what the tree that is being walked has gained since its root was chosen at w₀
  abbrev pub new_tasks : Walk → Walk → ℕ → ℕ
  new_tasks w₀ w t = w.met t - w₀.met t

  abbrev pub new_cores : Walk → Walk → ℕ → ℕ
  new_cores w₀ w k = w.reached k - w₀.reached k

  pub record Growing (w₀ w : Walk) : Type 0 where
    pub ones : (k : ℕ) → w.reached k ≤ 1
    pub mets : (t : ℕ) → w.met t ≤ 1
    pub reached_more : (k : ℕ) → w₀.reached k ≤ w.reached k
    pub met_more : (t : ℕ) → w₀.met t ≤ w.met t
    -- earlier trees are closed
    pub closed : (t : ℕ) → t < n → (k : ℕ) → k < m → 0 < x t k → 0 < w₀.reached k → 0 < w₀.met t
    -- the tree hangs together
    pub many : sum_to n (new_tasks w₀ w) + sum_to m (new_cores w₀ w) ≤ edges n m x (new_tasks w₀ w) (new_cores w₀ w) + 1
    pub laid : (t : ℕ) → t < n → 0 < w.met t → Laid w t
    pub firsts : (k : ℕ) → w.first k ≤ n

  module _ (p : Peeled n m x) (w₀ w : Walk) (g : Growing w₀ w) (j : ℕ) (jm : j < m) (here : 0 < w.reached j) (new : w₀.reached j ≡ 0) (t : ℕ) (tn : t < n) (runs : 0 < x t j) (unmet : w.met t ≡ 0) where
    none_yet : new_tasks w₀ w t ≡ 0
    none_yet = omega arith

    tasks_up : (i : ℕ) → i < n → new_tasks w₀ w i ≤ put t 1 (new_tasks w₀ w) i
    tasks_up i l =
        elim (ℕ_discrete i t) [
          | yes e ↦ rw (ap (new_tasks w₀ w) e, none_yet) (omega arith)
          | no ne ↦ rw (put_other t 1 (new_tasks w₀ w) i ne) (le_refl _)
        ]

    tasks_one : (i : ℕ) → i < n → put t 1 (new_tasks w₀ w) i ≤ 1
    tasks_one i l =
        elim (ℕ_discrete i t) [
          | yes e ↦ rw (e, put_same t 1 (new_tasks w₀ w)) (le_refl _)
          | no ne ↦ rw (put_other t 1 (new_tasks w₀ w) i ne) (omega (arith, g.mets i))
        ]

    -- a core of the task that was reached already would close a loop
    pub never_twice : (k : ℕ) → k < m → 0 < x t k → (k ≡ j → ⊥) → w.reached k ≡ 0
    never_twice k km u ne =
        elim (dec_lt 0 (w.reached k)) [
          | no z ↦ zero_of z
          | yes h ↦
              absurd
              (omega (
                arith,
                sparse p (put t 1 (new_tasks w₀ w)) (new_cores w₀ w) tasks_one (λ i l. omega (arith, g.ones i)) (omega (arith, sum_put n t 1 (new_tasks w₀ w) tn, none_yet)),
                edges_gain (new_tasks w₀ w) (new_cores w₀ w) (put t 1 (new_tasks w₀ w)) (new_cores w₀ w) t tasks_up (λ i l. le_refl _) tn none_yet (put_same t 1 (new_tasks w₀ w)),
                row_two h,
                sum_put n t 1 (new_tasks w₀ w) tn,
                none_yet,
                g.many,
              ))
        ]
      where
        not_old : w₀.reached k ≡ 0
        not_old = elim (dec_lt 0 (w₀.reached k)) [ no z ↦ zero_of z | yes o ↦ absurd (omega (arith, g.closed t tn k km u o, g.met_more t)) ]

        edge_at : (k : ℕ) → 0 < w.reached k → w₀.reached k ≡ 0 → 0 < x t k → 0 < new_cores w₀ w k * positive (x t k)
        edge_at k h o u = rw (positive_of (x t k) u) (omega arith)

        row_two : 0 < w.reached k → 2 ≤ sum_to m (λ k. new_cores w₀ w k * positive (x t k))
        row_two h = sum_two m j k (λ k. new_cores w₀ w k * positive (x t k)) jm km ne (edge_at j here new runs) (edge_at k h not_old u)

    -- the walk after the task was met
    abbrev pub after : Walk
    after = reach n m x t j (stretch n m x w t j) m (meet_mark n m x t w)

    after_met : (i : ℕ) → after.met i ≡ put t 1 w.met i
    unfolding meet_mark
    after_met i = ap (λ (f : ℕ → ℕ). f i) (reach_rest n m x t j (stretch n m x w t j) m (meet_mark n m x t w)).1

    pub after_visited : after.visited ≡ w.visited
    unfolding meet_mark
    after_visited = (reach_rest n m x t j (stretch n m x w t j) m (meet_mark n m x t w)).0

    after_same : (k : ℕ) → (k < m → 0 < x t k → (k ≡ j → ⊥) → ⊥) → SameAt after w k
    unfolding meet_mark
    after_same k no_way =
        let e = reach_same n m x t j (stretch n m x w t j) m (meet_mark n m x t w) k no_way in
        record { reached = e.reached; start = e.start; first = e.first }

    after_come : (k : ℕ) → k < m → 0 < x t k → (k ≡ j → ⊥) → Come x t j (stretch n m x w t j) k after
    after_come k l h ne = reach_come n m x t j (stretch n m x w t j) m (meet_mark n m x t w) k l h ne

    by_cases : {P : Type 0} (k : ℕ) → (k < m → 0 < x t k → (k ≡ j → ⊥) → P) → (SameAt after w k → P) → P
    by_cases k hit miss =
        elim (dec_lt k m) [
          | no a ↦ miss (after_same k (λ l h ne. a l))
          | yes l ↦
              elim (dec_lt 0 (x t k)) [
                | no a ↦ miss (after_same k (λ l h ne. a h))
                | yes h ↦ elim (ℕ_discrete k j) [ yes e ↦ miss (after_same k (λ l h ne. ne e)) | no ne ↦ hit l h ne ]
              ]
        ]

    pub after_kept : Kept w after
    after_kept k r = after_same k (λ l h ne. absurd (omega (arith, never_twice k l h ne)))

    after_ones : (k : ℕ) → after.reached k ≤ 1
    after_ones k = by_cases k (λ l h ne. rw (after_come k l h ne).reached (le_refl _)) (λ e. rw e.reached (g.ones k))

    after_more : (k : ℕ) → w.reached k ≤ after.reached k
    after_more k = by_cases k (λ l h ne. rw (after_come k l h ne).reached (g.ones k)) (λ e. rw e.reached (le_refl _))

    after_firsts : (k : ℕ) → after.first k ≤ n
    after_firsts k = by_cases k (λ l h ne. rw (after_come k l h ne).first tn) (λ e. rw e.first (g.firsts k))

    after_mets : (i : ℕ) → after.met i ≤ 1
    after_mets i =
        rw (after_met i)
        (elim (ℕ_discrete i t) [
          | yes e ↦ rw (e, put_same t 1 w.met) (le_refl _)
          | no ne ↦ rw (put_other t 1 w.met i ne) (g.mets i)
        ])

    pub after_met_more : (i : ℕ) → w.met i ≤ after.met i
    after_met_more i =
        rw (after_met i)
        (elim (ℕ_discrete i t) [
          | yes e ↦ rw (e, put_same t 1 w.met) (g.mets t)
          | no ne ↦ rw (put_other t 1 w.met i ne) (le_refl _)
        ])

    pub after_met_here : after.met t ≡ 1
    after_met_here = after_met t ∙ put_same t 1 w.met

    after_laid : (i : ℕ) → i < n → 0 < after.met i → Laid after i
    after_laid i l h =
        elim (ℕ_discrete i t) [
          | yes e ↦ rw e this
          | no ne ↦ laid_kept after_kept (g.laid i l (rw (sym (put_other t 1 w.met i ne), sym (after_met i)) h))
        ]
      where
        this : Laid after t
        this =
            record {
              met_on = j;
              below = jm;
              runs = runs;
              reached = rw (after_kept j here).reached here;
              others =
                  λ c b h ne.
                  let o = after_come c b h ne in
                  (rw o.reached (le_refl _), o.first, o.start ∙ ap (λ (s : ℕ). s + ahead (suc j) (x t) c) (sym (stretch_kept t j (after_kept j here))));
            }

    after_tasks : sum_to n (new_tasks w₀ after) ≡ sum_to n (new_tasks w₀ w) + 1
    after_tasks =
        sum_cong n {f = new_tasks w₀ after} {g = put t 1 (new_tasks w₀ w)} (λ i l. at i) ∙ omega (arith, sum_put n t 1 (new_tasks w₀ w) tn, none_yet)
      where
        at : (i : ℕ) → new_tasks w₀ after i ≡ put t 1 (new_tasks w₀ w) i
        at i =
            elim (ℕ_discrete i t) [
              | yes e ↦ rw (e, put_same t 1 (new_tasks w₀ w), after_met_here) (omega (arith, g.met_more t))
              | no ne ↦ rw (put_other t 1 (new_tasks w₀ w) i ne, after_met i, put_other t 1 w.met i ne)
            ]

    after_cores : sum_to m (new_cores w₀ after) ≤ sum_to m (new_cores w₀ w) + sum_to m (λ k. new_cores w₀ after k - new_cores w₀ w k)
    after_cores =
        rw (sym (sum_add m (new_cores w₀ w) (λ k. new_cores w₀ after k - new_cores w₀ w k)))
        (sum_le m {f = new_cores w₀ after} {g = λ k. new_cores w₀ w k + (new_cores w₀ after k - new_cores w₀ w k)} (λ k l. back (new_cores w₀ after k) (new_cores w₀ w k)))
      where
        back : (a b : ℕ) → a ≤ b + (a - b)
        back a b = omega arith

    after_row : sum_to m (λ k. new_cores w₀ after k - new_cores w₀ w k) < sum_to m (λ k. new_cores w₀ after k * positive (x t k))
    after_row =
        sum_lt m j (λ k. new_cores w₀ after k - new_cores w₀ w k) (λ k. new_cores w₀ after k * positive (x t k)) at jm
        (rw (positive_of (x t j) runs) (omega (arith, (after_kept j here).reached)))
      where
        at : (k : ℕ) → k < m → new_cores w₀ after k - new_cores w₀ w k ≤ new_cores w₀ after k * positive (x t k)
        at k l =
            elim (dec_lt 0 (x t k)) [
              | yes h ↦ rw (positive_of (x t k) h) (omega arith)
              | no z ↦ omega (arith, (after_same k (λ l h ne. z h)).reached)
            ]

    pub after_growing : Growing w₀ after
    after_growing =
        record {
          ones = after_ones;
          mets = after_mets;
          reached_more = λ k. le_trans (g.reached_more k) (after_more k);
          met_more = λ i. le_trans (g.met_more i) (after_met_more i);
          closed = g.closed;
          many =
              omega (
                arith,
                after_tasks,
                after_cores,
                after_row,
                g.many,
                edges_gain (new_tasks w₀ w) (new_cores w₀ w) (new_tasks w₀ after) (new_cores w₀ after) t (λ i l. less (w₀.met i) (after_met_more i)) (λ k l. less (w₀.reached k) (after_more k)) tn none_yet (one after_met_here),
              );
          laid = after_laid;
          firsts = after_firsts;
        }
      where
        less : {a b : ℕ} (c : ℕ) → a ≤ b → a - c ≤ b - c
        less c h = omega arith

        one : after.met t ≡ 1 → new_tasks w₀ after t ≡ 1
        one e = omega (arith, g.met_more t)
