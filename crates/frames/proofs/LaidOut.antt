-- After m visits every core was visited, and each task with units was laid out from the core where it was met: one equation between the two
-- readings of where a stretch starts, that of its core and that of its task.
-- Assumes nothing.
use mathlib.Core.Path.{◌≡◌, refl, sym, ◌∙◌, ap, fun_ext}
use mathlib.Core.Bool.{Bool, false, cond}
use mathlib.Core.Logic.{◌⊎◌, inl, inr, ⊎_elim}
use Prim.Native.Nat.{ℕ, zero, suc, ◌-◌, ◌*◌, ◌≤◌, ◌<◌}
use native.Mathlib.Nat.{le_refl, le_trans, not-suc-le-zero, mul-one, sub_self}
use native.Mathlib.Decide.{ℕ_discrete, dec_lt}
use native.Mathlib.Omega.{arith}
use lib.Dec.{eqb}
use borrow.Author.Tests.{ne_eqb, lt-ltb, le-ltb}
use Rattle.rules.specs.Sum.{sum_to, put, lowest}
use Rattle.rules.specs.Layout.{Walk, begun, meet_one, meet, visit_mark, visit, waiting, unvisited, next_core, visits, layout}
use Rattle.sums.proofs.Sum.{put_same, put_other, sum_le, sum_zero, sum_put, sum_tight, sum_const}
use Rattle.forest.specs.Peeled.{Peeled}
use Rattle.forest.proofs.Forest.{left_pos, right_pos}
use Rattle.sums.proofs.Lowest.{lowest_hit, lowest_none}
use Rattle.sums.proofs.Order.{zero_of}
use Rattle.stretches.proofs.Visits.{unvisited_below}
use Rattle.stretches.proofs.Reaching.{same_refl, meet_none, meet_old, meet_fresh}
use Rattle.frames.proofs.ReachedOnce.{Laid, Kept, kept_trans, Growing, new_tasks, new_cores, laid_kept, after_visited, after_kept, after_met_more, after_met_here, after_growing}

module _ (n m : ℕ) (x : ℕ → ℕ → ℕ) where
  -- a part of a visit
  pub record Met (w₀ v w : Walk) : Type 0 where
    pub growing : Growing n m x w₀ w
    pub kept : Kept n m x v w
    pub visited : w.visited ≡ v.visited
    pub met_more : (i : ℕ) → v.met i ≤ w.met i

  met_none : {w₀ w : Walk} → Growing n m x w₀ w → Met w₀ w w
  met_none {w₀} {w} g = record { growing = g; kept = λ k h. same_refl w k; visited = refl; met_more = λ i. le_refl _ }

  met_trans : {w₀ u v w : Walk} → Met w₀ u v → Met w₀ v w → Met w₀ u w
  met_trans a b = record { growing = b.growing; kept = kept_trans n m x a.kept b.kept; visited = b.visited ∙ a.visited; met_more = λ i. le_trans (a.met_more i) (b.met_more i) }

  module _ (p : Peeled n m x) (w₀ : Walk) (j : ℕ) (jm : j < m) (new : w₀.reached j ≡ 0) where
    meet_one_lem : (w : Walk) → Growing n m x w₀ w → 0 < w.reached j → (t : ℕ) → t < n
        → Met w₀ w (meet_one n m x j t w) × (0 < x t j → 0 < (meet_one n m x j t w).met t)
    unfolding meet_one
    meet_one_lem w g here t tn =
        elim (dec_lt 0 (x t j)) [
          | no z ↦ rw (meet_none n m x j t w (zero_of z)) (met_none g, λ h. absurd (z h))
          | yes h ↦
              elim (dec_lt 0 (w.met t)) [
                | yes s ↦ rw (meet_old n m x j t w s) (met_none g, λ h. s)
                | no z ↦
                    rw (meet_fresh n m x j t w h (zero_of z)) (
                      record {
                        growing = after_growing n m x p w₀ w g j jm here new t tn h (zero_of z);
                        kept = after_kept n m x p w₀ w g j jm here new t tn h (zero_of z);
                        visited = after_visited n m x p w₀ w g j jm here new t tn h (zero_of z);
                        met_more = after_met_more n m x p w₀ w g j jm here new t tn h (zero_of z);
                      },
                      λ h. rw (after_met_here n m x p w₀ w g j jm here new t tn h (zero_of z)) (le_refl _),
                    )
              ]
        ]

    meet_to : (c : ℕ) (w : Walk) → Growing n m x w₀ w → 0 < w.reached j → c ≤ n
        → Met w₀ w (meet n m x j c w) × ((t : ℕ) → t < c → 0 < x t j → 0 < (meet n m x j c w).met t)
    unfolding meet
    meet_to zero w g here l = (met_none g, λ t a. absurd (not-suc-le-zero a))
    meet_to (suc c) w g here l =
        let a = meet_to c w g here (omega arith) in
        let b = meet_one_lem (meet n m x j c w) a.0.growing (rw (a.0.kept j here).reached here) c l in
        (met_trans a.0 b.0, λ t s h. elim (ℕ_discrete t c) [ yes e ↦ rw e (b.1 (at t e h)) | no ne ↦ le_trans (a.1 t (omega arith) h) (b.0.met_more t) ])
      where
        at : (t : ℕ) → t ≡ c → 0 < x t j → 0 < x c j
        at t e h = rw (sym e) h

  -- between two visits, c of them done
  pub record State (c : ℕ) (w : Walk) : Type 0 where
    -- the walk as it was when the root of the present tree was chosen
    pub root : Walk
    pub growing : Growing n m x root w
    pub visited_one : (k : ℕ) → w.visited k ≤ 1
    pub counted : sum_to m w.visited ≡ c
    pub before : (k : ℕ) → k < m → 0 < root.reached k → 0 < w.visited k
    pub seen : (t : ℕ) → t < n → (k : ℕ) → k < m → 0 < x t k → 0 < w.visited k → 0 < w.met t

  -- the core that is visited next
  pub record Next (w : Walk) (j : ℕ) : Type 0 where
    pub below : j < m
    pub unseen : w.visited j ≡ 0
    pub way : (0 < w.reached j) ⊎ ((k : ℕ) → k < m → 0 < w.reached k → 0 < w.visited k)

  positive_flag : (a : ℕ) → 0 < cond (eqb a 0) 1 0 → a ≡ 0
  positive_flag zero h = refl
  positive_flag (suc a) h = absurd (none (ne_eqb (suc a) 0 (λ e. omega arith)) h)
    where
      none : {b : Bool} → b ≡ false → 0 < cond b 1 0 → ⊥
      none e h = not-suc-le-zero (rw e at h)

  pub next_core_lem : (c : ℕ) (w : Walk) → State c w → c < m → Next w (next_core n m x w)
  unfolding next_core waiting unvisited
  next_core_lem c w s l =
      elim (dec_lt (lowest m (waiting n m x w)) m) [
        | yes h ↦ rw (lt-ltb (lowest m (waiting n m x w)) m h, next_core) (first h)
        | no g ↦ rw (le-ltb (lowest m (waiting n m x w)) m (omega arith), next_core) (second (omega arith))
      ]
    where
      first : lowest m (waiting n m x w) < m → Next w (lowest m (waiting n m x w))
      first h =
          record {
            below = h;
            unseen = positive_flag (w.visited (lowest m (waiting n m x w))) (right_pos (w.reached (lowest m (waiting n m x w))) (cond (eqb (w.visited (lowest m (waiting n m x w))) 0) 1 0) (lowest_hit m (waiting n m x w) h));
            way = inl (left_pos (w.reached (lowest m (waiting n m x w))) (cond (eqb (w.visited (lowest m (waiting n m x w))) 0) 1 0) (lowest_hit m (waiting n m x w) h));
          }

      second : m ≤ lowest m (waiting n m x w) → Next w (lowest m (unvisited n m x w))
      second g =
          let h = unvisited_below n m x w (omega (arith, s.counted)) in
          record {
            below = h;
            unseen = positive_flag (w.visited (lowest m (unvisited n m x w))) (lowest_hit m (unvisited n m x w) h);
            way = inr (λ k b r. seen_of (w.reached k) (w.visited k) r (lowest_none m (waiting n m x w) g k b));
          }
        where
          seen_of : (a b : ℕ) → 0 < a → a * cond (eqb b 0) 1 0 ≡ 0 → 0 < b
          seen_of a zero h e = absurd (omega (arith, mul-one a))
          seen_of a (suc b) h e = omega arith

  growing_same : {w₀ v w : Walk} → Growing n m x w₀ v → w.reached ≡ v.reached → w.met ≡ v.met → w.start ≡ v.start → w.first ≡ v.first → Growing n m x w₀ w
  growing_same {w₀} {v} {w} g r me s f =
      record {
        ones = λ k. rw r (g.ones k);
        mets = λ t. rw me (g.mets t);
        reached_more = λ k. rw r (g.reached_more k);
        met_more = λ t. rw me (g.met_more t);
        closed = g.closed;
        many = rw (r, me) g.many;
        laid = λ t l h. laid_kept n m x {v = v} {w = w} (λ k q. record { reached = ap (λ (h : ℕ → ℕ). h k) r; start = ap (λ (h : ℕ → ℕ). h k) s; first = ap (λ (h : ℕ → ℕ). h k) f }) (g.laid t l (rw me at h));
        firsts = λ k. rw f (g.firsts k);
      }

  put_more : (j k : ℕ) (f : ℕ → ℕ) → 0 < f k → 0 < put j 1 f k
  put_more j k f h =
      elim (ℕ_discrete k j) [
        | yes e ↦ rw (e, put_same j 1 f) (le_refl _)
        | no ne ↦ rw (put_other j 1 f k ne) h
      ]

  put_one : (j k : ℕ) (f : ℕ → ℕ) → f k ≤ 1 → put j 1 f k ≤ 1
  put_one j k f h =
      elim (ℕ_discrete k j) [
        | yes e ↦ rw (e, put_same j 1 f) (le_refl _)
        | no ne ↦ rw (put_other j 1 f k ne) h
      ]

  put_over : (j k : ℕ) (f : ℕ → ℕ) → f k ≤ 1 → f k ≤ put j 1 f k
  put_over j k f h =
      elim (ℕ_discrete k j) [
        | yes e ↦ rw (put_same_at k e) h
        | no ne ↦ rw (put_other j 1 f k ne) (le_refl _)
      ]
    where
      put_same_at : (k : ℕ) → k ≡ j → put j 1 f k ≡ 1
      put_same_at k e = rw (e, put_same j 1 f)

  -- a core that was reached already is marked as visited alone
  mark_old : (w₀ w : Walk) (j : ℕ) → Growing n m x w₀ w → 0 < w.reached j → Growing n m x w₀ (visit_mark n m x j w)
  unfolding visit_mark
  mark_old w₀ w j g h = growing_same g (fun_ext (λ k. at k)) refl refl refl
    where
      at : (k : ℕ) → put j 1 w.reached k ≡ w.reached k
      at k =
          elim (ℕ_discrete k j) [
            | yes e ↦ rw (e, put_same j 1 w.reached) (omega (arith, g.ones j))
            | no ne ↦ put_other j 1 w.reached k ne
          ]

  -- a root begins a tree of its own
  mark_new : (c : ℕ) (w : Walk) (j : ℕ) → State c w → j < m → w.visited j ≡ 0 → ((k : ℕ) → k < m → 0 < w.reached k → 0 < w.visited k) → Growing n m x w (visit_mark n m x j w)
  unfolding visit_mark
  mark_new c w j s jm u all =
      record {
        ones = λ k. put_one j k w.reached (s.growing.ones k);
        mets = s.growing.mets;
        reached_more = λ k. put_over j k w.reached (s.growing.ones k);
        met_more = λ t. le_refl _;
        closed = λ t tn k km h r. s.seen t tn k km h (all k km r);
        many =
            omega (
              arith,
              sum_zero n {f = new_tasks n m x w (visit_mark n m x j w)} (λ i l. sub_self (w.met i)),
              sum_le m {f = new_cores n m x w (visit_mark n m x j w)} {g = put j 1 (λ k. 0)} (λ k l. gained k),
              sum_put m j 1 (λ k. 0) jm,
              sum_zero m {f = λ k. 0} (λ k l. refl),
            );
        laid = λ t l h. laid_kept n m x {v = w} {w = visit_mark n m x j w} keeps (s.growing.laid t l h);
        firsts = s.growing.firsts;
      }
    where
      gained : (k : ℕ) → put j 1 w.reached k - w.reached k ≤ put j 1 (λ k. 0) k
      gained k =
          elim (ℕ_discrete k j) [
            | yes e ↦ rw (e, put_same j 1 w.reached, put_same j 1 (λ k. 0)) (omega arith)
            | no ne ↦ rw (put_other j 1 w.reached k ne) (omega arith)
          ]

      keeps : Kept n m x w (visit_mark n m x j w)
      keeps k h = record { reached = same k h; start = refl; first = refl }
        where
          same : (k : ℕ) → 0 < w.reached k → put j 1 w.reached k ≡ w.reached k
          same k h =
              elim (ℕ_discrete k j) [
                | yes e ↦ absurd (omega (arith, all j jm (at k e h)))
                | no ne ↦ put_other j 1 w.reached k ne
              ]
            where
              at : (k : ℕ) → k ≡ j → 0 < w.reached k → 0 < w.reached j
              at k e h = rw (sym e) h

  module _ (p : Peeled n m x) where
    -- once the core is marked
    visited_on : (c : ℕ) (w w₀ : Walk) (j : ℕ) → State c w → j < m → w.visited j ≡ 0 → w₀.reached j ≡ 0 → Growing n m x w₀ (visit_mark n m x j w)
        → ((k : ℕ) → k < m → 0 < w₀.reached k → 0 < w.visited k) → State (suc c) (visit n m x j w)
    unfolding visit visit_mark
    visited_on c w w₀ j s jm u new g old =
        let r = meet_to p w₀ j jm new n (visit_mark n m x j w) g (rw (put_same j 1 w.reached) (le_refl _)) (le_refl _) in
        record {
          root = w₀;
          growing = r.0.growing;
          visited_one = λ k. rw r.0.visited (put_one j k w.visited (s.visited_one k));
          counted = rw r.0.visited (omega (arith, sum_put m j 1 w.visited jm, s.counted));
          before = λ k km h. rw r.0.visited (put_more j k w.visited (old k km h));
          seen =
              λ t tn k km h v.
              elim (ℕ_discrete k j) [
                | yes e ↦ r.1 t tn (rw (sym e) h)
                | no ne ↦ le_trans (s.seen t tn k km h (rw (sym (put_other j 1 w.visited k ne)) (rw r.0.visited at v))) (r.0.met_more t)
              ];
        }

    visit_next : (c : ℕ) (w : Walk) → State c w → c < m → State (suc c) (visit n m x (next_core n m x w) w)
    visit_next c w s l =
        let j = next_core_lem c w s l in
        ⊎_elim
        (λ here.
        visited_on c w s.root (next_core n m x w) s j.below j.unseen
        (not_old w s.root (next_core n m x w) j.unseen (s.before (next_core n m x w) j.below))
        (mark_old s.root w (next_core n m x w) s.growing here) s.before)
        (λ all.
        visited_on c w w (next_core n m x w) s j.below j.unseen
        (not_old w w (next_core n m x w) j.unseen (all (next_core n m x w) j.below))
        (mark_new c w (next_core n m x w) s j.below j.unseen all) all)
        j.way
      where
        not_old : (w w₀ : Walk) (j : ℕ) → w.visited j ≡ 0 → (0 < w₀.reached j → 0 < w.visited j) → w₀.reached j ≡ 0
        not_old w w₀ j u h = elim (dec_lt 0 (w₀.reached j)) [ no z ↦ zero_of z | yes r ↦ absurd (omega (arith, h r)) ]

    begin : State 0 begun
    unfolding begun
    begin =
        record {
          root = begun;
          growing =
              record {
                ones = λ k. omega arith;
                mets = λ t. omega arith;
                reached_more = λ k. le_refl _;
                met_more = λ t. le_refl _;
                closed = λ t tn k km h r. absurd (not-suc-le-zero r);
                many = omega (arith, sum_zero n {f = new_tasks n m x begun begun} (λ i l. sub_self 0), sum_zero m {f = new_cores n m x begun begun} (λ i l. sub_self 0));
                laid = λ t l h. absurd (not-suc-le-zero h);
                firsts = λ k. omega arith;
              };
          visited_one = λ k. omega arith;
          counted = sum_zero m (λ k l. refl);
          before = λ k km r. absurd (not-suc-le-zero r);
          seen = λ t tn k km h r. absurd (not-suc-le-zero r);
        }

    pub visits_state : (c : ℕ) → c ≤ m → State c (visits n m x c)
    unfolding visits
    visits_state zero l = begin
    visits_state (suc c) l = visit_next c (visits n m x c) (visits_state c (omega arith)) l

    pub layout_state : State m (layout n m x)
    unfolding layout
    layout_state = visits_state m (le_refl _)

    -- each task with units was met on one of its cores, and its other cores were reached through it
    pub laid_out : (t : ℕ) → t < n → (j : ℕ) → j < m → 0 < x t j → Laid n m x (layout n m x) t
    laid_out t tn j jm h =
        layout_state.growing.laid t tn
        (layout_state.seen t tn j jm h (rw (sum_tight m (layout n m x).visited (λ k. 1) (λ k l. layout_state.visited_one k) (omega (arith, layout_state.counted, sum_const m 1)) j jm) (le_refl _)))

    pub layout_firsts : (k : ℕ) → (layout n m x).first k ≤ n
    layout_firsts = layout_state.growing.firsts
