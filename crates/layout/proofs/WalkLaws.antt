-- Laws for `walking`: the code's steps are those of the walk, and what it keeps stays small.
-- Assumes nothing.
use mathlib.Core.Path.{◌≡◌, refl, sym, ◌∙◌, ap, ap₂, subst, fun_ext}
use mathlib.Core.List.{List}
use mathlib.Core.Bool.{Bool, true, false, cond}
use Prim.Native.Nat.{ℕ, zero, suc, min, ◌+◌, ◌-◌, ◌*◌, ◌^◌, ◌≤◌, ◌<◌}
use native.Mathlib.Nat.{le_antisymm, lt_of_le_of_lt, one-mul, mul-one, mul-zero}
use native.Mathlib.Numerals.{add-one}
use native.Mathlib.Decide.{ℕ_discrete, dec_lt}
use native.Mathlib.Omega.{arith}
use lib.Bits.{bit_and, and_le_l}
use lib.Count.{count_trailing_zeros, trailing_of_zero}
use lib.Dec.{eqb}
use mir.Syntax.{w16}
use borrow.Author.Tests.{ne_eqb, lt-ltb, le-ltb}
use lib.ListN.{length, get_or, set, length-set, replicate, get_or-replicate, get_or-eq_default}
use lib.Seq.{get_or-set_same, get_or-set_other}
use Rattle.std.specs.Prelude.{Option, Some, None}
use Rattle.std.specs.Int.{bit_not}
use Rattle.std.proofs.lemmas.Nat.Bits.{bit_at_not, bit_at-trailing_zeros}
use Rattle.rules.specs.Sizes.{max_frame, max_cores}
use Rattle.rules.specs.Sum.{sum_to, put, lowest}
use Rattle.rules.specs.Sets.{has}
use Rattle.rules.specs.Layout.{Walk, ahead, stretch, begun, reach_one, reach, meet_mark, meet_one, meet, visit_mark, visit, waiting, unvisited, next_core, visits, layout}
use Rattle.sums.proofs.Sum.{put_same, put_other}
use Rattle.sums.proofs.Sets.{has_with, has_none, has_le_one, has_and}
use Rattle.stretches.specs.Cell.{cell}
use Rattle.stretches.specs.Small.{Small}
use Rattle.layout.specs.Ahead.{number_of}
use Rattle.layout.specs.Walking.{root, walk_of, Kept, latest_start, Reaching, Meeting, left_of, below}
use Rattle.layout.specs.declared.walking.Walked.{Walked}
use Rattle.stretches.proofs.Visits.{next_core_below}
use Rattle.sets.specs.Joined.{joined}
use Rattle.sets.proofs.Members.{joined_in}
use Rattle.sums.proofs.Order.{zero_of}
use Rattle.sums.proofs.Lowest.{lowest_none, lowest_past, lowest_found, lowest_same}
use Rattle.stretches.proofs.Bounds.{bounded_more, bounded_meet, bounded_visits}
use Rattle.stretches.proofs.Reaching.{one_none, one_here, one_moved, meet_none, meet_old, meet_fresh}

-- yes and no as numbers
abbrev number : Bool → ℕ
number b = cond b 1 0

-- a set with one member more has what it had, and that member
joined_has : (w s k : ℕ) {v : ℕ} → k < w → v ≡ joined w s k → has v ≡ put k 1 (has s)
joined_has w s k l e = fun_ext (λ j. ap (λ (u : ℕ). has u j) (e ∙ joined_in w s k l) ∙ has_with s k j)

-- a stored entry, as the walk reads it, is the function with that value there
module _ {A : Type 0} (d : A) (h : A → ℕ) where
  get_set : (l : List A) (k : ℕ) (v : A) → k < length l → (λ (i : ℕ). h (get_or (set l k v) i d)) ≡ put k (h v) (λ i. h (get_or l i d))
  get_set l k v b = fun_ext (λ i. at i)
    where
      at : (i : ℕ) → h (get_or (set l k v) i d) ≡ put k (h v) (λ i. h (get_or l i d)) i
      at i =
          elim (ℕ_discrete i k) [
            | yes e ↦ rw (e, put_same k (h v) (λ i. h (get_or l i d))) (ap h (get_or-set_same l k v d b))
            | no ne ↦ ap h (get_or-set_other l k i v d ne) ∙ sym (put_other k (h v) (λ i. h (get_or l i d)) i ne)
          ]

module _ (n m : ℕ) (units : List ℕ) (task core at k : ℕ) (s : Walked) (r : Reaching n m units task core at s) where
  pub reached_none : (w : ℕ) → cell units task k ≡ 0 → Kept (reach_one w m (cell units) task core at k (walk_of s)) s
  reached_none w e = record { same = sym (one_none w m (cell units) task core at k (walk_of s) e); long = r.long }

  pub reached_here : (w : ℕ) → k ≡ core → Kept (reach_one w m (cell units) task core at k (walk_of s)) s
  reached_here w e = record { same = sym (one_here w m (cell units) task core at k (walk_of s) e); long = r.long }

  pub reached_new : (w v a : ℕ) → m ≤ max_cores → (cell units task k ≡ 0 → ⊥) → (k ≡ core → ⊥) → k < m → v ≡ joined 16 s.reached k → a ≡ ahead (suc core) (cell units task) k
      → Kept (reach_one w m (cell units) task core at k (walk_of s)) (record { visited = s.visited; reached = v; met = s.met; begins = set s.begins k (record { at = at + a; first = Some task }) })
  reached_new w v a few ne d l e g =
      record {
        same = (λ i. record { visited = has s.visited; reached = reached i; met = has s.met; start = starts i; first = firsts i }) ∙ sym (one_moved w m (cell units) task core at k (walk_of s) (omega arith) d);
        long = length-set s.begins k (record { at = at + a; first = Some task }) ∙ r.long;
      }
    where
      reached : has v ≡ put k 1 (has s.reached)
      reached = joined_has 16 s.reached k (omega arith) e

      starts : (λ (i : ℕ). (get_or (set s.begins k (record { at = at + a; first = Some task })) i root).at) ≡ put k (at + ahead (suc core) (cell units task) k) (λ i. (get_or s.begins i root).at)
      starts =
          get_set root (λ b. b.at) s.begins k (record { at = at + a; first = Some task }) (omega (arith, r.long)) ∙ ap (λ (u : ℕ). put k (at + u) (λ i. (get_or s.begins i root).at)) g

      firsts : (λ (i : ℕ). number_of (get_or (set s.begins k (record { at = at + a; first = Some task })) i root).first) ≡ put k (suc task) (λ i. number_of (get_or s.begins i root).first)
      firsts = get_set root (λ b. number_of b.first) s.begins k (record { at = at + a; first = Some task }) (omega (arith, r.long))

module _ (m : ℕ) (units : List ℕ) (task core at : ℕ) (w : Walk) where
  -- the task has reached its cores below k
  abbrev pub ReachedTo : ℕ → Walked → Type 0
  ReachedTo k s = (n : ℕ) → Kept (reach n m (cell units) task core at k w) s

  pub reach_more : (k : ℕ) (s t : Walked) → ReachedTo k s → ((n : ℕ) → Kept (reach_one n m (cell units) task core at k (walk_of s)) t) → ReachedTo (k + 1) t
  unfolding reach
  reach_more k s t a b n =
      record { same = rw (add-one k) ((b n).same ∙ ap (reach_one n m (cell units) task core at k) (a n).same); long = (b n).long }

  pub reach_done : (k : ℕ) (s : Walked) → k ≤ m → m ≤ k → ReachedTo k s → ReachedTo m s
  reach_done k s a b h n = subst (λ (i : ℕ). Kept (reach n m (cell units) task core at i w) s) (le_antisymm a b) (h n)

pub reach_begin : (n m : ℕ) (units : List ℕ) (task core at : ℕ) (s : Walked) → Reaching n m units task core at s → ReachedTo m units task core at (walk_of s) 0 s
unfolding reach
reach_begin n m units task core at s r w = record { same = refl; long = r.long }

pub reach_on : (n m : ℕ) (units : List ℕ) (task core at k : ℕ) (w : Walk) (s t : Walked) → Reaching n m units task core at s → ReachedTo m units task core at w k t → Reaching n m units task core at t
reach_on n m units task core at k w s t r h =
    record { task_few = r.task_few; core_few = r.core_few; row = r.row; at_few = r.at_few; long = (h 0).long }

module _ (n m : ℕ) (units : List ℕ) (core task : ℕ) (s : Walked) (g : Meeting n m units core (latest_start max_cores) s) where
  pub met_none : cell units task core ≡ 0 → Kept (meet_one n m (cell units) core task (walk_of s)) s
  met_none e = record { same = sym (meet_none n m (cell units) core task (walk_of s) e); long = g.long }

  pub met_old : (v : Bool) → cond v 1 0 ≡ has s.met task → v ≡ true → Kept (meet_one n m (cell units) core task (walk_of s)) s
  met_old v e o =
      record { same = sym (meet_old n m (cell units) core task (walk_of s) (omega (arith, e, ap number o))); long = g.long }

  pub met_new : (v : Bool) (a u : ℕ) (t : Walked) → task < n → (cell units task core ≡ 0 → ⊥) → cond v 1 0 ≡ has s.met task → v ≡ false
      → a ≡ ahead (number_of (get_or s.begins core root).first) (λ i. cell units i core) task → u ≡ joined 64 s.met task
      → ReachedTo m units task core ((get_or s.begins core root).at + a) (walk_of (record { visited = s.visited; reached = s.reached; met = u; begins = s.begins })) m t
      → Kept (meet_one n m (cell units) core task (walk_of s)) t
  unfolding stretch meet_mark
  met_new v a u t l ne e o f k r =
      record {
        same =
            (r n).same ∙ ap₂ (λ (at : ℕ) (w : Walk). reach n m (cell units) task core at m w) (ap (λ (b : ℕ). (get_or s.begins core root).at + b) f) marked
            ∙ sym (meet_fresh n m (cell units) core task (walk_of s) (omega arith) (sym e ∙ ap number o));
        long = (r n).long;
      }
    where
      met : has u ≡ put task 1 (has s.met)
      met = joined_has 64 s.met task (omega (arith, g.small.tasks)) k

      marked : walk_of (record { visited = s.visited; reached = s.reached; met = u; begins = s.begins }) ≡ meet_mark n m (cell units) task (walk_of s)
      marked = λ i. record { visited = has s.visited; reached = has s.reached; met = met i; start = λ j. (get_or s.begins j root).at; first = λ j. number_of (get_or s.begins j root).first }

  pub ahead_asks : task < n → (core < m) × (task < n) × (number_of (get_or s.begins core root).first ≤ n) × (sum_to n (λ i. cell units i core) ≤ max_frame)
  ahead_asks l = (g.core_few, l, g.bounded.firsts core, g.small.cols core g.core_few)

  pub reach_asks : (a u : ℕ) → task < n → a ≤ max_frame
      → Reaching n m units task core ((get_or s.begins core root).at + a) (record { visited = s.visited; reached = s.reached; met = u; begins = s.begins })
  reach_asks a u l h =
      record {
        task_few = l;
        core_few = g.core_few;
        row = g.small.rows task l;
        at_few = omega (arith, g.bounded.starts core);
        long = g.long;
      }

module _ (n m : ℕ) (units : List ℕ) (core : ℕ) where
  -- a mark moves no start
  pub marked_meets : {b v r : ℕ} {s : Walked} → Meeting n m units core b s → Meeting n m units core b (record { visited = v; reached = r; met = s.met; begins = s.begins })
  marked_meets g =
      record {
        small = g.small;
        core_few = g.core_few;
        bounded = record { starts = g.bounded.starts; firsts = g.bounded.firsts };
        long = g.long;
      }

  pub meet_begin : (b : ℕ) (s : Walked) → Meeting n m units core b s → Kept (meet n m (cell units) core 0 (walk_of s)) s
  unfolding meet
  meet_begin b s g = record { same = refl; long = g.long }

  pub meet_more : (w : Walk) (k : ℕ) (s t : Walked) → Kept (meet n m (cell units) core k w) s → Kept (meet_one n m (cell units) core k (walk_of s)) t → Kept (meet n m (cell units) core (k + 1) w) t
  unfolding meet
  meet_more w k s t a b =
      record { same = rw (add-one k) (b.same ∙ ap (meet_one n m (cell units) core k) a.same); long = b.long }

  pub meet_done : (w : Walk) (k : ℕ) (s : Walked) → k ≤ n → n ≤ k → Kept (meet n m (cell units) core k w) s → Kept (meet n m (cell units) core n w) s
  meet_done w k s a b h = subst (λ (i : ℕ). Kept (meet n m (cell units) core i w) s) (le_antisymm a b) h

  pub meet_asks : (k : ℕ) (s t : Walked) → Meeting n m units core (latest_start (max_cores - 1)) s → k < n → Kept (meet n m (cell units) core k (walk_of s)) t
      → Meeting n m units core (latest_start max_cores) t
  meet_asks k s t g l h =
      record {
        small = g.small;
        core_few = g.core_few;
        bounded = rw h.same (bounded_more (omega (arith, g.small.tasks)) (bounded_meet n m (cell units) g.small core k (latest_start (max_cores - 1)) (walk_of s) (omega arith) g.core_few g.bounded));
        long = h.long;
      }

  pub visit_done : (b v r : ℕ) (s t : Walked) → Meeting n m units core b s → v ≡ joined 16 s.visited core → r ≡ joined 16 s.reached core
      → Kept (meet n m (cell units) core n (walk_of (record { visited = v; reached = r; met = s.met; begins = s.begins }))) t → Kept (visit n m (cell units) core (walk_of s)) t
  unfolding visit visit_mark
  visit_done b v r s t g e d k =
      record { same = k.same ∙ ap (meet n m (cell units) core n) marked; long = k.long }
    where
      low : core < 16
      low = omega (arith, g.core_few, g.small.cores)

      marked : walk_of (record { visited = v; reached = r; met = s.met; begins = s.begins }) ≡ visit_mark n m (cell units) core (walk_of s)
      marked = λ i. record { visited = joined_has 16 s.visited core low e i; reached = joined_has 16 s.reached core low d i; met = has s.met; start = λ j. (get_or s.begins j root).at; first = λ j. number_of (get_or s.begins j root).first }

pub below_in : (m j : ℕ) → j < m → Some j ≡ below m j
below_in m j l = rw (lt-ltb j m l)

pub below_out : (m j : ℕ) → m ≤ j → None ≡ below m j
below_out m j l = rw (le-ltb j m l)

-- a set's lowest bit is the place of its lowest member; without a member it is the width
zeros_before : (s i : ℕ) → s < 2 ^ 16 → i < count_trailing_zeros 16 s → has s i ≡ 0
unfolding has
zeros_before s i w l =
    elim (dec_lt 0 s) [
      | yes some ↦ (bit_at-trailing_zeros w16 s some w).2 i l
      | no none ↦ rw (zero_of none) (has_none i)
    ]

zeros_here : (s : ℕ) → s < 2 ^ 16 → count_trailing_zeros 16 s < 16 → has s (count_trailing_zeros 16 s) ≡ 1
unfolding has
zeros_here s w l =
    elim (dec_lt 0 s) [
      | yes some ↦ (bit_at-trailing_zeros w16 s some w).1
      | no none ↦ absurd (omega (arith, l, ap (count_trailing_zeros 16) (zero_of none), trailing_of_zero 16))
    ]

-- the cores of `wanted` that were not visited, as one number
abbrev pub left_bits : ℕ → ℕ → ℕ
left_bits wanted visited = bit_and wanted (bit_not w16 visited)

has_not : (s i : ℕ) → s < 2 ^ 16 → i < 16 → has (bit_not w16 s) i ≡ 1 - has s i
unfolding has
has_not s i w l = bit_at_not w16 s i w l

-- of two bits, the first without the second
first_alone : (a b : ℕ) → a ≤ 1 → b ≤ 1 → min a (1 - b) ≡ a * cond (eqb b 0) 1 0
first_alone a zero l k = omega (arith, mul-one a)
first_alone a (suc b) l k = rw (ne_eqb (suc b) 0 (omega arith), mul-zero a) (omega arith)

left_has : (wanted visited j : ℕ) → visited < 2 ^ 16 → j < 16 → has (left_bits wanted visited) j ≡ left_of wanted visited j
left_has wanted visited j seen l =
    has_and wanted (bit_not w16 visited) j ∙ ap (min (has wanted j)) (has_not visited j seen l)
    ∙ first_alone (has wanted j) (has visited j) (has_le_one wanted j) (has_le_one visited j)

module _ (wanted visited : ℕ) (wide : wanted < 2 ^ 16) (seen : visited < 2 ^ 16) where
  left_wide : left_bits wanted visited < 2 ^ 16
  left_wide = lt_of_le_of_lt (and_le_l wanted (bit_not w16 visited)) wide

  left_before : (j : ℕ) → j < 16 → j < count_trailing_zeros 16 (left_bits wanted visited) → left_of wanted visited j ≡ 0
  left_before j l b = sym (left_has wanted visited j seen l) ∙ zeros_before _ j left_wide b

  pub left_low : (m r : ℕ) → m ≤ 16 → r ≡ count_trailing_zeros 16 (left_bits wanted visited) → r < m → Some r ≡ below m (lowest m (left_of wanted visited))
  left_low m r few e l = below_in m r l ∙ ap (below m) (lowest_found (left_of wanted visited) m r l (lowest_past (left_of wanted visited) r (λ k h. left_before k (omega arith) (omega arith))) (omega (arith, here)))
    where
      here : left_of wanted visited r ≡ 1
      here = sym (left_has wanted visited r seen (omega arith)) ∙ rw e (zeros_here _ left_wide (omega arith))

  pub left_none : (m r : ℕ) → m ≤ 16 → r ≡ count_trailing_zeros 16 (left_bits wanted visited) → m ≤ r → None ≡ below m (lowest m (left_of wanted visited))
  left_none m r few e g =
      below_out m (lowest m (left_of wanted visited)) (omega (arith, lowest_past (left_of wanted visited) m (λ k h. left_before k (omega arith) (omega arith))))

all_sixteen : lowest 16 (λ j. 1 - has 65535 j) ≡ 16
unfolding lowest has
all_sixteen = refl

has_all : (j : ℕ) → j < 16 → has 65535 j ≡ 1
has_all j l = omega (arith, lowest_none 16 (λ j. 1 - has 65535 j) (omega (arith, all_sixteen)) j l, has_le_one 65535 j)

module _ (n m : ℕ) (x : ℕ → ℕ → ℕ) (s : Walked) where
  -- the lowest that waits, or else the lowest that is left
  pub next_waiting : lowest m (left_of s.reached s.visited) < m → Some (lowest m (left_of s.reached s.visited)) ≡ below m (next_core n m x (walk_of s))
  unfolding next_core waiting
  next_waiting l = below_in m _ l ∙ ap (below m) (sym (rw (lt-ltb (lowest m (left_of s.reached s.visited)) m l, next_core)))

  pub next_left : {r : Option ℕ} → m ≤ lowest m (left_of s.reached s.visited) → m ≤ 16 → r ≡ below m (lowest m (left_of 65535 s.visited)) → r ≡ below m (next_core n m x (walk_of s))
  unfolding next_core waiting unvisited
  next_left l few e =
      e
      ∙ ap (below m)
      (lowest_same m (left_of 65535 s.visited) (unvisited n m x (walk_of s)) (λ i k. all i (omega arith))
      ∙ sym (rw (le-ltb (lowest m (left_of s.reached s.visited)) m l, next_core)))
    where
      all : (i : ℕ) → i < 16 → left_of 65535 s.visited i ≡ cond (eqb (has s.visited i) 0) 1 0
      all i l = rw (has_all i l) (one-mul (cond (eqb (has s.visited i) 0) 1 0))

module _ (n m : ℕ) (units : List ℕ) where
  pub walk_begin : Kept (visits n m (cell units) 0) (record { visited = 0; reached = 0; met = 0; begins = replicate 16 root })
  unfolding visits begun
  walk_begin =
      record {
        same = λ i. record { visited = λ j. has_none j i; reached = λ j. has_none j i; met = λ j. has_none j i; start = λ j. (none root j i).at; first = λ j. number_of (none root j i).first };
        long = refl;
      }
    where
      none : {A : Type 0} (d : A) (j : ℕ) → get_or (replicate 16 d) j d ≡ d
      none d j =
          elim (dec_lt j 16) [
            | yes h ↦ get_or-replicate 16 j d d h
            | no g ↦ get_or-eq_default (replicate 16 d) d {n = j} (omega arith)
          ]

  pub walk_more : (c j : ℕ) (s t : Walked) → Kept (visits n m (cell units) c) s → j ≡ next_core n m (cell units) (walk_of s) → Kept (visit n m (cell units) j (walk_of s)) t
      → Kept (visits n m (cell units) (c + 1)) t
  unfolding visits
  walk_more c j s t k e b =
      record {
        same = rw (add-one c) (b.same ∙ ap (λ (i : ℕ). visit n m (cell units) i (walk_of s)) e ∙ ap (λ (w : Walk). visit n m (cell units) (next_core n m (cell units) w) w) k.same);
        long = b.long;
      }

  -- a core is left as long as fewer were visited than there are
  next_in : (c : ℕ) (s : Walked) → c < m → Kept (visits n m (cell units) c) s → next_core n m (cell units) (walk_of s) < m
  next_in c s l k = rw (ap (next_core n m (cell units)) k.same) (next_core_below n m (cell units) c l)

  pub next_is : (c j : ℕ) (s : Walked) → c < m → Kept (visits n m (cell units) c) s → Some j ≡ below m (next_core n m (cell units) (walk_of s)) → j ≡ next_core n m (cell units) (walk_of s)
  next_is c j s l k e = let d = e ∙ sym (below_in m _ (next_in c s l k)) in cc

  pub next_some : (c : ℕ) (s : Walked) → c < m → Kept (visits n m (cell units) c) s → None ≡ below m (next_core n m (cell units) (walk_of s)) → ⊥
  next_some c s l k e = let d = e ∙ sym (below_in m _ (next_in c s l k)) in cc

  pub walk_done : (c : ℕ) (s : Walked) → c ≤ m → m ≤ c → Kept (visits n m (cell units) c) s → Kept (layout n m (cell units)) s
  unfolding layout
  walk_done c s a b h = subst (λ (i : ℕ). Kept (visits n m (cell units) i) s) (le_antisymm a b) h

  pub walk_asks : (c j : ℕ) (s : Walked) → Small n m (cell units) → c < m → Kept (visits n m (cell units) c) s → j ≡ next_core n m (cell units) (walk_of s)
      → Meeting n m units j (latest_start (max_cores - 1)) s
  walk_asks c j s small l k e =
      record {
        small = small;
        core_few = rw e (next_in c s l k);
        bounded = rw k.same (bounded_more (omega (arith, small.cores)) (bounded_visits n m (cell units) small c (omega arith)));
        long = k.long;
      }
