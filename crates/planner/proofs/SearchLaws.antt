-- For reach_one, reach, find and sweep of search.rt: a core is queued, a task is found, and steps follow each other.
-- Assumes nothing.
use mathlib.Core.Path.{◌≡◌, refl, sym, ◌∙◌, ap}
use mathlib.Core.List.{List}
use Prim.Native.Nat.{ℕ, ◌+◌, ◌^◌, ◌≤◌, ◌<◌}
use native.Mathlib.Nat.{le_refl, le_trans}
use native.Mathlib.Decide.{ℕ_discrete}
use native.Mathlib.Omega.{arith}
use borrow.Author.Count.{below_none, below_more}
use lib.Bits.{bit_or}
use lib.ListN.{length, set, length-set}
use lib.Seq.{get_or-set_same, get_or-set_other}
use Rattle.rules.specs.Sum.{sum_to}
use Rattle.rules.specs.Sets.{has}
use Rattle.rules.specs.Plan.{at}
use Rattle.sums.proofs.Order.{zero_not_one, before_last}
use Rattle.sums.proofs.Sum.{sum_but_one, sum_lt, sum_const, sum_count, sum_zero}
use Rattle.sums.proofs.Sets.{has_none, has_le_one, has_or, has_lt, with_same, with_other, with_keeps, with_lt}
use Rattle.sets.specs.Joined.{joined}
use Rattle.sets.proofs.Members.{joined_in}
use Rattle.stretches.specs.Cell.{cell}
use Rattle.planner.specs.Stock.{Stock}
use Rattle.planner.specs.declared.search.Hop.{Hop}
use Rattle.planner.specs.Search.{Known, Holds, Found, Onward, Reached, Met, Swept, hop_at, core_at, task_at}

-- a member and a number that is none are two
apart : (s i j : ℕ) → has s i ≡ 1 → has s j ≡ 0 → i ≡ j → ⊥
apart s i j e f d = zero_not_one f (sym (ap (has s) d) ∙ e)

-- ---- one core more

module _ (m c j : ℕ) (l : j < m) (z : has c j ≡ 0) where
  pub count_below : sum_to m (has c) < m
  count_below = omega (arith, sum_lt m j (has c) (λ i. 1) (λ i k. has_le_one c i) l (less z), sum_const m 1)
    where
      less : {a : ℕ} → a ≡ 0 → a < 1
      less e = omega arith

  pub count_more : sum_to m (has (bit_or c (2 ^ j))) ≡ sum_to m (has c) + 1
  count_more =
      one (sum_to m (has c)) (sum_but_one m j (has (bit_or c (2 ^ j))) (has c) l (λ i k ne. with_other c j i ne)) z (with_same c j)
    where
      one : {a f g : ℕ} (b : ℕ) → a + f ≡ b + g → f ≡ 0 → g ≡ 1 → a ≡ b + 1
      one b e f g = omega arith

-- the search with core j queued for task t
abbrev pub pushed : Known → (t j : ℕ) → Known
pushed k t j =
    record { queue = set k.queue k.tail (record { core = j; task = t }); from = k.from; tail = k.tail + 1; tasks = k.tasks; cores = bit_or k.cores (2 ^ j) }

-- the search with task t found through the place p
abbrev pub met : Known → (t p : ℕ) → Known
met k t p = record { queue = k.queue; from = set k.from t p; tail = k.tail; tasks = bit_or k.tasks (2 ^ t); cores = k.cores }

module _ {m : ℕ} {masks : List ℕ} {a : Stock} {h : ℕ} {s : Known} (f : Found m masks a h s) where
  pub short : s.tail ≤ 16
  short = omega (arith, f.counted, sum_count 16 (has s.cores) (λ i l. has_le_one s.cores i))

  module _ (t j : ℕ) (in-tasks : has s.tasks t ≡ 1) (j-in : j < m) (in_mask : has (at masks t) j ≡ 1) (new : has s.cores j ≡ 0) where
    j_small : j < 16
    j_small = le_trans j-in f.cores_few

    tail_small : s.tail < 16
    tail_small = omega (arith, f.counted, count_below 16 s.cores j j_small new)

    hop_last : hop_at (pushed s t j).queue s.tail ≡ record { core = j; task = t }
    hop_last = get_or-set_same s.queue s.tail (record { core = j; task = t }) (record { core = 0; task = 0 }) (omega (arith, tail_small, f.sized.queue_long))

    hop_old : (p : ℕ) → (p ≡ s.tail → ⊥) → hop_at (pushed s t j).queue p ≡ hop_at s.queue p
    hop_old p ne = get_or-set_other s.queue s.tail p (record { core = j; task = t }) (record { core = 0; task = 0 }) ne

    -- a fact about each place: of the old ones, and of the last
    at_each : (Q : ℕ → Hop → Type 0) → ((p : ℕ) → p < s.tail → Q p (hop_at s.queue p)) → Q s.tail (record { core = j; task = t }) → (p : ℕ) → p < s.tail + 1
        → Q p (hop_at (pushed s t j).queue p)
    at_each Q old new p l =
        elim (ℕ_discrete p s.tail) [
          | yes e ↦ rw e (rw hop_last new)
          | no ne ↦ rw (hop_old p ne) (old p (before_last l ne))
        ]

    pub push : Found m masks a h (pushed s t j)
    push =
        record {
          tasks_few = f.tasks_few;
          cores_few = f.cores_few;
          sized =
              record {
                queue_long = length-set s.queue s.tail (record { core = j; task = t }) ∙ f.sized.queue_long;
                from_long = f.sized.from_long;
              };
          tasks_in = f.tasks_in;
          cores_in = with_lt m s.cores j f.cores_in j-in;
          counted = ap (λ (k : ℕ). k + 1) f.counted ∙ sym (count_more 16 s.cores j j_small new);
          under = omega (arith, f.under);
          listed = at_each (λ p q. has (bit_or s.cores (2 ^ j)) q.core ≡ 1) (λ p l. with_keeps s.cores j (core_at s p) (f.listed p l)) (with_same s.cores j);
          every = λ i e.
              elim (ℕ_discrete i j) [
                | yes d ↦ (s.tail, omega arith, ap (λ (q : Hop). q.core) hop_last ∙ sym d)
                | no ne ↦
                    let r = f.every i (sym (with_other s.cores j i ne) ∙ e) in
                    (r.0, more r.1, ap (λ (q : Hop). q.core) (hop_old r.0 (lower r.1)) ∙ r.2)
              ];
          through = at_each (λ p q. has s.tasks q.task ≡ 1) f.through in-tasks;
          allowed = at_each (λ p q. has (at masks q.task) q.core ≡ 1) f.allowed in_mask;
          earlier = at_each (λ p q. at a.left q.task ≡ 0 → at s.from q.task < p) f.earlier (λ e. omega (arith, f.asked t in-tasks e, f.under));
          asked = f.asked;
          holding = λ u e z. rw (hop_old (at s.from u) (below u e z), core_at) (f.holding u e z);
        }
      where
        more : {p k : ℕ} → p < k → p < k + 1
        more l = omega arith

        lower : {p k : ℕ} → p < k → p ≡ k → ⊥
        lower l e = omega arith

        below : (u : ℕ) → has s.tasks u ≡ 1 → at a.left u ≡ 0 → at s.from u ≡ s.tail → ⊥
        below u e z d = omega (arith, f.asked u e z, f.under)

  module _ (t p : ℕ) (t_in : t < length masks) (new : has s.tasks t ≡ 0) (through : at a.left t ≡ 0 → (p < h) × (0 < cell a.units t (core_at s p))) where
    from_new : at (set s.from t p) t ≡ p
    from_new = get_or-set_same s.from t p 0 (omega (arith, f.tasks_few, f.sized.from_long))

    from_old : (u : ℕ) → (u ≡ t → ⊥) → at (set s.from t p) u ≡ at s.from u
    from_old u ne = get_or-set_other s.from t u p 0 ne

    pub find_through : Found m masks a h (met s t p)
    find_through =
        record {
          tasks_few = f.tasks_few;
          cores_few = f.cores_few;
          sized =
              record {
                queue_long = f.sized.queue_long;
                from_long = length-set s.from t p ∙ f.sized.from_long;
              };
          tasks_in = with_lt (length masks) s.tasks t f.tasks_in t_in;
          cores_in = f.cores_in;
          counted = f.counted;
          under = f.under;
          listed = f.listed;
          every = f.every;
          through = λ r l. with_keeps s.tasks t (task_at s r) (f.through r l);
          allowed = f.allowed;
          earlier = λ r l z. rw (from_old (task_at s r) (apart s.tasks (task_at s r) t (f.through r l) new)) (f.earlier r l z);
          asked = λ u e z.
              elim (ℕ_discrete u t) [
                | yes d ↦ rw d (rw from_new (through (sym (ap (at a.left) d) ∙ z)).0)
                | no ne ↦ rw (from_old u ne) (f.asked u (sym (with_other s.tasks t u ne) ∙ e) z)
              ];
          holding = λ u e z.
              elim (ℕ_discrete u t) [
                | yes d ↦ rw d (rw from_new (through (sym (ap (at a.left) d) ∙ z)).1)
                | no ne ↦ rw (from_old u ne) (f.holding u (sym (with_other s.tasks t u ne) ∙ e) z)
              ];
        }

-- ---- the queue grows

onward_none : {k : Known} → Onward k k
onward_none = record { longer = le_refl _; kept = λ p l. refl; tasks = λ t h. h; cores = λ j h. h }

onward_then : {k₀ k₁ k₂ : Known} → Onward k₀ k₁ → Onward k₁ k₂ → Onward k₀ k₂
onward_then a b =
    record {
      longer = le_trans a.longer b.longer;
      kept = λ p l. b.kept p (le_trans l a.longer) ∙ a.kept p l;
      tasks = λ t h. b.tasks t (a.tasks t h);
      cores = λ j h. b.cores j (a.cores j h);
    }

-- ---- a task reaches the cores of its mask

module _ {m t mask : ℕ} where
  pub reached_then : {k₀ k₁ k₂ : Known} → Reached m t mask k₀ k₁ → Reached m t mask k₁ k₂ → Reached m t mask k₀ k₂
  reached_then a b =
      record {
        onward = onward_then a.onward b.onward;
        same_tasks = b.same_tasks ∙ a.same_tasks;
        found = λ masks x h d i f. b.found masks x h d (a.onward.tasks t i) (a.found masks x h d i f);
      }

  reached_one : (k : Known) (j : ℕ) → j < m → has mask j ≡ 1 → has k.cores j ≡ 0 → Reached m t mask k (pushed k t j)
  reached_one k j l i z =
      record {
        onward =
            record {
              longer = omega arith;
              kept = λ p b. get_or-set_other k.queue k.tail p (record { core = j; task = t }) (record { core = 0; task = 0 }) (λ d. omega arith);
              tasks = λ u h. h;
              cores = λ c h. with_keeps k.cores j c h;
            };
        same_tasks = refl;
        found = λ masks a h d u f. push f t j u l (ap (λ (v : ℕ). has v j) d ∙ i) z;
      }

-- as reach_one asks, where core j is not found yet
module _ (m j tail cores : ℕ) (few : m ≤ 16) (l : j < m) (e : tail ≡ sum_to 16 (has cores)) (z : 0 ≡ has cores j) where
  pub one_place : tail < 16
  one_place = omega (arith, e, count_below 16 cores j (le_trans l few) (sym z))

  pub one_counted : {c : ℕ} → c ≡ joined 16 cores j → tail + 1 ≡ sum_to 16 (has c)
  one_counted d = rw (d ∙ joined_in 16 cores j (le_trans l few)) (ap (λ (n : ℕ). n + 1) e ∙ sym (count_more 16 cores j (le_trans l few) (sym z)))

pub one_new : {m t j mask c tail tasks cores : ℕ} {queue : List Hop} {from : List ℕ} → m ≤ 16 → j < m → 0 ≡ has cores j → 1 ≡ has mask j → c ≡ joined 16 cores j
    → Reached m t mask (record { queue = queue; from = from; tail = tail; tasks = tasks; cores = cores })
    (record { queue = set queue tail (record { core = j; task = t }); from = from; tail = tail + 1; tasks = tasks; cores = c })
one_new {j = j} {tail = tail} {tasks = tasks} {cores = cores} {queue = queue} {from = from} few l z i d =
    rw (d ∙ joined_in 16 cores j (le_trans l few))
    (reached_one (record { queue = queue; from = from; tail = tail; tasks = tasks; cores = cores }) j l (sym i) (sym z))

pub one_holds : {m j d : ℕ} (mask c : ℕ) → m ≤ 16 → j < m → d ≡ joined 16 c j → has mask j ≤ has d j
one_holds {j = j} mask c few l e = rw (e ∙ joined_in 16 c j (le_trans l few)) (omega (arith, with_same c j, has_le_one mask j))

-- as reach goes from core to core

pub holds_known : {m mask cores : ℕ} → bit_or mask cores ≡ cores → Holds m mask cores
holds_known {mask = mask} {cores = cores} d =
    record { each = λ j l h. omega (arith, has_or mask cores j, ap (λ (v : ℕ). has v j) d, has_lt cores j) }

pub holds_more : {m t mask j : ℕ} {k k' : Known} → Reached m t mask k k' → Holds j mask k.cores → has mask j ≤ has k'.cores j → Holds (j + 1) mask k'.cores
holds_more {mask = mask} {j = j} {k' = k'} r h new =
    record {
      each =
          below_more (λ i. has mask i ≡ 1 → has k'.cores i ≡ 1) j (λ i l o. r.onward.cores i (h.each i l o))
          (λ o. omega (arith, has_le_one k'.cores j));
    }

-- ---- a task is found through a place of the queue

module _ {m t mask w p : ℕ} {k : Known} where
  find_one : {k' : Known} → 0 < w → has k.tasks t ≡ 0 → Reached m t mask (met k t p) k' → Holds m mask k'.cores → Met m t mask w p k k'
  find_one {k'} l z r all =
      record {
        onward =
            record {
              longer = r.onward.longer;
              kept = r.onward.kept;
              tasks = λ u h. r.onward.tasks u (with_keeps k.tasks t u h);
              cores = r.onward.cores;
            };
        gathered = λ g. r.onward.tasks t (with_same k.tasks t);
        masks_in = λ masks d i u h.
            record {
              each = λ j b o.
                  elim (ℕ_discrete u t) [
                    | yes e ↦ all.each j b (sym (ap (λ (y : ℕ). has y j) (ap (at masks) e ∙ d)) ∙ o)
                    | no ne ↦
                        r.onward.cores j ((i u (sym (with_other k.tasks t u ne) ∙ sym (ap (λ (y : ℕ). has y u) r.same_tasks) ∙ h)).each j b o)
                  ];
            };
        found = λ masks a h d b usable f. r.found masks a h d (with_same k.tasks t) (find_through f t p b z (usable l));
      }

  pub find_new : {c : ℕ} {k' : Known} → t < 64 → (w ≡ 0 → ⊥) → 0 ≡ has k.tasks t → c ≡ joined 64 k.tasks t
      → Reached m t mask (record { queue = k.queue; from = set k.from t p; tail = k.tail; tasks = c; cores = k.cores }) k' → Holds m mask k'.cores
      → Met m t mask w p k k'
  find_new l g z c r all = find_one (omega arith) (sym z) (rw (c ∙ joined_in 64 k.tasks t l) at r) all

-- ---- all tasks in turn

pub counted_nothing : 0 ≡ sum_to 16 (has 0)
counted_nothing = sym (sum_zero 16 (λ j l. has_none j))

module _ {m : ℕ} {masks : List ℕ} {Weighs : ℕ → ℕ → Type 0} {p : ℕ} where
  pub sweep_start : {k : Known} → Swept m masks Weighs p 0 k k
  sweep_start {k} =
      record {
        onward = onward_none;
        weighed = record { each = below_none (λ u. (w : ℕ) × Weighs u w × (0 < w → has k.tasks u ≡ 1)) };
        masks_in = λ i. i;
        found = λ s h u f. f;
      }

  pub sweep_more : {k₀ k₁ k₂ : Known} {t w : ℕ} → t < length masks → Weighs t w → Swept m masks Weighs p t k₀ k₁ → Met m t (at masks t) w p k₁ k₂
      → Swept m masks Weighs p (t + 1) k₀ k₂
  sweep_more {k₂ = k₂} {t = t} {w = w} l r a b =
      record {
        onward = onward_then a.onward b.onward;
        weighed =
            record {
              each =
                  below_more (λ u. (v : ℕ) × Weighs u v × (0 < v → has k₂.tasks u ≡ 1)) t
                  (λ u i. let x = a.weighed.each u i in (x.0, x.1, λ z. b.onward.tasks u (x.2 z)))
                  (w, r, b.gathered);
            };
        masks_in = λ i. b.masks_in masks refl (a.masks_in i);
        found = λ s h usable f.
            b.found masks s h refl l
            (λ z e. let x = usable t w l r z e in (x.0, rw (a.onward.kept p (le_trans x.0 f.under), core_at) x.1))
            (a.found s h usable f);
      }
