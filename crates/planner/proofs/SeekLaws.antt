-- For seek of search.rt, core after core: what is kept, the way back where a core has room, and the verdict where none has.
-- Assumes nothing.
use mathlib.Core.Path.{◌≡◌, sym, ◌∙◌, subst}
use mathlib.Core.List.{List}
use Prim.Native.Nat.{ℕ, zero, suc, ◌+◌, ◌≤◌, ◌<◌}
use native.Mathlib.Nat.{le_refl, not-suc-le-zero}
use native.Mathlib.Decide.{ℕ_discrete, dec_lt}
use native.Mathlib.Omega.{arith}
use lib.Arith.{le-zero}
use lib.ListN.{length}
use lib.Pow.{pow_pos}
use Rattle.rules.specs.Sets.{has}
use Rattle.rules.specs.Plan.{at}
use Rattle.sums.proofs.Order.{zero_not_one, zero_not_positive, zero_of, before_last}
use Rattle.sums.proofs.Sets.{has_none, has_below}
use Rattle.stretches.specs.Cell.{cell}
use Rattle.overload.specs.Stuck.{Closed, Stuck}
use Rattle.planner.specs.Stock.{Stock}
use Rattle.planner.specs.Search.{Known, Found, Gathered, Weighed, Swept, Sized, Sought, WayBack, emptied, core_at, task_at}
use Rattle.planner.proofs.SearchLaws.{short, counted_nothing}

never : {A : Type 0} {k : ℕ} → k < 0 → A
never l = absurd (not-suc-le-zero l)

none_in : {A : Type 0} (i : ℕ) → has 0 i ≡ 1 → A
none_in i e = absurd (zero_not_one (has_none i) e)

module _ {m : ℕ} {masks : List ℕ} {a : Stock} {k : Known} where
  found_nothing : m ≤ 16 → length masks ≤ 64 → Sized k → Found m masks a 0 (emptied k)
  found_nothing h t z =
      record {
        tasks_few = t;
        cores_few = h;
        sized = record { queue_long = z.queue_long; from_long = z.from_long };
        tasks_in = pow_pos (length masks);
        cores_in = pow_pos m;
        counted = counted_nothing;
        under = le_refl _;
        listed = λ p l. never l;
        every = λ j e. none_in j e;
        through = λ p l. never l;
        allowed = λ p l. never l;
        earlier = λ p l. never l;
        asked = λ t e. none_in t e;
        holding = λ t e. none_in t e;
      }

  -- one core more has been asked
  found_later : {h : ℕ} → Found m masks a h k → h < k.tail → Found m masks a (h + 1) k
  found_later {h} f l =
      record {
        tasks_few = f.tasks_few;
        cores_few = f.cores_few;
        sized = f.sized;
        tasks_in = f.tasks_in;
        cores_in = f.cores_in;
        counted = f.counted;
        under = omega arith;
        listed = f.listed;
        every = f.every;
        through = f.through;
        allowed = f.allowed;
        earlier = f.earlier;
        asked = λ t e z. later (f.asked t e z);
        holding = f.holding;
      }
    where
      later : {p : ℕ} → p < h → p < h + 1
      later l = omega arith

-- the weights are those of the list of them
gathered : {n tasks : ℕ} {Weighs : ℕ → ℕ → Type 0} {weight : ℕ → ℕ} → ((t w : ℕ) → t < n → Weighs t w → w ≡ weight t) → Weighed n Weighs tasks
    → Gathered n weight tasks
gathered sure g =
    record {
      each = λ t l z. let r = g.each t l in r.2 (subst (λ (w : ℕ). 0 < w) (sym (sure t r.0 l r.1)) z);
    }

module _ {m : ℕ} {masks : List ℕ} {a : Stock} where
  pub sought_start : {Weighs : ℕ → ℕ → Type 0} {k k' : Known} → m ≤ 16 → length masks ≤ 64 → Sized k → Swept m masks Weighs 0 (length masks) (emptied k) k'
      → ((t w : ℕ) → t < length masks → Weighs t w → w ≡ at a.left t) → Sought m masks a 0 k'
  sought_start h l z w sure =
      record {
        found = w.found a 0 (λ t v i r p e. absurd (zero_not_positive (sure t v i r ∙ e) p)) (found_nothing h l z);
        starts = gathered sure w.weighed;
        masks_in = w.masks_in (λ t e. none_in t e);
        full = λ p l. never l;
        held = λ p l. never l;
      }

  module _ {h : ℕ} {s : Known} (f : Sought m masks a h s) where
    listed_in : (p : ℕ) → p < s.tail → core_at s p < m
    listed_in p l = has_below m f.found.cores_in (f.found.listed p l)

    pub place_small : h < s.tail → (h < 16) × (core_at s h < 16)
    place_small l = (omega (arith, short f.found), omega (arith, listed_in h l, f.found.cores_few))

    pub sought_more : {Weighs : ℕ → ℕ → Type 0} {k : Known} → h < s.tail → at a.room (core_at s h) ≤ 0 → Swept m masks Weighs h (length masks) s k
        → ((t w : ℕ) → t < length masks → Weighs t w → w ≡ cell a.units t (core_at s h)) → Sought m masks a (h + 1) k
    sought_more {k = k} l z w sure =
        record {
          found = w.found a (h + 1) (λ t v i r u e. (omega arith, rw (sure t v i r) at u)) (found_later f.found l);
          starts = record { each = λ t b u. w.onward.tasks t (f.starts.each t b u) };
          masks_in = w.masks_in f.masks_in;
          full = λ p b.
              rw (w.onward.kept p (in_queue p b), core_at)
              (elim (ℕ_discrete p h) [ yes e ↦ rw e (le-zero z) | no ne ↦ f.full p (before_last b ne) ]);
          held = λ p b.
              record {
                each = λ t i u.
                    elim (ℕ_discrete p h) [
                      | yes e ↦ (gathered sure w.weighed).each t i (units_at t p h e (rw (w.onward.kept p (in_queue p b), core_at) at u))
                      | no ne ↦ w.onward.tasks t ((f.held p (before_last b ne)).each t i (rw (w.onward.kept p (in_queue p b), core_at) at u))
                    ];
              };
        }
      where
        in_queue : (p : ℕ) → p < h + 1 → p < s.tail
        in_queue p k = omega arith

        units_at : (t p r : ℕ) → p ≡ r → 0 < cell a.units t (core_at s p) → 0 < cell a.units t (core_at s r)
        units_at t p r e u = rw e at u

    pub sought_room : h < s.tail → 0 < at a.room (core_at s h) → WayBack m masks a s h
    sought_room l u =
        record {
          place = (place_small l).0;
          core = λ r k. listed_in r (in_queue r k);
          task = λ r k. has_below (length masks) f.found.tasks_in (f.found.through r (in_queue r k));
          allowed = λ r k. f.found.allowed r (in_queue r k);
          earlier = λ r k z. f.found.earlier r (in_queue r k) z;
          holding = λ r k z. f.found.holding (task_at s r) (f.found.through r (in_queue r k)) z;
          room_there = u;
        }
      where
        in_queue : (r : ℕ) → r ≤ h → r < s.tail
        in_queue r k = omega arith

    module _ (end : s.tail ≤ h) where
      all_asked : (p : ℕ) → p < s.tail → p < h
      all_asked p l = omega arith

      -- everything closed holds the cores of the queue and the tasks found
      module _ (g c : ℕ) (k : Closed (length masks) m (at masks) (cell a.units) (at a.left) g c) where
        task_held : (t : ℕ) → has s.tasks t ≡ 1 → (at a.left t ≡ 0 → has c (core_at s (at s.from t)) ≡ 1) → has g t ≡ 1
        task_held t e through =
            elim (dec_lt 0 (at a.left t)) [
              | yes u ↦ k.starts t t_in u
              | no z ↦
                  k.units (core_at s (at s.from t)) (listed_in (at s.from t) (omega (arith, f.found.asked t e (zero_of z), f.found.under))) (through (zero_of z)) t t_in
                  (f.found.holding t e (zero_of z))
            ]
          where
            t_in : t < length masks
            t_in = has_below (length masks) f.found.tasks_in e

        cores_held : (b p : ℕ) → p < b → p < s.tail → has c (core_at s p) ≡ 1
        cores_held zero p l i = never l
        cores_held (suc b) p l i =
            k.masks (task_at s p) (has_below (length masks) f.found.tasks_in (f.found.through p i))
            (task_held (task_at s p) (f.found.through p i)
            (λ z. cores_held b (at s.from (task_at s p)) (lower z) (omega (arith, f.found.earlier p i z))))
            (core_at s p) (listed_in p i) (f.found.allowed p i)
          where
            lower : at a.left (task_at s p) ≡ 0 → at s.from (task_at s p) < b
            lower z = omega (arith, f.found.earlier p i z)

        tasks_held : (t : ℕ) → has s.tasks t ≡ 1 → has g t ≡ 1
        tasks_held t e =
            task_held t e
            (λ z. cores_held (suc (at s.from t)) (at s.from t) (le_refl _) (omega (arith, f.found.asked t e z, f.found.under)))

      pub sought_end : Stuck (length masks) m (at masks) (cell a.units) (at a.left) (at a.room) s.tasks s.cores
      sought_end =
          record {
            tasks = f.found.tasks_in;
            cores = f.found.cores_in;
            closed =
                record {
                  starts = f.starts.each;
                  masks = λ t l e j k i. (f.masks_in t e).each j k i;
                  units = λ j k e t l u.
                      let r = f.found.every j e in
                      (f.held r.0 (all_asked r.0 r.1)).each t l (rw r.2 u);
                };
            full = λ j k e. let r = f.found.every j e in rw r.2 at (f.full r.0 (all_asked r.0 r.1));
            reached = λ j k e.
                let r = f.found.every j e in
                (task_at s r.0, has_below (length masks) f.found.tasks_in (f.found.through r.0 r.1), f.found.through r.0 r.1, rw r.2 at (f.found.allowed r.0 r.1));
            touched = λ t l e z.
                (core_at s (at s.from t), listed_in (at s.from t) (omega (arith, f.found.asked t e z, f.found.under)), f.found.holding t e z);
            least = λ g c k t l e. tasks_held g c k t e;
          }
