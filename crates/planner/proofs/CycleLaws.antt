-- For find_cycle of cycle.rt: a way whose vertices stand in two lists of eighteen places.
-- Assumes nothing.
use mathlib.Core.Path.{◌≡◌, sym, ◌∙◌, ap}
use mathlib.Core.List.{List}
use Prim.Native.Nat.{ℕ, suc, ◌+◌, ◌≤◌, ◌<◌}
use native.Mathlib.Omega.{arith}
use lib.ListN.{length, set, take}
use lib.Seq.{get_or-set_same, get_or-set_other, get_or-take, length-take-le}
use Rattle.rules.specs.Plan.{at}
use Rattle.forest.specs.Stripping.{links}
use Rattle.forest.specs.Ring.{Ring}
use Rattle.forest.specs.Path.{Way, Other, Place}
use Rattle.planner.specs.Seeking.{PlaceIn, Came, SeekReady}
use Rattle.planner.specs.Sides.{OtherThan}
use Rattle.planner.specs.declared.peel.Gone.{Gone}
use Rattle.planner.proofs.WayLaws.{other_named}
use Rattle.std.specs.Prelude.{Option, Some, None}
use Rattle.std.specs.Option.{unwrap_or}
use Rattle.forest.proofs.Ways.{way_short, ring_by_core, ring_by_task, way_more}

pub store_same : (l : List ℕ) (k v : ℕ) → length l ≡ 18 → k < 18 → at (set l k v) k ≡ v
store_same l k v long small = get_or-set_same l k v 0 (omega arith)

pub store_below : (l : List ℕ) (k v i : ℕ) → i < k → at (set l k v) i ≡ at l i
store_below l k v i below = get_or-set_other l k i v 0 (λ e. past below e)
  where
    past : i < k → i ≡ k → ⊥
    past p q = omega arith

-- a place in the part of a list that is searched
pub place_taken : (l : List ℕ) (k v r : ℕ) → k ≤ length l → Place (at (take k l)) (length (take k l)) v r → Place (at l) k v r
place_taken l k v r long p =
    record {
      within = omega (arith, p.within, whole);
      before = λ i b e. p.before i b (same i (omega (arith, p.within, whole)) ∙ e);
      found = λ b. sym (same r b) ∙ p.found (omega (arith, whole));
    }
  where
    whole : length (take k l) ≡ k
    whole = length-take-le k l long

    same : (i : ℕ) → i < k → at (take k l) i ≡ at l i
    same i b = get_or-take k l i 0 b

module _ (n m : ℕ) (x : ℕ → ℕ → ℕ) (gone : Gone) where
  module _ (start : ℕ) (r : SeekReady n m x gone start) where
    pub seek_task_links : (o : Option ℕ) (f : ℕ → ℕ) (c : ℕ) → OtherThan o m gone.cores f c → 2 ≤ links n gone.tasks (λ k i. x i k) c
    seek_task_links o f c s = r.fast.cores_fast c s.below s.still

  module _ (tasks cores : List ℕ) (k c : ℕ) (from : Option ℕ) (w : Way n m x gone.tasks gone.cores (at tasks) (at cores) k)
      (o : OtherThan from m gone.cores (x (at tasks k)) c) (came : Came (at cores) k from) (long : length cores ≡ 18) (short : k ≤ 16) where
    other : Other m gone.cores (x (at tasks k)) (unwrap_or from m) c
    other = other_named from m gone.cores (x (at tasks k)) c o

    came_named : (i : ℕ) → suc i ≡ k → unwrap_or from m ≡ at cores i
    came_named i f = ap (λ (r : Option ℕ). unwrap_or r m) (came i f)

    stored : at (set cores k c) k ≡ c
    stored = store_same cores k c long (omega arith)

    -- the next task is come to through c
    pub came_next : Came (at (set cores k c)) (k + 1) (Some c)
    came_next i f = ap (λ (v : ℕ). Some v) (sym (ap (at (set cores k c)) (same f) ∙ stored))
      where
        same : suc i ≡ k + 1 → i ≡ k
        same f = omega arith

    pub cycle_core : (a : ℕ) → PlaceIn (at (take k cores)) (length (take k cores)) c (Some a) → Ring n m x (at tasks) (at (set cores k c)) (a + 1) (k + 1)
    cycle_core a (l, p) =
        ring_by_core n m x gone.tasks gone.cores (at tasks) (at cores) (at (set cores k c)) k c (unwrap_or from m) w other came_named (store_below cores k c) stored
        a (place_taken cores k c a (omega arith) p) (omega (arith, length-take-le k cores (omega arith)))

    module _ (none : PlaceIn (at (take k cores)) (length (take k cores)) c None) (u : ℕ) (q : OtherThan (Some (at tasks k)) n gone.tasks (λ i. x i c) u)
        (longer : length tasks ≡ 18) where
      whole : length (take k cores) ≡ k
      whole = length-take-le k cores (omega arith)

      new_core : Place (at cores) k c (length (take k cores))
      new_core = place_taken cores k c _ (omega arith) none

      pub cycle_task : (b : ℕ) → PlaceIn (at (take (k + 1) tasks)) (length (take (k + 1) tasks)) u (Some b) → Ring n m x (at tasks) (at (set cores k c)) b (k + 1)
      cycle_task b (l, s) =
          ring_by_task n m x gone.tasks gone.cores (at tasks) (at cores) (at (set cores k c)) k c (unwrap_or from m) w other came_named (store_below cores k c) stored
          u (length (take k cores)) b new_core (omega (arith, whole)) (other_named (Some (at tasks k)) n gone.tasks (λ i. x i c) u q)
          (place_taken tasks (k + 1) u b (omega arith) s) (omega (arith, length-take-le (k + 1) tasks (omega arith)))

      pub cycle_more : PlaceIn (at (take (k + 1) tasks)) (length (take (k + 1) tasks)) u None
          → Way n m x gone.tasks gone.cores (at (set tasks (k + 1) u)) (at (set cores k c)) (k + 1)
      cycle_more s =
          way_more n m x gone.tasks gone.cores (at tasks) (at cores) (at (set cores k c)) k c (unwrap_or from m) w other came_named (store_below cores k c) stored
          (at (set tasks (k + 1) u)) u (length (take k cores)) (length (take (k + 1) tasks)) new_core (omega (arith, whole))
          (other_named (Some (at tasks k)) n gone.tasks (λ i. x i c) u q) (place_taken tasks (k + 1) u _ (omega arith) s)
          (omega (arith, length-take-le (k + 1) tasks (omega arith))) (store_below tasks (k + 1) u) (store_same tasks (k + 1) u longer (omega arith))

pub seek_short : (n m : ℕ) (x : ℕ → ℕ → ℕ) (g h : ℕ) (task core : ℕ → ℕ) (k : ℕ) → m ≤ 16 → Way n m x g h task core k → k ≤ 16
seek_short n m x g h task core k l w = omega (arith, way_short n m x g h task core k w)
