-- Which mask fault it is, worked out by hand: each part at its edge, and each part broken alone.
-- Assumes nothing.
use mathlib.Core.Path.{◌≡◌, refl, sym, ◌∙◌, ap}
use mathlib.Core.Bool.{true, false, true≢false}
use mathlib.Core.List.{[], ◌∷◌}
use Prim.Native.Nat.{ℕ, zero, suc, ◌%◌, ◌^◌, ◌≤◌, ◌<◌}
use native.Mathlib.Nat.{div-eq_of_lt, lt_of_lt_of_le}
use native.Mathlib.Omega.{arith}
use lib.Dec.{lit<, lit≤}
use lib.Pow.{pow_mono}
use Rattle.rules.specs.Sets.{has}
use Rattle.rules.specs.Tests.{bad_frame, bad_cores, bad_tasks}
use Rattle.rules.specs.MaskFaults.{Sized, Misses, EmptyAt, MissingAt, GoodMasks, after_masks}
use Rattle.rules.specs.Plan.{at}

sized_value : Sized 9 2 (1 ∷ []) (0 ∷ [])
unfolding bad_frame bad_cores bad_tasks
sized_value = record { frame = refl; cores = refl; tasks = refl }

no_frame : Sized 0 2 (1 ∷ []) (0 ∷ []) → ⊥
unfolding bad_frame
no_frame z = true≢false z.frame

no_core : Sized 9 0 (1 ∷ []) (0 ∷ []) → ⊥
unfolding bad_cores
no_core z = true≢false z.cores

unlike : Sized 9 2 (1 ∷ []) (0 ∷ 0 ∷ []) → ⊥
unfolding bad_tasks
unlike z = true≢false z.tasks

-- a rack of two cores, a mask {0,3,4}: 3 is missing; 0 is there; 2 is not named. A mask {2}: 2 is missing
misses_edges : Misses 2 0b11001 3 × Misses 2 0b100 2
unfolding has
misses_edges = (record { above = lit≤ tt; named = refl }, record { above = lit≤ tt; named = refl })

there : Misses 2 0b11001 0 → ⊥
there x = let l : 2 ≤ 0 = x.above in omega arith

zero_one : ◌≡◌ {A = ℕ} 0 1 → ⊥
zero_one e = omega arith

unnamed : Misses 2 0b11001 2 → ⊥
unfolding has
unnamed x = zero_one x.named

-- tasks 1 and 2 of three have an empty mask: 1 is named
empty_value : EmptyAt (0b11 ∷ 0 ∷ 0 ∷ []) 1
empty_value = record { task = lit< tt; empty = refl; lowest = lowest }
  where
    lowest : (k : ℕ) → k < 1 → at (0b11 ∷ 0 ∷ 0 ∷ []) k ≡ 0 → ⊥
    lowest zero l e = let z : ◌≡◌ {A = ℕ} 3 0 = e in omega arith
    lowest (suc k) l e = absurd (far l)
      where
        far : suc (suc k) ≤ 1 → ⊥
        far l = omega arith

not_empty : EmptyAt (0b11 ∷ 0 ∷ 0 ∷ []) 0 → ⊥
not_empty x = let z : ◌≡◌ {A = ℕ} 3 0 = x.empty in omega arith

later_empty : EmptyAt (0b11 ∷ 0 ∷ 0 ∷ []) 2 → ⊥
later_empty x = x.lowest 1 (lit< tt) refl

no_such_task : EmptyAt (0b11 ∷ []) 1 → ⊥
no_such_task x = let l : 1 < 1 = x.task in omega arith

-- a mask below 2^m misses nothing
clean : (m mask d : ℕ) → mask < 2 ^ m → Misses m mask d → ⊥
unfolding has
clean m mask d l x = zero_one (sym (ap (λ (q : ℕ). q % 2) (div-eq_of_lt (lt_of_lt_of_le l (pow_mono x.above)))) ∙ x.named)

-- a rack of two cores: task 1 misses 3 and 4, task 2 misses 2; task 1 is named, with 3
missing_value : MissingAt 2 (0b11 ∷ 0b11001 ∷ 0b100 ∷ []) 1 3
unfolding has
missing_value = record { none_empty = none_empty; task = lit< tt; core = misses_edges.0; lowest_core = lowest_core; lowest_task = lowest_task }
  where
    none_empty : (k : ℕ) → k < 3 → at (0b11 ∷ 0b11001 ∷ 0b100 ∷ []) k ≡ 0 → ⊥
    none_empty zero l e = let z : ◌≡◌ {A = ℕ} 3 0 = e in omega arith
    none_empty (suc zero) l e = let z : ◌≡◌ {A = ℕ} 25 0 = e in omega arith
    none_empty (suc (suc zero)) l e = let z : ◌≡◌ {A = ℕ} 4 0 = e in omega arith
    none_empty (suc (suc (suc k))) l e = absurd (far l)
      where
        far : suc (suc (suc (suc k))) ≤ 3 → ⊥
        far l = omega arith

    lowest_core : (d : ℕ) → d < 3 → Misses 2 0b11001 d → ⊥
    lowest_core zero l x = there x
    lowest_core (suc zero) l x = let h : 2 ≤ 1 = x.above in omega arith
    lowest_core (suc (suc zero)) l x = unnamed x
    lowest_core (suc (suc (suc d))) l x = absurd (far l)
      where
        far : suc (suc (suc (suc d))) ≤ 3 → ⊥
        far l = omega arith

    lowest_task : (k : ℕ) → k < 1 → (d : ℕ) → Misses 2 (at (0b11 ∷ 0b11001 ∷ 0b100 ∷ []) k) d → ⊥
    lowest_task zero l d x = clean 2 0b11 d (lit< tt) x
    lowest_task (suc k) l d x = absurd (far l)
      where
        far : suc (suc k) ≤ 1 → ⊥
        far l = omega arith

-- an empty mask beside it, its own core, its second missing core, a lower task that misses one
empty_beside : MissingAt 2 (0b100 ∷ 0 ∷ []) 0 2 → ⊥
empty_beside x = x.none_empty 1 (lit< tt) refl

core_there : MissingAt 2 (0b101 ∷ []) 0 0 → ⊥
core_there x = let l : 2 ≤ 0 = x.core.above in omega arith

second_core : MissingAt 2 (0b1100 ∷ []) 0 3 → ⊥
unfolding has
second_core x = x.lowest_core 2 (lit< tt) (record { above = lit≤ tt; named = refl })

lower_task : MissingAt 2 (0b100 ∷ 0b1000 ∷ []) 1 3 → ⊥
lower_task x = x.lowest_task 0 (lit< tt) 2 misses_edges.1

-- what lies beyond the tasks does not count
good_value : GoodMasks 2 (0b01 ∷ 0b11 ∷ [])
good_value = record { none_empty = none_empty; none_missing = none_missing }
  where
    none_empty : (k : ℕ) → k < 2 → at (0b01 ∷ 0b11 ∷ []) k ≡ 0 → ⊥
    none_empty zero l e = let z : ◌≡◌ {A = ℕ} 1 0 = e in omega arith
    none_empty (suc zero) l e = let z : ◌≡◌ {A = ℕ} 3 0 = e in omega arith
    none_empty (suc (suc k)) l e = absurd (far l)
      where
        far : suc (suc (suc k)) ≤ 2 → ⊥
        far l = omega arith

    none_missing : (k : ℕ) → k < 2 → (d : ℕ) → Misses 2 (at (0b01 ∷ 0b11 ∷ []) k) d → ⊥
    none_missing zero l d x = clean 2 0b01 d (lit< tt) x
    none_missing (suc zero) l d x = clean 2 0b11 d (lit< tt) x
    none_missing (suc (suc k)) l d x = absurd (far l)
      where
        far : suc (suc (suc k)) ≤ 2 → ⊥
        far l = omega arith

empty_left : GoodMasks 2 (0b01 ∷ 0 ∷ []) → ⊥
empty_left g = g.none_empty 1 (lit< tt) refl

missing_left : GoodMasks 2 (0b01 ∷ 0b100 ∷ []) → ⊥
missing_left g = g.none_missing 1 (lit< tt) 2 misses_edges.1

after_values :
    after_masks 0 ∷ after_masks 1 ∷ after_masks 3 ∷ after_masks 4 ∷ after_masks 5 ∷ after_masks 6 ∷ after_masks 7 ∷ after_masks 8 ∷ after_masks 13 ∷ [] ≡
    true ∷ false ∷ false ∷ false ∷ true ∷ true ∷ true ∷ false ∷ false ∷ []
unfolding after_masks
after_values = refl
