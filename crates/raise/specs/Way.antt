-- What a search from core j for task i hands over: a way, which ends on a core that can take units, or the cores that it reached in vain.
-- These make the proofs easy and need no belief.
-- Assumes nothing.
use mathlib.Core.Path.{◌≡◌}
use mathlib.Core.List.{List}
use Prim.Native.Nat.{ℕ, ◌≤◌, ◌<◌}
use lib.ListN.{length}
use Rattle.rules.specs.Sizes.{max_cores}
use Rattle.rules.specs.Sets.{has}
use Rattle.rules.specs.Plan.{at}
use Rattle.stretches.specs.Cell.{cell}

-- the lists of a search, by place of its queue
pub record Trail : Type 0 where
  -- the core that was reached
  pub queue : List ℕ
  -- the task that reached it
  pub via : List ℕ
  -- the earlier place through whose core that task was found
  pub back : List ℕ
  -- how many units can go the way to here
  pub most : List ℕ

abbrev pub trail : List ℕ → List ℕ → List ℕ → List ℕ → Trail
trail queue via back most = record { queue = queue; via = via; back = back; most = most }

abbrev pub core_at : Trail → ℕ → ℕ
core_at w p = at w.queue p

abbrev pub task_at : Trail → ℕ → ℕ
task_at w p = at w.via p

abbrev pub back_at : Trail → ℕ → ℕ
back_at w p = at w.back p

abbrev pub most_at : Trail → ℕ → ℕ
most_at w p = at w.most p

-- the lists have their lengths
pub record Sized (w : Trail) : Type 0 where
  pub queue : length w.queue ≡ max_cores
  pub via : length w.via ≡ max_cores
  pub back : length w.back ≡ max_cores
  pub most : length w.most ≡ max_cores

-- the places below `tail` hold different cores, core j first; each other one was reached by a task above i, whose mask holds it and which has
-- units on the core of an earlier place: as many as can go, and no more than can go to there
pub record Ways (n m i j : ℕ) (masks units : List ℕ) (w : Trail) (tail : ℕ) : Type 0 where
  pub places : tail ≤ max_cores
  pub first : core_at w 0 ≡ j
  pub core : (p : ℕ) → p < tail → core_at w p < m
  pub differ : (p q : ℕ) → p < q → q < tail → core_at w p ≡ core_at w q → ⊥
  pub earlier : (p : ℕ) → 0 < p → p < tail → back_at w p < p
  pub above : (p : ℕ) → 0 < p → p < tail → i < task_at w p
  pub below : (p : ℕ) → 0 < p → p < tail → task_at w p < n
  pub allowed : (p : ℕ) → 0 < p → p < tail → has (at masks (task_at w p)) (core_at w p) ≡ 1
  pub there : (p : ℕ) → 0 < p → p < tail → most_at w p ≤ cell units (task_at w p) (core_at w (back_at w p))
  pub narrower : (p : ℕ) → 0 < p → p < tail → most_at w p ≤ most_at w (back_at w p)
  pub some : (p : ℕ) → p < tail → 0 < most_at w p

-- the later cores on which task i has units, as a set
pub record Later (m i j : ℕ) (x : ℕ → ℕ → ℕ) (later : ℕ) : Type 0 where
  pub inside : (c : ℕ) → has later c ≡ 1 → (j < c) × (c < m) × (0 < x i c)
  pub every : (c : ℕ) → j < c → c < m → 0 < x i c → has later c ≡ 1

-- the core c ends a search well: it has room, or it is one of the later cores
pub data Goal (room later c : ℕ) : Type 0 where
  roomy : 0 < room → Goal room later c
  own : has later c ≡ 1 → Goal room later c
