-- A table that obeys the rules for a set, worked out by hand: each part is broken alone, and then it does not.
-- Assumes nothing.
use mathlib.Core.Path.{◌≡◌, refl}
use mathlib.Core.Bool.{Bool, true, false, cond}
use mathlib.Core.List.{List, [], ◌∷◌}
use Prim.Native.Nat.{ℕ, zero, suc, ◌≤◌, ◌<◌}
use native.Mathlib.Omega.{arith}
use lib.Dec.{lit<}
use Rattle.rules.specs.Sum.{sum_to}
use Rattle.rules.specs.Sets.{has}
use Rattle.rules.specs.Piece.{Piece}
use Rattle.rules.specs.FrameTable.{every, every_two, sound, ordered, overlap, core_apart, task_apart, frame_pieces}
use Rattle.rules.specs.Service.{covers, covered, units}
use Rattle.rules.specs.Obeys.{allowed, Obeys}
use Rattle.rules.specs.Plan.{at}

abbrev piece : ℕ → ℕ → ℕ → ℕ → Piece
piece core task start len = record { core = core; task = task; start = start; len = len }

-- the masks {0}, {0}, {1}, {0}: a piece on a core of its task's mask, one outside it, and one of a task that a set of three does not have
allowed_values :
    allowed 3 (at (0b01 ∷ 0b01 ∷ 0b10 ∷ 0b01 ∷ [])) (piece 1 2 5 1) ∷
    allowed 3 (at (0b01 ∷ 0b01 ∷ 0b10 ∷ 0b01 ∷ [])) (piece 0 2 5 1) ∷
    allowed 3 (at (0b01 ∷ 0b01 ∷ 0b10 ∷ 0b01 ∷ [])) (piece 0 3 0 1) ∷
    allowed 3 (at (0b01 ∷ 0b01 ∷ 0b10 ∷ 0b01 ∷ [])) (piece 0 0 5 1) ∷ [] ≡ true ∷ false ∷ false ∷ true ∷ []
unfolding allowed has
allowed_values = refl

-- F 6, m 2, budgets 3, 2, masks {0,1}, {1}; what a third task would be given does not count
abbrev Kept : List Piece → Type 0
Kept ps = Obeys 6 2 2 (at (3 ∷ 2 ∷ 4 ∷ [])) (at (0b11 ∷ 0b10 ∷ [])) ps

obeys_value : Kept (piece 0 0 0 2 ∷ piece 1 0 2 1 ∷ piece 1 1 3 2 ∷ [])
unfolding every every_two sound ordered overlap core_apart task_apart frame_pieces covers covered sum_to allowed has
obeys_value = record { table = refl; exact = budgets; on_mask = refl }
  where
    budgets : (i : ℕ) → i < 2 → units 6 (piece 0 0 0 2 ∷ piece 1 0 2 1 ∷ piece 1 1 3 2 ∷ []) i 6 ≡ at (3 ∷ 2 ∷ 4 ∷ []) i
    budgets zero l = refl
    budgets (suc zero) l = refl
    budgets (suc (suc i)) l = absurd (far l)
      where
        far : suc (suc (suc i)) ≤ 2 → ⊥
        far l = omega arith

-- 1 for true, so that two truths that differ are two numbers that do
one : Bool → ℕ
one b = cond b 1 0

differ : (a b : Bool) → a ≡ b → one a ≡ one b
differ a b e = rw e

-- both at once on core 1
two_at_once : Kept (piece 0 0 0 2 ∷ piece 1 0 2 1 ∷ piece 1 1 2 2 ∷ []) → ⊥
unfolding every every_two sound ordered overlap core_apart task_apart frame_pieces one
two_at_once o =
    let e : ◌≡◌ {A = ℕ} 0 1 = differ _ _ o.table in
    omega arith

-- task 1 has one unit too few
short_budget : Kept (piece 0 0 0 2 ∷ piece 1 0 2 1 ∷ piece 1 1 3 1 ∷ []) → ⊥
unfolding covers covered sum_to
short_budget o =
    let e : ◌≡◌ {A = ℕ} 1 2 = o.exact 1 (lit< tt) in
    omega arith

-- task 1 on core 0
off_mask : Kept (piece 0 1 3 2 ∷ piece 1 0 0 3 ∷ []) → ⊥
unfolding every allowed has one
off_mask o =
    let e : ◌≡◌ {A = ℕ} 0 1 = differ _ _ o.on_mask in
    omega arith
