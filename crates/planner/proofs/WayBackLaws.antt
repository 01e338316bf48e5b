-- For go_back of flow.rt: each step of the way back takes units from an earlier core and places them on the one with room, and the last
-- places units of a task that lacks some; all keep a partial allocation.
-- Assumes nothing.
use mathlib.Core.Path.{◌≡◌, sym, ◌∙◌, ap, subst}
use mathlib.Core.List.{List}
use Prim.Native.Nat.{ℕ, ◌+◌, ◌*◌, ◌≤◌, ◌<◌}
use native.Mathlib.Nat.{le_refl, le_trans, le_of_lt, min-le_left, min-le_right}
use native.Mathlib.Decide.{ℕ_discrete}
use native.Mathlib.Omega.{arith}
use lib.ListN.{length}
use Rattle.rules.specs.Sets.{has}
use Rattle.rules.specs.Plan.{at}
use Rattle.sums.proofs.Order.{zero_not_positive}
use Rattle.sums.proofs.Sum.{sum_but_one}
use Rattle.sums.proofs.Sets.{has_one}
use Rattle.stretches.specs.Cell.{cell}
use Rattle.planner.specs.Fill.{Filling, demand, lack}
use Rattle.planner.specs.Stock.{ShareFits, Stock, stock, placed, taken, share, shared}
use Rattle.planner.specs.Search.{Known, WayBack, task_at, core_at, place_before, core_before}
use Rattle.planner.specs.Back.{StepFits, backward, freed, moved}
use Rattle.planner.specs.Filled.{MoreBy}
use Rattle.planner.proofs.StepLaws.{raise_same, raise_other, lower_same, lower_other, raise_lower, taken_kept, placed_kept, placing, taking, sharing}

-- the two halves of a step, as the code takes them, are the step of the definitions
pub step_done : (s : Stock) {s₁ s₂ : Stock} (w : Known) (p : ℕ) {d : ℕ} → d ≡ backward s w p → s₁ ≡ taken s (task_at w p) (core_before w p) d
    → s₂ ≡ placed s₁ (task_at w p) (core_at w p) d → s₂ ≡ moved s w p
step_done s w p amount freed-now e = e ∙ rw (freed-now, amount)

module _ {F m : ℕ} {budgets masks : List ℕ} {s : Stock} {w : Known} {p : ℕ} (f : Filling (demand F m budgets masks) s) (b : WayBack m masks s w p) where
  -- the task and the core at the place p
  task_in : task_at w p < length budgets
  task_in = omega (arith, b.task p (le_refl p), f.given.paired)

  core_in : core_at w p < m
  core_in = b.core p (le_refl p)

  pub way_small : (p < 16) × (task_at w p < 64) × (core_at w p < 16)
  way_small = (b.place, omega (arith, task_in, f.given.tasks), omega (arith, core_in, f.given.cores))

  -- ---- the last step: the task lacks units

  pub last_fits : ShareFits s (task_at w p) (core_at w p)
  last_fits = sharing f task_in core_in

  pub last_kept : {s' start : Stock} → (at s.left (task_at w p) ≡ 0 → ⊥) → s.left ≡ start.left → s' ≡ shared s (task_at w p) (core_at w p)
      → MoreBy (demand F m budgets masks) start s'
  last_kept ne o e =
      record {
        filling =
            subst (Filling (demand F m budgets masks)) (sym e)
            (placed_kept f (task_at w p) (core_at w p) (share s (task_at w p) (core_at w p)) task_in core_in (b.allowed p (le_refl p)) (min-le_right _ _) (min-le_left _ _));
        less = rw (e, ← o) less;
      }
    where
      less : lack (demand F m budgets masks) (shared s (task_at w p) (core_at w p)) < lack (demand F m budgets masks) s
      less =
          omega (
            arith,
            b.room_there,
            sum_but_one (length budgets) (task_at w p) (at (shared s (task_at w p) (core_at w p)).left) (at s.left) task_in
                (λ i l g. lower_other s.left (task_at w p) (share s (task_at w p) (core_at w p)) i g),
            lower_same s.left (task_at w p) (share s (task_at w p) (core_at w p)) (omega (arith, way_small, f.left_long)),
          )

  -- ---- a step back: the task lacks nothing

  module _ (z : at s.left (task_at w p) ≡ 0) where
    pub back_less : place_before w p < p
    back_less = b.earlier p (le_refl p) z

    back_small : (place_before w p < 16) × (core_before w p < m) × (core_before w p < 16)
    back_small = (omega (arith, back_less, b.place), in_cores, omega (arith, in_cores, f.given.cores))
      where
        in_cores : core_before w p < m
        in_cores = b.core (place_before w p) (le_of_lt back_less)

    before_allowed : has (at masks (task_at w p)) (core_before w p) ≡ 1
    before_allowed =
        has_one (at masks (task_at w p)) (core_before w p)
        (λ e. zero_not_positive (f.inside (task_at w p) (core_before w p) back_small.2 e) (b.holding p (le_refl p) z))

    amount : (0 < backward s w p) × (backward s w p ≤ at s.room (core_at w p)) × (backward s w p ≤ cell s.units (task_at w p) (core_before w p))
    amount = (omega (arith, b.room_there, b.holding p (le_refl p) z), min-le_left _ _, min-le_right _ _)

    freed_kept : Filling (demand F m budgets masks) (freed s w p)
    freed_kept = taken_kept f (task_at w p) (core_before w p) (backward s w p) task_in back_small.1 before_allowed amount.2

    left_there : backward s w p ≤ at (freed s w p).left (task_at w p)
    left_there = omega (arith, raise_same s.left (task_at w p) (backward s w p) (omega (arith, way_small, f.left_long)))

    room_there : backward s w p ≤ at (freed s w p).room (core_at w p)
    room_there =
        elim (ℕ_discrete (core_at w p) (core_before w p)) [
          | yes e ↦
              omega (
                arith,
                ap (at (freed s w p).room) e,
                raise_same s.room (core_before w p) (backward s w p) (omega (arith, back_small, f.room_long)),
              )
          | no ne ↦ omega (arith, raise_other s.room (core_before w p) (backward s w p) (core_at w p) ne, amount)
        ]

    pub back_fits : StepFits s w p
    back_fits =
        record {
          place = b.place;
          before = back_small.0;
          take_fits = taking f (task_at w p) (core_before w p) (backward s w p) task_in back_small.1 amount.2;
          place_fits = placing freed_kept (task_at w p) (core_at w p) (backward s w p) task_in core_in left_there room_there;
        }

    moved_kept : Filling (demand F m budgets masks) (moved s w p)
    moved_kept = placed_kept freed_kept (task_at w p) (core_at w p) (backward s w p) task_in core_in (b.allowed p (le_refl p)) left_there room_there

    -- what the task lacks is as before
    same_left : (moved s w p).left ≡ s.left
    same_left = raise_lower s.left (task_at w p) (backward s w p) (omega (arith, way_small, f.left_long))

    -- another task's row is untouched
    other_row : (t j : ℕ) → j < 16 → (t ≡ task_at w p → ⊥) → cell (moved s w p).units t j ≡ cell s.units t j
    other_row t j h ne =
        raise_other (freed s w p).units (task_at w p * 16 + core_at w p) (backward s w p) (t * 16 + j) (λ e. ne (row e way_small.2))
        ∙ lower_other s.units (task_at w p * 16 + core_before w p) (backward s w p) (t * 16 + j) (λ e. ne (row e back_small.2))
      where
        row : {i k : ℕ} → t * 16 + j ≡ i * 16 + k → k < 16 → t ≡ i
        row e l = omega arith

    -- the earlier core has room now
    room_back : 0 < at (moved s w p).room (core_before w p)
    room_back =
        elim (ℕ_discrete (core_before w p) (core_at w p)) [
          | yes e ↦
              omega (
                arith,
                b.room_there,
                ap (at s.room) e,
                ap (at (freed s w p).room) e,
                ap (at (moved s w p).room) e,
                raise_same s.room (core_before w p) (backward s w p) (omega (arith, back_small, f.room_long)),
                lower_same (freed s w p).room (core_at w p) (backward s w p) (omega (arith, way_small, freed_kept.room_long)),
              )
          | no ne ↦
              omega (
                arith,
                lower_other (freed s w p).room (core_at w p) (backward s w p) (core_before w p) ne,
                raise_same s.room (core_before w p) (backward s w p) (omega (arith, back_small, f.room_long)),
                amount,
              )
        ]

    moved_way : WayBack m masks (stock (moved s w p).units s.left (moved s w p).room) w (place_before w p)
    moved_way =
        record {
          place = back_small.0;
          core = λ r l. b.core r (up r l);
          task = λ r l. b.task r (up r l);
          allowed = λ r l. b.allowed r (up r l);
          earlier = λ r l e. b.earlier r (up r l) e;
          holding = λ r l e. rw (other_row (task_at w r) (core_before w r) (small r l e) (λ i. twice r l i (b.earlier r (up r l) e))) (b.holding r (up r l) e);
          room_there = room_back;
        }
      where
        up : (r : ℕ) → r ≤ place_before w p → r ≤ p
        up r l = le_trans l (le_of_lt back_less)

        small : (r : ℕ) → r ≤ place_before w p → at s.left (task_at w r) ≡ 0 → core_before w r < 16
        small r l e = omega (arith, b.core (place_before w r) (le_trans (le_of_lt (b.earlier r (up r l) e)) (up r l)), f.given.cores)

        twice : (r : ℕ) → r ≤ place_before w p → task_at w r ≡ task_at w p → place_before w r < r → ⊥
        twice r l i h = omega (arith, ap (at w.from) i)

    pub back_filling : {s' : Stock} → s' ≡ moved s w p → Filling (demand F m budgets masks) s'
    back_filling d = subst (Filling (demand F m budgets masks)) (sym d) moved_kept

    pub back_left : {s' : Stock} {start : List ℕ} → s' ≡ moved s w p → s.left ≡ start → s'.left ≡ start
    back_left d o = ap (λ (y : Stock). y.left) d ∙ same_left ∙ o

    pub back_way : {s' : Stock} {r : ℕ} → s' ≡ moved s w p → r ≡ place_before w p → WayBack m masks s' w r
    back_way d e =
        rw (e, d)
        (subst (λ (l : List ℕ). WayBack m masks (stock (moved s w p).units l (moved s w p).room) w (place_before w p)) (sym same_left) moved_way)
