-- The closed form of a finish is the least instant, by the count of units.
-- Assumes nothing.
use mathlib.Core.Path.{◌≡◌, refl, sym, ◌∙◌, ap}
use mathlib.Core.List.{List}
use Prim.Native.Nat.{ℕ, ◌+◌, ◌-◌, ◌*◌, ◌/◌, ◌%◌, ◌^◌, ◌≤◌, ◌<◌}
use native.Mathlib.Nat.{le_refl, mod-lt, div-add-mod', div-mul-le_self, mul-le-mul_left}
use native.Mathlib.Decide.{dec_le}
use native.Mathlib.Omega.{arith}
use lib.ListN.{length}
use Rattle.rules.specs.Sum.{sum_to}
use Rattle.walker.specs.declared.span.Span.{Span}
use Rattle.walker.specs.Served.{unit_to, served_to, units_of, Sorted}
use Rattle.walker.specs.Least.{LeastAt, Reached}
use Rattle.walker.specs.Step.{Ready, UnitAt, StepReady, Stepped}
use Rattle.walker.proofs.Units.{served_sum, units_mono, units_le, total_le, units_at, units_div, units_later}

module _ (F : ℕ) (spans : List Span) (total : ℕ) (ready : Ready F spans) (counted : total ≡ served_to spans (length spans) F) where
  W : ℕ → ℕ
  W = units_of F spans

  pos : 1 ≤ F
  pos = ready.frame

  sorted : Sorted F spans
  sorted = ready.sorted

  at_most : total ≤ F
  at_most = omega (arith, total_le spans F sorted pos, counted)

  pub whole_fits : (e : ℕ) → e < 2 ^ 64 → (e / F) * total < 2 ^ 64
  whole_fits e h = omega (arith, mul-le-mul_left (e / F) at_most, div-mul-le_self e F)

  pub units_fits : (e s : ℕ) → e < 2 ^ 64 → s ≡ served_to spans (length spans) (e % F) → (e / F) * total + s < 2 ^ 64
  units_fits e s h g = rw (g, counted, ← units_div spans F sorted pos e) (omega (arith, units_le spans F sorted pos e))

  pub units_are : (e s : ℕ) → s ≡ served_to spans (length spans) (e % F) → (e / F) * total + s ≡ units_of F spans e
  units_are e s g = rw (g, counted) (sym (units_div spans F sorted pos e))

  pub rest_fits : (e : ℕ) → e % F < 2 ^ 32
  rest_fits e = omega (arith, mod-lt e pos, ready.short)

  module _ (some : 1 ≤ total) (goal : ℕ) (first : 1 ≤ goal) where
    divided : (goal - 1) / total * total + (goal - 1) % total ≡ goal - 1
    divided = div-add-mod' (goal - 1) total

    pub last_within : (goal - 1) % total < served_to spans (length spans) F
    last_within = omega (arith, mod-lt (goal - 1) some, counted)

    module _ (r : ℕ) (at : UnitAt F spans ((goal - 1) % total) r) where
      here : units_of F spans ((goal - 1) / total * F + (r + 1)) ≡ goal
      here =
          units_at spans F sorted pos ((goal - 1) / total) (r + 1) (omega (arith, at.within))
          ∙ rw (← counted, at.next) (omega (arith, divided))

      before : units_of F spans ((goal - 1) / total * F + r) + 1 ≡ goal
      before =
          rw (units_at spans F sorted pos ((goal - 1) / total) r (omega (arith, at.within)), ← counted, at.here)
          (omega (arith, divided))

      together : (goal - 1) / total * F + r + 1 ≡ (goal - 1) / total * F + (r + 1)
      together = omega arith

      pub reach_least : LeastAt (units_of F spans) goal ((goal - 1) / total * F + r + 1)
      reach_least =
          rw together
          (record {
            enough = omega (arith, here);
            least = λ d h. elim (dec_le ((goal - 1) / total * F + (r + 1)) d) [ yes l ↦ l | no l ↦ absurd (sooner d h (omega arith)) ];
          })
        where
          sooner : (d : ℕ) → goal ≤ units_of F spans d → d < (goal - 1) / total * F + (r + 1) → ⊥
          sooner d h l = omega (arith, before, units_mono spans F sorted pos d ((goal - 1) / total * F + r) (omega arith))

      pub reach_fits : Reached (units_of F spans) goal → (goal - 1) / total * F + r + 1 < 2 ^ 64
      reach_fits a = omega (arith, reach_least.least a.by a.there, a.small)

      pub unit_fits : Reached (units_of F spans) goal → (goal - 1) / total * F + r < 2 ^ 64
      unit_fits a = omega (arith, reach_fits a)

    -- the whole frames alone fit too: their units are below the goal
    pub frames_fit : Reached (units_of F spans) goal → (goal - 1) / total * F < 2 ^ 64
    unfolding sum_to
    frames_fit a =
        elim (dec_le ((goal - 1) / total * F) a.by) [ yes h ↦ omega (arith, a.small) | no h ↦ absurd (beyond (omega arith)) ]
      where
        full : units_of F spans ((goal - 1) / total * F + 0) ≡ (goal - 1) / total * total + served_to spans (length spans) 0
        full = units_at spans F sorted pos ((goal - 1) / total) 0 (omega arith) ∙ rw (← counted)

        beyond : a.by < (goal - 1) / total * F → ⊥
        beyond h = omega (arith, full, none, divided, a.there, units_mono spans F sorted pos a.by ((goal - 1) / total * F + 0) (omega arith))
          where
            none : served_to spans (length spans) 0 ≡ 0
            none = rw (← served_sum spans (length spans) 0) (nothing (unit_to spans (length spans)))
              where
                nothing : (f : ℕ → ℕ) → sum_to 0 f ≡ 0
                nothing f = refl

module _ (F : ℕ) (spans : List Span) (total begin job : ℕ) (ready : Ready F spans) (counted : total ≡ served_to spans (length spans) F) (step : StepReady F total begin job) where
  stretches : Sorted F spans
  stretches = ready.sorted

  frame : 1 ≤ F
  frame = ready.frame

  -- a job of 0 units finishes at its begin
  pub step_nothing : (b : ℕ) → b ≡ begin → job ≡ 0 → Stepped F spans begin job b
  step_nothing b late e =
      rw late
      (record {
        finish = record { not_before = le_refl _; enough = omega arith; least = λ d h g. h };
        near = omega arith;
      })

  module _ (asks : job ≡ 0 → ⊥) where
    pub step_total : 1 ≤ total
    step_total = omega (arith, step.some)

    far_enough : units_of F spans begin + job ≤ units_of F spans (job * F + begin)
    far_enough =
        rw (units_later spans F stretches frame job begin, ← counted) (omega (arith, mul-le-mul_left job step_total))

    module _ (b before : ℕ) (late : b ≡ begin) (given : before ≡ units_of F spans b) where
      is : before ≡ units_of F spans begin
      is = given ∙ ap (units_of F spans) late

      pub goal_fits : before + job < 2 ^ 64
      goal_fits = omega (arith, is, units_le spans F stretches frame begin, step.small, mul-le-mul_left job frame)

      pub goal_some : 1 ≤ before + job
      goal_some = omega arith

      pub goal_reached : Reached (units_of F spans) (before + job)
      goal_reached = record { by = job * F + begin; small = omega (arith, step.small); there = rw is far_enough }

      pub step_job : (e : ℕ) → LeastAt (units_of F spans) (before + job) e → Stepped F spans begin job e
      step_job e l =
          record {
            finish =
                record {
                  not_before = elim (dec_le begin e) [ yes h ↦ h | no h ↦ absurd (sooner (omega arith)) ];
                  enough = rw (← is) l.enough;
                  least = λ d h g. l.least d (rw is g);
                };
            near = omega (arith, l.least (job * F + begin) (rw is far_enough));
          }
        where
          sooner : e < begin → ⊥
          sooner h = omega (arith, is, l.enough, units_mono spans F stretches frame e begin (omega arith))
