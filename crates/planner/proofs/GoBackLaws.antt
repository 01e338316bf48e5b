-- For go_back of flow.rt: the laws of one step of the way back, over a demand that the code there does not hold.
-- Assumes nothing.
use mathlib.Core.Path.{◌≡◌}
use Prim.Native.Nat.{ℕ, ◌<◌}
use Rattle.rules.specs.Plan.{at}
use Rattle.planner.specs.Fill.{Filling}
use Rattle.planner.specs.Stock.{ShareFits, Stock, shared}
use Rattle.planner.specs.Search.{Known, WayBack, task_at, core_at, place_before}
use Rattle.planner.specs.Back.{StepFits, moved}
use Rattle.planner.specs.Filled.{Opening, Underway, Closer}
use Rattle.planner.proofs.WayBackLaws.{way_small, back_less, back_fits, back_filling, back_way, back_left, last_fits, last_kept}

module _ {start s : Stock} {w : Known} {hit p : ℕ} (o : Opening start w hit) (u : Underway start w hit s p) where
  -- of the demand that there is
  now_both : Filling o.asked s × WayBack o.asked.cores o.asked.masks s w p
  now_both = u.kept o.asked o.filling o.way

  pub on_small : (p < 16) × (task_at w p < 64) × (core_at w p < 16)
  on_small = way_small now_both.0 now_both.1

  pub on_last_fits : ShareFits s (task_at w p) (core_at w p)
  on_last_fits = last_fits now_both.0 now_both.1

  pub on_last : {s' : Stock} → (at s.left (task_at w p) ≡ 0 → ⊥) → s' ≡ shared s (task_at w p) (core_at w p) → Closer start w hit s'
  on_last ne e =
      record {
        closer = λ asked f b. let r = u.kept asked f b in last_kept r.0 r.1 ne u.as_much e;
      }

  module _ (z : at s.left (task_at w p) ≡ 0) where
    pub on_less : place_before w p < p
    on_less = back_less now_both.0 now_both.1 z

    pub on_fits : StepFits s w p
    on_fits = back_fits now_both.0 now_both.1 z

    pub on_next : {s' : Stock} {r : ℕ} → s' ≡ moved s w p → r ≡ place_before w p → Underway start w hit s' r
    on_next e g =
        record {
          as_much = back_left now_both.0 now_both.1 z e u.as_much;
          kept =
              λ asked f b.
              let r = u.kept asked f b in
              (back_filling r.0 r.1 z e, back_way r.0 r.1 z e g);
        }
