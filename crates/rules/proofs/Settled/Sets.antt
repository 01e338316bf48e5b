-- What the examples of planned sets share: an accepted set from its one allocation, a refusal, an overload from its group.
-- Assumes nothing.
use mathlib.Core.Path.{◌≡◌, refl, sym, ◌∙◌, ap, subst, subst⁻¹}
use mathlib.Core.List.{List, [], ◌++◌}
use Prim.Native.Nat.{ℕ, ◌*◌, ◌^◌, ◌<◌}
use native.Mathlib.Nat.{le_antisymm}
use lib.ListN.{length, drop}
use Rattle.rules.specs.Sets.{has, union}
use Rattle.rules.specs.Allocation.{limit_of, Allocation}
use Rattle.rules.specs.Excess.{Exceeds, Smallest}
use Rattle.rules.specs.Loops.{LoopFree}
use Rattle.rules.specs.Piece.{numbers_of}
use Rattle.rules.specs.Table.{table_of}
use Rattle.rules.specs.Tests.{Tested, refused, passed, tested}
use Rattle.rules.specs.Plan.{at, Refusal, PlannedBy, OverloadedBy, Decided, planned, overloaded, PlanAnswerAt}
use Rattle.rules.specs.Settled.{Roomy, Only}
use Rattle.rules.specs.declared.Answer.{Answer}
use Rattle.rules.specs.declared.Answer.TheVariants.{Accepted, Overloaded}
use Rattle.rules.specs.declared.Planned.{Planned}
use Rattle.rules.proofs.Numbers.{length_numbers}

module _ (F m : ℕ) (budgets masks : List ℕ) where
  Fit : ℕ → Type 0
  Fit g = Exceeds (length budgets) m (limit_of F) (at budgets) (at masks) g

  abbrev pub Passes : Type 0
  Passes = (before : List ℕ) → Roomy (length budgets) m before → tested F m budgets masks before ≡ passed

  abbrev pub Alloc : (ℕ → ℕ → ℕ) → Type 0
  Alloc x = Allocation (length budgets) m (limit_of F) (at budgets) (at masks) x

  module _ (table : List ℕ) (pass : Passes)
      (fixed : (x : ℕ → ℕ → ℕ) → Alloc x → numbers_of (table_of F (length budgets) m x) ≡ table)
      (fits : (g : ℕ) → g < 2 ^ length budgets → Exceeds (length budgets) m (limit_of F) (at budgets) (at masks) g → ⊥)
      (x : ℕ → ℕ → ℕ) (allocation : Alloc x) (free : LoopFree (length budgets) m x) where
    Is : List ℕ → Planned → List ℕ → Type 0
    Is before r after = (r.answer ≡ Accepted) × (4 * r.pieces ≡ length table) × (after ≡ table ++ drop (length table) before)

    by_allocation : (before : List ℕ) (r : Planned) (after : List ℕ) (y : ℕ → ℕ → ℕ) → PlannedBy F m budgets masks before r after y → Is before r after
    unfolding Is
    by_allocation before r after y p =
        let ps = table_of F (length budgets) m y in
        let count : 4 * length ps ≡ length table = sym (length_numbers ps) ∙ ap length (fixed y p.allocation) in (
          p.answer,
          ap (λ (k : ℕ). 4 * k) p.pieces ∙ count,
          p.table ∙ ap (λ (l : List ℕ). l ++ drop (4 * length ps) before) (fixed y p.allocation) ∙ ap (λ (k : ℕ). table ++ drop k before) count,
        )

    decided : (before : List ℕ) (r : Planned) (after : List ℕ) → Decided F m budgets masks before r after → Is before r after
    decided before r after (planned y p) = by_allocation before r after y p
    decided before r after (overloaded g p) = absurd (fits g p.smallest.tasks p.exceeds)

    pub accepted_only : Only F m budgets masks Accepted table
    unfolding Is
    accepted_only =
        record {
          only = λ before roomy r after h.
              decided before r after (subst (λ (t : Tested). PlanAnswerAt t F m budgets masks before r after) (pass before roomy) h);
          some = λ before roomy. (
            record { answer = Accepted; pieces = length (table_of F (length budgets) m x) },
            numbers_of (table_of F (length budgets) m x) ++ drop (4 * length (table_of F (length budgets) m x)) before,
            subst⁻¹ (λ (t : Tested).
                PlanAnswerAt t F m budgets masks before (record { answer = Accepted; pieces = length (table_of F (length budgets) m x) })
                (numbers_of (table_of F (length budgets) m x) ++ drop (4 * length (table_of F (length budgets) m x)) before))
                (pass before roomy)
                (planned x (record { allocation = allocation; loop_free = free; answer = refl; pieces = refl; table = refl })),
          );
        }

  module _ (g c : ℕ) (pass : Passes) (none : (x : ℕ → ℕ → ℕ) → Alloc x → ⊥)
      (smallest : Smallest (length budgets) m (limit_of F) (at budgets) (at masks) g)
      (exceeds : Exceeds (length budgets) m (limit_of F) (at budgets) (at masks) g)
      (cores : union (length budgets) (at masks) g ≡ c)
      (same : (h : ℕ) → h < 2 ^ length budgets → ((i : ℕ) → i < length budgets → has h i ≡ has g i) → h ≡ g) where
    Shown : List ℕ → Planned → List ℕ → Type 0
    Shown before r after = (r.answer ≡ Overloaded g c) × (4 * r.pieces ≡ 0) × (after ≡ [] ++ drop 0 before)

    -- two smallest groups hold each other
    one_group : (h : ℕ) → Smallest (length budgets) m (limit_of F) (at budgets) (at masks) h → h ≡ g
    one_group h s =
        same h s.tasks
        (λ i l. le_antisymm (s.smallest g smallest.tasks (smallest.greatest h s.tasks) i l) (smallest.smallest h s.tasks (s.greatest g smallest.tasks) i l))

    by_group : (before : List ℕ) (r : Planned) (after : List ℕ) (h : ℕ) → OverloadedBy F m budgets masks before r after h → Shown before r after
    unfolding Shown
    by_group before r after h p = (
      p.refusal.answer ∙
          ap (λ (k : ℕ). Overloaded k (union (length budgets) (at masks) k)) (one_group h p.smallest) ∙
          ap (λ (k : ℕ). Overloaded g k) cores,
      ap (λ (k : ℕ). 4 * k) p.refusal.pieces,
      p.refusal.kept,
    )

    decided_short : (before : List ℕ) (r : Planned) (after : List ℕ) → Decided F m budgets masks before r after → Shown before r after
    decided_short before r after (planned y p) = absurd (none y p.allocation)
    decided_short before r after (overloaded h p) = by_group before r after h p

    pub overloaded_only : Only F m budgets masks (Overloaded g c) []
    unfolding Shown
    overloaded_only =
        record {
          only = λ before roomy r after h.
              decided_short before r after (subst (λ (t : Tested). PlanAnswerAt t F m budgets masks before r after) (pass before roomy) h);
          some = λ before roomy. (
            record { answer = Overloaded g (union (length budgets) (at masks) g); pieces = 0 },
            before,
            subst⁻¹ (λ (t : Tested).
                PlanAnswerAt t F m budgets masks before (record { answer = Overloaded g (union (length budgets) (at masks) g); pieces = 0 }) before)
                (pass before roomy)
                (overloaded g
                (record { exceeds = exceeds; smallest = smallest; refusal = record { answer = refl; pieces = refl; kept = refl } })),
          );
        }

  pub refused_only : (a : Answer) → ((before : List ℕ) → tested F m budgets masks before ≡ refused a) → Only F m budgets masks a []
  refused_only a test =
      record {
        only = λ before roomy r after h. shown before r after (subst (λ (t : Tested). PlanAnswerAt t F m budgets masks before r after) (test before) h);
        some = λ before roomy. (
          record { answer = a; pieces = 0 },
          before,
          subst⁻¹ (λ (t : Tested). PlanAnswerAt t F m budgets masks before (record { answer = a; pieces = 0 }) before) (test before)
              (record { answer = refl; pieces = refl; kept = refl }),
        );
      }
    where
      shown : (before : List ℕ) (r : Planned) (after : List ℕ) → Refusal a before r after
          → (r.answer ≡ a) × (4 * r.pieces ≡ 0) × (after ≡ [] ++ drop 0 before)
      shown before r after h = (h.answer, ap (λ (k : ℕ). 4 * k) h.pieces, h.kept)
