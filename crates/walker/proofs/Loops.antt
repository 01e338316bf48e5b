-- The loops over the task's stretches: one law for each of their needs.
-- Assumes nothing.
use mathlib.Core.Path.{◌≡◌, ◌∙◌, ap}
use mathlib.Core.List.{List}
use Prim.Native.Nat.{ℕ, ◌+◌, ◌-◌, ◌≤◌, ◌<◌, min}
use native.Mathlib.Decide.{dec_lt}
use native.Mathlib.Numerals.{add-one}
use native.Mathlib.Omega.{arith}
use lib.ListN.{length, get_or}
use Rattle.rules.specs.Sum.{sum_to}
use Rattle.sums.proofs.Sum.{sum_mono}
use Rattle.walker.specs.declared.span.Span.{Span}
use Rattle.std.specs.Prelude.{map, sum}
use Rattle.std.specs.List.{range_with_len}
use Rattle.std.proofs.lemmas.List.{get_or-map}
use Rattle.std.proofs.lemmas.List.FromFn.{fill_by_all}
use Rattle.std.proofs.lemmas.List.{length-map}
use Rattle.moves.proofs.Moves.{sum_range}
use Rattle.walker.specs.Served.{no_span, served_to, start_at, len_at}
use Rattle.walker.specs.Step.{Ready, UnitAt}
use Rattle.walker.proofs.Units.{served_at, served_total}

-- a stretch's units before the instant r
abbrev pub part_of : ℕ → Span → ℕ
part_of r s = min s.len (r - s.start)

pub parts_sum : (spans : List Span) (r : ℕ) → sum (map (part_of r) spans) ≡ served_to spans (length spans) r
unfolding served_to
parts_sum spans r = ap sum places ∙ sum_range (length spans) (λ i. part_of r (get_or spans i no_span))
  where
    places : map (part_of r) spans ≡ map (λ i. part_of r (get_or spans i no_span)) (range_with_len 0 (length spans))
    places =
        fill_by_all (λ i. part_of r (get_or spans i no_span)) (map (part_of r) spans) (length spans) 0 (length-map spans (part_of r))
        (λ k h. get_or-map (part_of r) spans k no_span 0 h)

module _ (F : ℕ) (spans : List Span) (k : ℕ) where
  -- unit k is the `left`-th from stretch i on, both counted from 0
  pub record Seeking (i left : ℕ) : Type 0 where
    pub inside : i < length spans
    pub rest : left + sum_to i (len_at spans) ≡ k

  module _ (total : ℕ) (ready : Ready F spans) (counted : total ≡ served_to spans (length spans) F) (most : k < total) where
    all : k < sum_to (length spans) (len_at spans)
    all = omega (arith, most, counted, served_total spans F ready.sorted)

    here : (i left : ℕ) → left + sum_to i (len_at spans) ≡ k → i < length spans
    here i left e =
        elim (dec_lt i (length spans)) [ yes l ↦ l | no l ↦ absurd (past (sum_mono (length spans) i (len_at spans) (omega arith)) all e) ]
      where
        past : {a b : ℕ} → a ≤ b → k < a → left + b ≡ k → ⊥
        past p q e = omega arith

    pub seeking_none : Seeking 0 k
    unfolding sum_to
    seeking_none = record { inside = here 0 k (omega arith); rest = omega arith }

    module _ (i left len : ℕ) (now : Seeking i left) (long : len ≡ len_at spans i) where
      pub seeking_more : len ≤ left → Seeking (i + 1) (left - len)
      unfolding sum_to
      seeking_more h = record { inside = here (i + 1) (left - len) next; rest = next }
        where
          next : (left - len) + sum_to (i + 1) (len_at spans) ≡ k
          next = rw (add-one i) (omega (arith, now.rest, long))

      pub seeking_done : (start : ℕ) → start ≡ start_at spans i → left < len → UnitAt F spans k (start + left)
      seeking_done start e h =
          rw e
          (record {
            within = omega (arith, ready.sorted.ends i now.inside, long);
            here = served_at spans F ready.sorted i (start_at spans i + left) now.inside (omega arith) (omega (arith, long)) ∙ omega (arith, now.rest);
            next =
                served_at spans F ready.sorted i (start_at spans i + left + 1) now.inside (omega arith) (omega (arith, long))
                ∙ omega (arith, now.rest);
          })
