-- A table that obeys the rules is an allocation, by counting the units of each piece.
-- Assumes nothing.
use mathlib.Core.Path.{◌≡◌, refl, sym, ◌∙◌, ap₂, subst}
use mathlib.Core.Bool.{Bool, true, false, not, ◌&&◌, false≢true}
use mathlib.Core.List.{List, [], ◌∷◌, map}
use mathlib.Core.Logic.{◌⊎◌, inl, inr}
use Prim.Native.Nat.{ℕ, ◌+◌, ◌%◌, ◌≤◌, ◌<◌}
use native.Mathlib.Decide.{ℕ_discrete, dec_lt}
use native.Mathlib.Omega.{arith}
use borrow.Author.Tests.{ltb-true, leb-true, eqb-true, eq-eqb, ne_eqb, lt-ltb}
use lib.Dec.{eqb, leb, ltb}
use lib.ListN.{length}
use Rattle.rules.specs.Sum.{sum_to, put}
use Rattle.rules.specs.Sets.{has}
use Rattle.rules.specs.Piece.{Piece}
use Rattle.rules.specs.FrameTable.{every, every_two, sound, ordered, overlap, core_apart, task_apart, frame_pieces}
use Rattle.rules.specs.Service.{covers, covered, unit, units}
use Rattle.rules.specs.Allocation.{limit_of, Allocation}
use Rattle.rules.specs.Obeys.{allowed, Obeys}
use Rattle.sums.proofs.Sum.{sum_cong, sum_zero, sum_add, sum_put, sum_put_past, sum_count}
use Rattle.stretches.proofs.PieceLists.{Every, Pairs, every_map, total}
use Rattle.sums.proofs.Both.{and_left, and_right}
use Rattle.frames.proofs.Parts.{Clear}
use Rattle.frames.proofs.Budgets.{weight, weight_own, weight_other, units_are_weight}

every_reads : (f : Piece → Bool) (l : List Piece) → every f l ≡ true → Every (λ p. f p ≡ true) l
unfolding every
every_reads f [] e = tt
every_reads f (p ∷ l) e = (and_left (f p) (every f l) e, every_reads f l (and_right (f p) (every f l) e))

pairs_read : (r : Piece → Piece → Bool) (l : List Piece) → every_two r l ≡ true → Pairs (λ p q. r p q ≡ true) l
unfolding every_two
pairs_read r [] e = tt
pairs_read r (p ∷ l) e = (every_reads (r p) l (and_left (every (r p) l) (every_two r l) e), pairs_read r l (and_right (every (r p) l) (every_two r l) e))

-- pieces that do not overlap
apart_reads : (p q : Piece) (b : Bool) → not (b && overlap p q) ≡ true → b ≡ true → (p.start + p.len ≤ q.start) ⊎ (q.start + q.len ≤ p.start)
unfolding overlap
apart_reads p q true e t =
    elim (dec_lt p.start (q.start + q.len)) [
      | yes a ↦
          elim (dec_lt q.start (p.start + p.len)) [
            | yes b ↦ absurd (false≢true (sym (rw (lt-ltb _ _ a, lt-ltb _ _ b) refl) ∙ e))
            | no b ↦ inl (omega arith)
          ]
      | no a ↦ inr (omega arith)
    ]
apart_reads p q false e t = absurd (false≢true t)

clear_reads : (p q : Piece) → core_apart p q ≡ true → task_apart p q ≡ true → Clear p q
unfolding core_apart task_apart
clear_reads p q a b =
    record { on_core = λ e. apart_reads p q (eqb p.core q.core) a (eq-eqb _ _ e); of_task = λ e. apart_reads p q (eqb p.task q.task) b (eq-eqb _ _ e) }

pairs_join : (R S : Piece → Piece → Bool) (T : Piece → Piece → Type 0) → ((p q : Piece) → R p q ≡ true → S p q ≡ true → T p q) → (l : List Piece)
    → Pairs (λ p q. R p q ≡ true) l → Pairs (λ p q. S p q ≡ true) l → Pairs T l
pairs_join R S T f [] u v = tt
pairs_join R S T f (p ∷ l) u v = (every_join l u.0 v.0, pairs_join R S T f l u.1 v.1)
  where
    every_join : (l : List Piece) → Every (λ q. R p q ≡ true) l → Every (λ q. S p q ≡ true) l → Every (T p) l
    every_join [] a b = tt
    every_join (q ∷ l) a b = (f p q a.0 b.0, every_join l a.1 b.1)

-- a piece with core and task exchanged
abbrev turned : Piece → Piece
turned p = record { core = p.task; task = p.core; start = p.start; len = p.len }

turned_clear : (l : List Piece) → Pairs Clear l → Pairs Clear (map turned l)
turned_clear [] u = tt
turned_clear (p ∷ l) u = (each l u.0, turned_clear l u.1)
  where
    each : (l : List Piece) → Every (Clear p) l → Every (Clear (turned p)) (map turned l)
    each [] a = tt
    each (q ∷ l) a = (record { on_core = a.0.of_task; of_task = a.0.on_core }, each l a.1)

turned_inside : (F : ℕ) (l : List Piece) → Every (λ p. p.start + p.len ≤ F) l → Every (λ p. p.start + p.len ≤ F) (map turned l)
turned_inside F [] u = tt
turned_inside F (p ∷ l) u = (u.0, turned_inside F l u.1)

-- the units of a piece for one task on one core
pub share : ℕ → ℕ → Piece → ℕ
share i j p = put p.core (weight i p) (λ k. 0) j

share_row : (m i : ℕ) (p : Piece) → p.core < m → sum_to m (λ j. share i j p) ≡ weight i p
unfolding share
share_row m i p l = omega (arith, sum_put m p.core (weight i p) (λ k. 0) l, sum_zero m {f = λ k. 0} (λ k b. refl))

row_total : (m i : ℕ) (l : List Piece) → Every (λ p. p.core < m) l → sum_to m (λ j. total (share i j) l) ≡ total (weight i) l
unfolding total
row_total m i [] u = sum_zero m (λ j b. refl)
row_total m i (p ∷ l) u = sum_add m (λ j. share i j p) (λ j. total (share i j) l) ∙ ap₂ ◌+◌ (share_row m i p u.0) (row_total m i l u.1)

-- the units of one task at most are a piece's
weight_sum : (n : ℕ) (p : Piece) → sum_to n (λ i. weight i p) ≤ p.len
weight_sum n p =
    elim (dec_lt p.task n) [
      | yes l ↦ omega (arith, sum_cong n {f = λ i. weight i p} {g = put p.task p.len (λ k. 0)} same, sum_put n p.task p.len (λ k. 0) l, sum_zero n {f = λ k. 0} (λ k b. refl))
      | no g ↦ omega (arith, sum_cong n {f = λ i. weight i p} {g = put p.task p.len (λ k. 0)} same, sum_put_past n p.task p.len (λ k. 0) (omega arith), sum_zero n {f = λ k. 0} (λ k b. refl))
    ]
  where
    same : (i : ℕ) → i < n → weight i p ≡ put p.task p.len (λ k. 0) i
    same i l =
        elim (ℕ_discrete p.task i) [
          | yes e ↦ weight_own i p e ∙ sym (rw (eq-eqb i p.task (sym e)) refl)
          | no ne ↦ weight_other i p ne ∙ sym (rw (ne_eqb i p.task (λ e. ne (sym e))) refl)
        ]

share_column : (n j : ℕ) (p : Piece) → sum_to n (λ i. share i j p) ≤ weight j (turned p)
unfolding share
share_column n j p =
    elim (ℕ_discrete j p.core) [
      | yes e ↦
          omega
          (arith, sum_cong n {f = λ i. share i j p} {g = λ i. weight i p} (λ i l. rw (eq-eqb j p.core e) refl), weight_sum n p, weight_own j (turned p) (sym e))
      | no ne ↦ omega (arith, sum_zero n {f = λ i. share i j p} (λ i l. rw (ne_eqb j p.core ne) refl))
    ]

column_total : (n j : ℕ) (l : List Piece) → sum_to n (λ i. total (share i j) l) ≤ total (weight j) (map turned l)
unfolding total
column_total n j [] = omega (arith, sum_zero n {f = λ i. total (share i j) []} (λ i b. refl))
column_total n j (p ∷ l) = omega (arith, sum_add n (λ i. share i j p) (λ i. total (share i j) l), share_column n j p, column_total n j l)

-- at an instant a task has at most one unit
covered_small : (i e : ℕ) (l : List Piece) → covered i e l ≤ 1
unfolding covered
covered_small i e [] = omega arith
covered_small i e (p ∷ l) = step (covers i e p) (covered_small i e l)
  where
    step : (b : Bool) → covered i e l ≤ 1 → (elim b as (λ c. ℕ) [ true ↦ 1 | false ↦ covered i e l ]) ≤ 1
    step true h = omega arith
    step false h = h

frame_most : (F i : ℕ) (l : List Piece) → units F l i F ≤ F
frame_most F i l = sum_count F (unit F l i) (λ e b. covered_small i (e % F) l)

five : (a b c d e : Bool) → (a && b && c && d && e) ≡ true → (b ≡ true) × (d ≡ true) × (e ≡ true)
five true true true true true h = (refl, refl, refl)
five true true true true false h = absurd (false≢true h)
five true true true false e h = absurd (false≢true h)
five true true false d e h = absurd (false≢true h)
five true false c d e h = absurd (false≢true h)
five false b c d e h = absurd (false≢true h)

four : (a b c d : Bool) → (a && b && c && d) ≡ true → (a ≡ true) × (d ≡ true)
four true true true true h = (refl, refl)
four true true true false h = absurd (false≢true h)
four true true false d h = absurd (false≢true h)
four true false c d h = absurd (false≢true h)
four false b c d h = absurd (false≢true h)

sound_core : (F m : ℕ) (p : Piece) → sound F m p ≡ true → p.core < m
unfolding sound
sound_core F m p e = ltb-true _ _ (four (ltb p.core m) (ltb p.task 64) (leb 1 p.len) (leb (p.start + p.len) F) e).0

sound_end : (F m : ℕ) (p : Piece) → sound F m p ≡ true → p.start + p.len ≤ F
unfolding sound
sound_end F m p e = leb-true _ _ (four (ltb p.core m) (ltb p.task 64) (leb 1 p.len) (leb (p.start + p.len) F) e).1

-- where the mask has no core, the pieces have no units
outside_none : (n : ℕ) (mask : ℕ → ℕ) (i j : ℕ) → has (mask i) j ≡ 0 → (p : Piece) → allowed n mask p ≡ true → share i j p ≡ 0
unfolding share allowed
outside_none n mask i j z p e =
    elim (ℕ_discrete j p.core) [
      | yes c ↦
          rw (eq-eqb j p.core c)
          (weight_other i p
          (λ t. wrong z (subst (λ (k : ℕ). has (mask k) j ≡ 1) t (subst (λ (k : ℕ). has (mask p.task) k ≡ 1) (sym c) (eqb-true _ _ (and_right (ltb p.task n) (eqb (has (mask p.task) p.core) 1) e))))))
      | no ne ↦ rw (ne_eqb j p.core ne) refl
    ]
  where
    wrong : {a : ℕ} → a ≡ 0 → a ≡ 1 → ⊥
    wrong p q = omega arith

total_none : (f : Piece → ℕ) (l : List Piece) → Every (λ p. f p ≡ 0) l → total f l ≡ 0
unfolding total
total_none f [] u = refl
total_none f (p ∷ l) u = ap₂ ◌+◌ u.0 (total_none f l u.1)

module _ (F n m : ℕ) (budget mask : ℕ → ℕ) (ps : List Piece) (o : Obeys F n m budget mask ps) where
  parts : (every (sound F m) ps ≡ true) × (every_two core_apart ps ≡ true) × (every_two task_apart ps ≡ true)
  unfolding frame_pieces
  parts = five (leb (length ps) 95) (every (sound F m) ps) (every_two ordered ps) (every_two core_apart ps) (every_two task_apart ps) o.table

  sounds : Every (λ p. sound F m p ≡ true) ps
  sounds = every_reads (sound F m) ps parts.0

  clear : Pairs Clear ps
  clear = pairs_join core_apart task_apart Clear clear_reads ps (pairs_read core_apart ps parts.1) (pairs_read task_apart ps parts.2)

  ends : Every (λ p. p.start + p.len ≤ F) ps
  ends = every_map (λ p. sound F m p ≡ true) (λ p. p.start + p.len ≤ F) ps (sound_end F m) sounds

  -- the units of the pieces of task i on core j
  abbrev given : ℕ → ℕ → ℕ
  given i j = total (share i j) ps

  pub table_is_allocation : Allocation n m (limit_of F) budget mask given
  table_is_allocation =
      record {
        inside = λ i l j b z. total_none (share i j) ps (every_map (λ p. allowed n mask p ≡ true) (λ p. share i j p ≡ 0) ps (outside_none n mask i j z) (every_reads (allowed n mask) ps o.on_mask));
        exact = λ i l.
            row_total m i ps (every_map (λ p. sound F m p ≡ true) (λ p. p.core < m) ps (sound_core F m) sounds) ∙
            sym (units_are_weight i F ps ends clear) ∙ o.exact i l;
        within = λ j l.
            omega
            (arith, column_total n j ps, units_are_weight j F (map turned ps) (turned_inside F ps ends) (turned_clear ps clear), frame_most F j (map turned ps));
      }
