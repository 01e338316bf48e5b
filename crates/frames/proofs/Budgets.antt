-- Pieces of one task that are apart cover as many instants of a frame as they are long together, and the pieces of a table are as long as
-- the allocation says: each task has its units exactly.
-- Assumes nothing.
use mathlib.Core.Path.{◌≡◌, refl, sym, ◌∙◌, ap, ap₂}
use mathlib.Core.Bool.{Bool, true, false, cond, ◌&&◌}
use mathlib.Core.List.{List, [], ◌∷◌}
use mathlib.Core.Logic.{⊎_elim}
use Prim.Native.Nat.{ℕ, zero, suc, ◌+◌, ◌-◌, ◌%◌, ◌≤◌, ◌<◌, min}
use native.Mathlib.Nat.{not-suc-le-zero, mod-eq_of_lt, mod-lt}
use native.Mathlib.Decide.{ℕ_discrete, dec_lt, dec_le}
use native.Mathlib.Omega.{arith}
use lib.Dec.{eqb, leb, ltb}
use borrow.Author.Tests.{eq-eqb, ne_eqb, lt-ltb, le-ltb, le-leb, lt-leb}
use Rattle.rules.specs.Sum.{sum_to}
use Rattle.rules.specs.Piece.{Piece}
use Rattle.rules.specs.Layout.{Walk, stretch}
use Rattle.rules.specs.Table.{cut, pieces_on, core_to, cores_to}
use Rattle.rules.specs.Service.{covers, covered, unit, units}
use Rattle.sums.proofs.Sum.{sum_cong, sum_zero, sum_add}
use Rattle.sums.proofs.Order.{zero_of}
use Rattle.stretches.proofs.PieceLists.{Every, Pairs, total, total_append, total_insert_all}
use Rattle.frames.proofs.Parts.{Clear}
use Rattle.stretches.proofs.Cuts.{cut_fits, cut_crosses, pieces_none, pieces_some}

-- 1 at the instants from s up to s + l
unfoldable pub within : ℕ → ℕ → ℕ → ℕ
within s l e = cond (leb s e && ltb e (s + l)) 1 0

within_yes : (s l e : ℕ) → s ≤ e → e < s + l → within s l e ≡ 1
unfolding within
within_yes s l e a b = rw (le-leb s e a, lt-ltb e (s + l) b)

within_before : (s l e : ℕ) → e < s → within s l e ≡ 0
unfolding within
within_before s l e a = rw (lt-leb s e a)

within_after : (s l e : ℕ) → s + l ≤ e → within s l e ≡ 0
unfolding within
within_after s l e a = rw (le-leb s e (omega arith), le-ltb e (s + l) a)

count_within : (s l k : ℕ) → sum_to k (within s l) ≡ min (k - s) l
unfolding sum_to
count_within s l zero = omega arith
count_within s l (suc k) =
    elim (dec_lt k s) [
      | yes a ↦ omega (arith, count_within s l k, within_before s l k a)
      | no b ↦
          elim (dec_lt k (s + l)) [
            | yes a ↦ omega (arith, count_within s l k, within_yes s l k (omega arith) a)
            | no c ↦ omega (arith, count_within s l k, within_after s l k (omega arith))
          ]
    ]

module _ (i : ℕ) where
  -- 1 if the piece is one of the task's and covers the instant
  abbrev hit : Piece → ℕ → ℕ
  hit p e = cond (covers i e p) 1 0

  -- the units of a piece, if it is one of the task's
  unfoldable pub weight : Piece → ℕ
  weight p = cond (eqb p.task i) p.len 0

  pub weight_own : (p : Piece) → p.task ≡ i → weight p ≡ p.len
  unfolding weight
  weight_own p e = rw (eq-eqb p.task i e)

  pub weight_other : (p : Piece) → (p.task ≡ i → ⊥) → weight p ≡ 0
  unfolding weight
  weight_other p ne = rw (ne_eqb p.task i ne)

  hit_own : (p : Piece) (e : ℕ) → p.task ≡ i → hit p e ≡ within p.start p.len e
  unfolding covers within
  hit_own p e t = rw (eq-eqb p.task i t)

  hit_other : (p : Piece) (e : ℕ) → (p.task ≡ i → ⊥) → hit p e ≡ 0
  unfolding covers
  hit_other p e ne = rw (ne_eqb p.task i ne)

  hits : (F : ℕ) (p : Piece) → p.start + p.len ≤ F → sum_to F (hit p) ≡ weight p
  hits F p h =
      elim (ℕ_discrete p.task i) [
        | yes t ↦ sum_cong F {f = hit p} {g = within p.start p.len} (λ e l. hit_own p e t) ∙ omega (arith, count_within p.start p.len F, weight_own p t)
        | no ne ↦ sum_zero F {f = hit p} (λ e l. hit_other p e ne) ∙ sym (weight_other p ne)
      ]

  -- covers as facts
  covers_facts : (p : Piece) (e : ℕ) → covers i e p ≡ true → (p.task ≡ i) × (p.start ≤ e) × (e < p.start + p.len)
  unfolding covers
  covers_facts p e c =
      elim (ℕ_discrete p.task i) [
        | no ne ↦ absurd (differ (sym (rw (ne_eqb p.task i ne) refl) ∙ c))
        | yes t ↦
            elim (dec_le p.start e) [
              | no g ↦ absurd (differ (sym (rw (eq-eqb p.task i t, lt-leb p.start e (omega arith)) refl) ∙ c))
              | yes l ↦
                  elim (dec_lt e (p.start + p.len)) [
                    | no g ↦ absurd (differ (sym (rw (eq-eqb p.task i t, le-leb p.start e l, le-ltb e (p.start + p.len) (omega arith)) refl) ∙ c))
                    | yes s ↦ (t, l, s)
                  ]
            ]
      ]
    where
      differ : ◌≡◌ {A = Bool} false true → ⊥
      differ e = let z : ◌≡◌ {A = ℕ} 0 1 = cc in omega arith

  by_bool : {P : Type 0} (b : Bool) → (b ≡ true → P) → (b ≡ false → P) → P
  by_bool true f g = f refl
  by_bool false f g = g refl

  -- none of these pieces covers what p covers
  others_none : (p : Piece) (e : ℕ) (l : List Piece) → covers i e p ≡ true → Every (Clear p) l → covered i e l ≡ 0
  unfolding covered
  others_none p e [] c u = refl
  others_none p e (q ∷ l) c u =
      by_bool (covers i e q)
      (λ d.
      let a = covers_facts p e c in
      let b = covers_facts q e d in
      absurd (⊎_elim (λ w. omega (arith, a.1, a.2, b.1, b.2)) (λ w. omega (arith, a.1, a.2, b.1, b.2)) (u.0.of_task (a.0 ∙ sym b.0))))
      (λ d. rw (d, covered) (others_none p e l c u.1))

  covered_more : (p : Piece) (l : List Piece) (e : ℕ) → Every (Clear p) l → covered i e (p ∷ l) ≡ hit p e + covered i e l
  unfolding covered
  covered_more p l e u =
      by_bool (covers i e p)
      (λ c. rw (c, covered) (omega (arith, others_none p e l c u)))
      (λ c. rw (c, covered) (omega arith))

  -- each piece ends within the frame
  abbrev pub Inside : ℕ → Piece → Type 0
  Inside F p = p.start + p.len ≤ F

  covered_sum : (F : ℕ) (l : List Piece) → Every (Inside F) l → Pairs Clear l → sum_to F (λ e. covered i e l) ≡ total weight l
  unfolding total covered
  covered_sum F [] h u = sum_zero F {f = λ e. covered i e []} (λ e b. refl)
  covered_sum F (p ∷ l) h u =
      sum_cong F {f = λ e. covered i e (p ∷ l)} {g = λ e. hit p e + covered i e l} (λ e b. covered_more p l e u.0)
      ∙ sum_add F (hit p) (λ e. covered i e l) ∙ ap₂ ◌+◌ (hits F p h.0) (covered_sum F l h.1 u.1)

  pub units_are_weight : (F : ℕ) (l : List Piece) → Every (Inside F) l → Pairs Clear l → units F l i F ≡ total weight l
  units_are_weight F l h u = sum_cong F {f = unit F l i} {g = λ e. covered i e l} (λ e b. ap (λ (k : ℕ). covered i k l) (mod-eq_of_lt b)) ∙ covered_sum F l h u

  module _ (F n m : ℕ) (x : ℕ → ℕ → ℕ) (w : Walk) (frame : 0 < F) where
    cut_weight : (j t s len : ℕ) → s < F → len ≤ F → t ≡ i → total weight (cut F j t s len) ≡ len
    unfolding total
    cut_weight j t s len h k e =
        elim (dec_le (s + len) F) [
          | yes l ↦ rw (cut_fits F j t s len l) (omega (arith, weight_own (record { core = j; task = t; start = s; len = len }) e))
          | no g ↦
              rw (cut_crosses F j t s len (omega arith))
              (omega (arith, weight_own (record { core = j; task = t; start = s; len = F - s }) e, weight_own (record { core = j; task = t; start = 0; len = (s + len) - F }) e))
        ]

    cut_weightless : (j t s len : ℕ) → (t ≡ i → ⊥) → total weight (cut F j t s len) ≡ 0
    unfolding total
    cut_weightless j t s len ne =
        elim (dec_le (s + len) F) [
          | yes l ↦ rw (cut_fits F j t s len l) (omega (arith, weight_other (record { core = j; task = t; start = s; len = len }) ne))
          | no g ↦
              rw (cut_crosses F j t s len (omega arith))
              (omega (arith, weight_other (record { core = j; task = t; start = s; len = F - s }) ne, weight_other (record { core = j; task = t; start = 0; len = (s + len) - F }) ne))
        ]

    pieces_weight : (j t : ℕ) → x t j ≤ F → t ≡ i → total weight (pieces_on F n m x w j t) ≡ x t j
    unfolding total
    pieces_weight j t h e =
        elim (dec_lt 0 (x t j)) [
          | yes s ↦ rw (pieces_some F n m x w j t s) (cut_weight j t (stretch n m x w t j % F) (x t j) (mod-lt (stretch n m x w t j) frame) h e)
          | no z ↦ rw (pieces_none F n m x w j t (zero_of z)) (sym (zero_of z))
        ]

    pieces_weightless : (j t : ℕ) → (t ≡ i → ⊥) → total weight (pieces_on F n m x w j t) ≡ 0
    unfolding total
    pieces_weightless j t ne =
        elim (dec_lt 0 (x t j)) [
          | yes s ↦ rw (pieces_some F n m x w j t s) (cut_weightless j t (stretch n m x w t j % F) (x t j) ne)
          | no z ↦ rw (pieces_none F n m x w j t (zero_of z))
        ]

    core_weightless : (j c : ℕ) → c ≤ i → total weight (core_to F n m x w j c) ≡ 0
    unfolding total core_to
    core_weightless j zero l = refl
    core_weightless j (suc c) l =
        total_insert_all weight (pieces_on F n m x w j c) (core_to F n m x w j c)
        ∙ omega (arith, pieces_weightless j c (λ e. omega arith), core_weightless j c (omega arith))

    core_weight : (j c : ℕ) → x i j ≤ F → i < c → total weight (core_to F n m x w j c) ≡ x i j
    unfolding total core_to
    core_weight j zero h l = absurd (not-suc-le-zero l)
    core_weight j (suc c) h l =
        total_insert_all weight (pieces_on F n m x w j c) (core_to F n m x w j c)
        ∙ elim (ℕ_discrete c i) [
          | yes e ↦ ap₂ ◌+◌ (pieces_weight j c (rw (ap (λ (v : ℕ). x v j) e) h) e) (core_weightless j c (omega arith)) ∙ omega (arith, ap (λ (v : ℕ). x v j) e)
          | no ne ↦ omega (arith, pieces_weightless j c ne, core_weight j c h (omega arith))
        ]

    pub cores_weight : (c : ℕ) → i < n → ((j : ℕ) → j < c → x i j ≤ F) → total weight (cores_to F n m x w c) ≡ sum_to c (x i)
    unfolding total cores_to sum_to
    cores_weight zero l h = refl
    cores_weight (suc c) l h =
        total_append weight (cores_to F n m x w c) (core_to F n m x w c n)
        ∙ ap₂ ◌+◌ (cores_weight c l (λ j b. h j (omega arith))) (core_weight c n (h c (omega arith)) l)
