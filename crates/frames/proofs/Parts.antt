-- Each piece of the table is a part of its task's stretch on its core, and two pieces of one core or of one task are apart.
-- Assumes nothing.
use mathlib.Core.Path.{◌≡◌, refl, sym, ◌∙◌, ap}
use mathlib.Core.List.{List, [], ◌∷◌}
use mathlib.Core.Logic.{◌⊎◌, inl, inr, ⊎_elim}
use Prim.Native.Nat.{ℕ, zero, suc, ◌+◌, ◌*◌, ◌/◌, ◌%◌, ◌≤◌, ◌<◌}
use native.Mathlib.Nat.{le_refl, div-add-mod', mod-lt, suc-mul}
use native.Mathlib.Decide.{ℕ_discrete, dec_lt, dec_le}
use native.Mathlib.Omega.{arith}
use Rattle.rules.specs.Sum.{sum_to}
use Rattle.rules.specs.Piece.{Piece}
use Rattle.rules.specs.Layout.{Walk, ahead, stretch}
use Rattle.rules.specs.Table.{cut, pieces_on, core_to, cores_to}
use Rattle.sums.proofs.Sum.{sum_term}
use Rattle.sums.proofs.Order.{zero_of}
use Rattle.frames.proofs.ReachedOnce.{Laid}
use Rattle.stretches.proofs.Ahead.{ahead_first, ahead_ends, ahead_apart, apart_in_frame}
use Rattle.stretches.proofs.Readings.{Disjoint}
use Rattle.stretches.proofs.Cuts.{cut_fits, cut_crosses, pieces_none, pieces_some}
use Rattle.stretches.proofs.PieceLists.{Every, Pairs, NoLater, every_append, every_insert_all, every_map, pairs_append, pairs_insert_all, pairs_map, sorted_insert_all}

-- apart where they share a core or a task
pub record Clear (a b : Piece) : Type 0 where
  pub on_core : a.core ≡ b.core → Disjoint a b
  pub of_task : a.task ≡ b.task → Disjoint a b

-- in order of core and then start
pub record InOrder (a b : Piece) : Type 0 where
  pub order : (a.core < b.core) ⊎ ((a.core ≡ b.core) × (a.start ≤ b.start))

-- apart and in order
abbrev pub Both : Piece → Piece → Type 0
Both a b = Clear a b × InOrder a b

pub away_turn : (a b : Piece) → Disjoint a b → Disjoint b a
away_turn a b w = ⊎_elim inr inl w

pub clear_turn : (a b : Piece) → Clear a b → Clear b a
clear_turn a b c = record { on_core = λ e. away_turn a b (c.on_core (sym e)); of_task = λ e. away_turn a b (c.of_task (sym e)) }

module _ (n m : ℕ) (x : ℕ → ℕ → ℕ) (w : Walk) where
  -- a task starts each core that was reached through it
  starts_core : (t c : ℕ) → w.first c ≡ suc t → stretch n m x w t c ≡ w.start c
  unfolding stretch
  starts_core t c e = rw e (omega (arith, ahead_first t (λ i. x i c) t refl))

  -- the two readings of where task t starts on core c: from its core, and from the core where the task was met
  pub one_equation : (t : ℕ) (l : Laid n m x w t) (c : ℕ) → c < m → 0 < x t c
      → stretch n m x w t c ≡ stretch n m x w t l.met_on + ahead (suc l.met_on) (x t) c
  one_equation t l c cm h =
      elim (ℕ_discrete c l.met_on) [
        | yes e ↦ ap (stretch n m x w t) e ∙ omega (arith, ahead_first l.met_on (x t) c e)
        | no ne ↦ other (l.others c cm h ne)
      ]
    where
      other : (0 < w.reached c) × (w.first c ≡ suc t) × (w.start c ≡ stretch n m x w t l.met_on + ahead (suc l.met_on) (x t) c)
          → stretch n m x w t c ≡ stretch n m x w t l.met_on + ahead (suc l.met_on) (x t) c
      other o = starts_core t c o.1 ∙ o.2

module _ (F n m : ℕ) (x : ℕ → ℕ → ℕ) (w : Walk) where
  -- a piece lies in the stretch of its task on its core, some whole frames earlier
  pub record Part (p : Piece) : Type 0 where
    pub core : p.core < m
    pub task : p.task < n
    pub runs : 0 < x p.task p.core
    pub some : 0 < p.len
    pub inside : p.start + p.len ≤ F
    pub frames : ℕ
    pub from : stretch n m x w p.task p.core ≤ p.start + frames * F
    pub to : p.start + frames * F + p.len ≤ stretch n m x w p.task p.core + x p.task p.core

  module _ (frame : 0 < F) (rows : (t : ℕ) → t < n → sum_to m (x t) ≤ F) (cols : (j : ℕ) → j < m → sum_to n (λ i. x i j) ≤ F)
      (firsts : (k : ℕ) → w.first k ≤ n) (laid : (t : ℕ) → t < n → (j : ℕ) → j < m → 0 < x t j → Laid n m x w t) where
    -- what is known of the pieces of a task on a core
    abbrev pub PartOn : ℕ → ℕ → Piece → Type 0
    PartOn j t p = Part p × (p.core ≡ j) × (p.task ≡ t)

    cut_parts : (j t : ℕ) → j < m → t < n → 0 < x t j → Every (PartOn j t) (cut F j t (stretch n m x w t j % F) (x t j))
    cut_parts j t jm tn h =
        elim (dec_le (stretch n m x w t j % F + x t j) F) [
          | yes l ↦
              rw (cut_fits F j t (stretch n m x w t j % F) (x t j) l)
              ((record { core = jm; task = tn; runs = h; some = h; inside = l; frames = stretch n m x w t j / F; from = omega (arith, div-add-mod' (stretch n m x w t j) F); to = omega (arith, div-add-mod' (stretch n m x w t j) F) }, refl, refl), tt)
          | no g ↦
              rw (cut_crosses F j t (stretch n m x w t j % F) (x t j) (omega arith)) (
                (record { core = jm; task = tn; runs = h; some = omega (arith, mod-lt (stretch n m x w t j) frame); inside = omega (arith, mod-lt (stretch n m x w t j) frame); frames = stretch n m x w t j / F; from = omega (arith, div-add-mod' (stretch n m x w t j) F); to = omega (arith, div-add-mod' (stretch n m x w t j) F) }, refl, refl),
                ((record { core = jm; task = tn; runs = h; some = omega arith; inside = omega (arith, mod-lt (stretch n m x w t j) frame, sum_term n t (λ i. x i j) tn, cols j jm); frames = suc (stretch n m x w t j / F); from = omega (arith, div-add-mod' (stretch n m x w t j) F, suc-mul (stretch n m x w t j / F) F, mod-lt (stretch n m x w t j) frame); to = omega (arith, div-add-mod' (stretch n m x w t j) F, suc-mul (stretch n m x w t j / F) F, mod-lt (stretch n m x w t j) frame) }, refl, refl), tt),
              )
        ]

    -- the two pieces of a stretch that crosses the end
    cut_clear : (j t : ℕ) → j < m → t < n → 0 < x t j → Pairs Clear (cut F j t (stretch n m x w t j % F) (x t j))
    cut_clear j t jm tn h =
        elim (dec_le (stretch n m x w t j % F + x t j) F) [
          | yes l ↦ rw (cut_fits F j t (stretch n m x w t j % F) (x t j) l) (tt, tt)
          | no g ↦
              rw (cut_crosses F j t (stretch n m x w t j % F) (x t j) (omega arith))
              ((record { on_core = λ e. inr (omega (arith, mod-lt (stretch n m x w t j) frame, sum_term n t (λ i. x i j) tn, cols j jm)); of_task = λ e. inr (omega (arith, mod-lt (stretch n m x w t j) frame, sum_term n t (λ i. x i j) tn, cols j jm)) }, tt), (tt, tt))
        ]

    pub pieces_parts : (j t : ℕ) → j < m → t < n → Every (PartOn j t) (pieces_on F n m x w j t)
    pieces_parts j t jm tn =
        elim (dec_lt 0 (x t j)) [
          | yes h ↦ rw (pieces_some F n m x w j t h) (cut_parts j t jm tn h)
          | no z ↦ rw (pieces_none F n m x w j t (zero_of z)) tt
        ]

    pub pieces_clear : (j t : ℕ) → j < m → t < n → Pairs Clear (pieces_on F n m x w j t)
    pieces_clear j t jm tn =
        elim (dec_lt 0 (x t j)) [
          | yes h ↦ rw (pieces_some F n m x w j t h) (cut_clear j t jm tn h)
          | no z ↦ rw (pieces_none F n m x w j t (zero_of z)) tt
        ]

    -- on a core, in the window of one frame from its start on
    core_window : (t j : ℕ) → t < n → j < m → (w.start j ≤ stretch n m x w t j) × (stretch n m x w t j + x t j ≤ w.start j + F)
    unfolding stretch
    core_window t j tn jm = (omega arith, omega (arith, ahead_ends n (w.first j) (λ i. x i j) t (firsts j) tn, cols j jm))

    cores_apart : (t u j : ℕ) → (t ≡ u → ⊥) → (stretch n m x w t j + x t j ≤ stretch n m x w u j) ⊎ (stretch n m x w u j + x u j ≤ stretch n m x w t j)
    unfolding stretch
    cores_apart t u j ne =
        ⊎_elim (λ l. inl (omega arith)) (λ l. inr (omega arith)) (ahead_apart (w.first j) (λ i. x i j) t u ne)

    -- of a task, in the window of one frame from where it was met
    task_window : (t j : ℕ) (tn : t < n) (jm : j < m) (l : Laid n m x w t) → 0 < x t j
        → (stretch n m x w t l.met_on ≤ stretch n m x w t j) × (stretch n m x w t j + x t j ≤ stretch n m x w t l.met_on + F)
    task_window t j tn jm l h = (
      omega (arith, one_equation n m x w t l j jm h),
      omega (arith, one_equation n m x w t l j jm h, ahead_ends m (suc l.met_on) (x t) j l.below jm, rows t tn),
    )

    tasks_apart : (t i j : ℕ) (l : Laid n m x w t) → i < m → j < m → 0 < x t i → 0 < x t j → (i ≡ j → ⊥)
        → (stretch n m x w t i + x t i ≤ stretch n m x w t j) ⊎ (stretch n m x w t j + x t j ≤ stretch n m x w t i)
    tasks_apart t i j l im jm h k ne =
        ⊎_elim (λ a. inl (omega (arith, one_equation n m x w t l i im h, one_equation n m x w t l j jm k)))
        (λ a. inr (omega (arith, one_equation n m x w t l i im h, one_equation n m x w t l j jm k)))
        (ahead_apart (suc l.met_on) (x t) i j ne)

    pub parts_clear : (p q : Piece) → Part p → Part q → (p.core ≡ q.core → p.task ≡ q.task → ⊥) → Clear p q
    parts_clear p q a b ne =
        record {
          on_core =
              λ e.
              apart_in_frame F (w.start p.core) (stretch n m x w p.task p.core) (x p.task p.core) (stretch n m x w q.task p.core) (x q.task p.core) p.start p.len a.frames q.start q.len b.frames
              (core_window p.task p.core a.task a.core).0 (core_window p.task p.core a.task a.core).1
              (core_window q.task p.core b.task a.core).0 (core_window q.task p.core b.task a.core).1
              (cores_apart p.task q.task p.core (ne e)) a.from a.to (rw e b.from) (rw e b.to);
          of_task =
              λ e.
              let l = laid p.task a.task p.core a.core a.runs in
              let runs : 0 < x p.task q.core = rw e b.runs in
              apart_in_frame F (stretch n m x w p.task l.met_on) (stretch n m x w p.task p.core) (x p.task p.core) (stretch n m x w p.task q.core) (x p.task q.core) p.start p.len a.frames q.start q.len b.frames
              (task_window p.task p.core a.task a.core l a.runs).0 (task_window p.task p.core a.task a.core l a.runs).1
              (task_window p.task q.core a.task b.core l runs).0 (task_window p.task q.core a.task b.core l runs).1
              (tasks_apart p.task p.core q.core l a.core b.core a.runs runs (λ d. ne d e)) a.from a.to (rw e b.from) (rw e b.to);
        }

    abbrev pub PartTo : ℕ → ℕ → Piece → Type 0
    PartTo j c p = Part p × (p.core ≡ j) × (p.task < c)

    part_to : (j c : ℕ) (p : Piece) → PartOn j c p → PartTo j (suc c) p
    part_to j c p h = (h.0, h.1, omega (arith, h.2))

    core_parts : (j c : ℕ) → j < m → c ≤ n → Every (PartTo j c) (core_to F n m x w j c)
    unfolding core_to
    core_parts j zero jm l = tt
    core_parts j (suc c) jm l =
        every_insert_all (PartTo j (suc c)) (pieces_on F n m x w j c) (core_to F n m x w j c)
        (every_map (PartOn j c) (PartTo j (suc c)) (pieces_on F n m x w j c) (part_to j c) (pieces_parts j c jm l))
        (every_map (PartTo j c) (PartTo j (suc c)) (core_to F n m x w j c) (λ p h. (h.0, h.1, omega (arith, h.2))) (core_parts j c jm (omega arith)))

    core_clear : (j c : ℕ) → j < m → c ≤ n → Pairs Clear (core_to F n m x w j c)
    unfolding core_to
    core_clear j zero jm l = tt
    core_clear j (suc c) jm l =
        pairs_insert_all Clear clear_turn (pieces_on F n m x w j c) (core_to F n m x w j c) (pieces_clear j c jm l)
        (every_map (PartOn j c) (λ p. Every (Clear p) (core_to F n m x w j c)) (pieces_on F n m x w j c)
        (λ p h. every_map (PartTo j c) (Clear p) (core_to F n m x w j c) (λ q k. parts_clear p q h.0 k.0 (λ e d. omega (arith, h.2, k.2))) (core_parts j c jm (omega arith)))
        (pieces_parts j c jm l))
        (core_clear j c jm (omega arith))

    core_sorted : (j c : ℕ) → Pairs NoLater (core_to F n m x w j c)
    unfolding core_to
    core_sorted j zero = tt
    core_sorted j (suc c) = sorted_insert_all (pieces_on F n m x w j c) (core_to F n m x w j c) (core_sorted j c)

    abbrev pub PartBelow : ℕ → Piece → Type 0
    PartBelow c p = Part p × (p.core < c)

    pub cores_parts : (c : ℕ) → c ≤ m → Every (PartBelow c) (cores_to F n m x w c)
    unfolding cores_to
    cores_parts zero l = tt
    cores_parts (suc c) l =
        every_append (PartBelow (suc c)) (cores_to F n m x w c) (core_to F n m x w c n)
        (every_map (PartBelow c) (PartBelow (suc c)) (cores_to F n m x w c) (λ p h. (h.0, omega (arith, h.1))) (cores_parts c (omega arith)))
        (every_map (PartTo c n) (PartBelow (suc c)) (core_to F n m x w c n) (λ p h. (h.0, omega (arith, h.1))) (core_parts c n l (le_refl _)))

    pub cores_both : (c : ℕ) → c ≤ m → Pairs Both (cores_to F n m x w c)
    unfolding cores_to
    cores_both zero l = tt
    cores_both (suc c) l =
        pairs_append Both (cores_to F n m x w c) (core_to F n m x w c n) (cores_both c (omega arith))
        (pairs_both (core_to F n m x w c n)
        (core_clear c n l (le_refl _))
        (pairs_map (PartTo c n) NoLater InOrder (core_to F n m x w c n) (λ a b h k s. record { order = inr (h.1 ∙ sym k.1, s) }) (core_parts c n l (le_refl _)) (core_sorted c n)))
        (every_map (PartBelow c) (λ p. Every (Both p) (core_to F n m x w c n)) (cores_to F n m x w c)
        (λ p h. every_map (PartTo c n) (Both p) (core_to F n m x w c n) (λ q k. (parts_clear p q h.0 k.0 (λ e d. omega (arith, h.1, k.1)), record { order = inl (omega (arith, h.1, k.1)) })) (core_parts c n l (le_refl _)))
        (cores_parts c (omega arith)))
      where
        each_both : (a : Piece) (l : List Piece) → Every (Clear a) l → Every (InOrder a) l → Every (Both a) l
        each_both a [] u v = tt
        each_both a (b ∷ l) u v = ((u.0, v.0), each_both a l u.1 v.1)

        pairs_both : (l : List Piece) → Pairs Clear l → Pairs InOrder l → Pairs Both l
        pairs_both [] u v = tt
        pairs_both (a ∷ l) u v = (each_both a l u.0 v.0, pairs_both l u.1 v.1)
