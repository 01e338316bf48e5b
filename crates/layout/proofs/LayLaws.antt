-- Laws for `lay_task`, `lay_core` and `lay_cores` of `laying`: the pieces of a core, task by task, and of all cores.
-- Assumes nothing.
use mathlib.Core.Path.{◌≡◌, refl, sym, ◌∙◌, ap, ap₂}
use mathlib.Core.List.{List, ◌++◌, append_assoc}
use Prim.Native.Nat.{ℕ, zero, suc, ◌+◌, ◌*◌, ◌%◌, ◌≤◌, ◌<◌}
use native.Mathlib.Nat.{le_refl, le_trans, mod-lt}
use native.Mathlib.Numerals.{add-one}
use native.Mathlib.Omega.{arith}
use lib.ListN.{length, drop, length-append}
use lib.Seq.{drop-drop}
use Rattle.rules.specs.Sizes.{max_frame}
use Rattle.rules.specs.Sum.{positive}
use Rattle.rules.specs.Piece.{Piece, numbers_of}
use Rattle.rules.specs.Layout.{ahead, stretch}
use Rattle.rules.specs.Table.{cut, insert_all, pieces_on, core_to, cores_to}
use Rattle.sums.proofs.Sum.{sum_term, sum_mono}
use Rattle.stretches.specs.Cell.{cell}
use Rattle.layout.specs.Pieces.{Room, alone, task_pieces, core_pieces, core_of, cores_pieces, Inserts, Appends, OnCore, OnCores}
use Rattle.layout.specs.Ahead.{number_of}
use Rattle.layout.specs.Walking.{walk_of}
use Rattle.layout.specs.declared.laying.Core.{Core}
use Rattle.layout.specs.declared.walking.Walked.{Walked}
use Rattle.stretches.proofs.Cuts.{pieces_none, pieces_some}
use Rattle.stretches.proofs.Lengths.{length_insert_all, length_core, crosses, part_at_most}
use Rattle.stretches.proofs.Numbers.{numbers_append}

module _ (F n m : ℕ) (units : List ℕ) (on : Core) (g : OnCore F n m units on) where
  pub task_none : (count task : ℕ) (l : List ℕ) → cell units task on.core ≡ 0
      → (count ≡ count + length (task_pieces F n units on task)) × Inserts on.from count (task_pieces F n units on task) l l
  unfolding insert_all
  task_none count task l e =
      rw (pieces_none F n n (cell units) (alone on.begin.at (number_of on.begin.first)) on.core task e) (omega arith, λ a b rest la lb d. d)

  stretch_alone : (task a : ℕ) → a ≡ ahead (number_of on.begin.first) (λ i. cell units i on.core) task → stretch n n (cell units) (alone on.begin.at (number_of on.begin.first)) task on.core ≡ on.begin.at + a
  unfolding stretch
  stretch_alone task a e = ap (λ (k : ℕ). on.begin.at + k) (sym e)

  task_is : (task a : ℕ) → (cell units task on.core ≡ 0 → ⊥) → a ≡ ahead (number_of on.begin.first) (λ i. cell units i on.core) task
      → task_pieces F n units on task ≡ cut F on.core task ((on.begin.at + a) % F) (cell units task on.core)
  task_is task a ne e = pieces_some F n n (cell units) (alone on.begin.at (number_of on.begin.first)) on.core task (omega arith) ∙ ap (λ (s : ℕ). cut F on.core task (s % F) (cell units task on.core)) (stretch_alone task a e)

  pub task_some : (count task a r : ℕ) (l u : List ℕ) → (cell units task on.core ≡ 0 → ⊥) → a ≡ ahead (number_of on.begin.first) (λ i. cell units i on.core) task
      → (r ≡ count + length (cut F on.core task ((on.begin.at + a) % F) (cell units task on.core))) × Inserts on.from count (cut F on.core task ((on.begin.at + a) % F) (cell units task on.core)) l u
      → (r ≡ count + length (task_pieces F n units on task)) × Inserts on.from count (task_pieces F n units on task) l u
  task_some count task a r l u ne e h = rw (task_is task a ne e) h

  pub stretch_asked : (count task a room : ℕ) → task < n → on.from ≤ count → (cell units task on.core ≡ 0 → ⊥) → a ≡ ahead (number_of on.begin.first) (λ i. cell units i on.core) task
      → Room (count + length (task_pieces F n units on task)) room
      → (on.from ≤ count) × ((on.begin.at + a) % F < F) × (F ≤ max_frame) × (cell units task on.core ≤ F) × Room (count + length (cut F on.core task ((on.begin.at + a) % F) (cell units task on.core))) room
  stretch_asked count task a room l h ne e r =
      (h, mod-lt (on.begin.at + a) g.frame_some, g.frame_most, le_trans (sum_term n task (λ i. cell units i on.core) l) g.column, rw (sym (task_is task a ne e)) r)

module _ (F n : ℕ) (units : List ℕ) (on : Core) where
  -- the tasks below t are laid
  pub record LaidTo (before : List ℕ) (t count : ℕ) (after : List ℕ) : Type 0 where
    pub counted : count ≡ on.from + length (core_pieces F n units on t)
    pub laid : Appends on.from (core_pieces F n units on t) before after
    pub long : length after ≡ length before

  pub laid_begin : (l : List ℕ) → LaidTo l 0 on.from l
  unfolding core_to
  laid_begin l = record { counted = omega arith; laid = λ a rest la e. e; long = refl }

  length_next : (t : ℕ) → length (core_pieces F n units on (suc t)) ≡ length (task_pieces F n units on t) + length (core_pieces F n units on t)
  unfolding core_to
  length_next t = length_insert_all (task_pieces F n units on t) (core_pieces F n units on t)

  four_next : (t : ℕ)
      → 4 * length (core_pieces F n units on t) + 4 * length (task_pieces F n units on t) ≡ 4 * length (core_pieces F n units on (suc t))
  four_next t = omega (arith, length_next t)

  length_up : (t c : ℕ) → t ≤ c → length (core_pieces F n units on t) ≤ length (core_pieces F n units on c)
  length_up t c l =
      omega (
        arith,
        length_core F n n (cell units) (alone on.begin.at (number_of on.begin.first)) on.core t,
        length_core F n n (cell units) (alone on.begin.at (number_of on.begin.first)) on.core c,
        sum_mono t c (λ i. positive (cell units i on.core)) l,
        sum_mono t c (crosses F n n (cell units) (alone on.begin.at (number_of on.begin.first)) on.core) l,
      )

  pub laid_more : (l u v : List ℕ) (t count r : ℕ) → LaidTo l t count u
      → (r ≡ count + length (task_pieces F n units on t)) × Inserts on.from count (task_pieces F n units on t) u v → length v ≡ length u → LaidTo l (t + 1) r v
  unfolding core_to
  laid_more l u v t count r h k e =
      record {
        counted = rw (add-one t) (k.0 ∙ omega (arith, h.counted, length_next t));
        laid =
            λ a rest la d.
            rw (add-one t)
            (k.1 a (core_pieces F n units on t) (drop (4 * length (core_pieces F n units on t)) rest) la (omega (arith, h.counted)) (h.laid a rest la d)
            ∙ ap (λ (s : List ℕ). numbers_of a ++ (numbers_of (insert_all (task_pieces F n units on t) (core_pieces F n units on t)) ++ s))
            (drop-drop (4 * length (task_pieces F n units on t)) (4 * length (core_pieces F n units on t)) rest
            ∙ ap (λ (i : ℕ). drop i rest) (four_next t)));
        long = e ∙ h.long;
      }

  pub laid_asks : (m : ℕ) (l u : List ℕ) (t count : ℕ) → OnCore F n m units on → Room (on.from + length (core_pieces F n units on n)) (length l) → t < n → LaidTo l t count u
      → OnCore F n m units on × (t < n) × (on.from ≤ count) × Room (count + length (task_pieces F n units on t)) (length u)
  laid_asks m l u t count g room s h = (
    g,
    s,
    omega (arith, h.counted),
    record { few = omega (arith, room.few, h.counted, length_next t, length_up (suc t) n s); room_for = omega (arith, room.room_for, h.counted, h.long, length_next t, length_up (suc t) n s) },
  )

-- of a walk only the core's start and first task count
core_alone : (F n m : ℕ) (units : List ℕ) (s : Walked) (j from c : ℕ) → core_to F n m (cell units) (walk_of s) j c ≡ core_pieces F n units (core_of s j from) c
unfolding core_to pieces_on stretch
core_alone F n m units s j from zero = refl
core_alone F n m units s j from (suc c) = ap (insert_all (pieces_on F n m (cell units) (walk_of s) j c)) (core_alone F n m units s j from c)

module _ (F n m : ℕ) (units : List ℕ) (s : Walked) where
  -- the cores below j are laid
  pub record CoresTo (before : List ℕ) (j count : ℕ) (after : List ℕ) : Type 0 where
    pub counted : count ≡ length (cores_pieces F n m units s j)
    pub laid : after ≡ numbers_of (cores_pieces F n m units s j) ++ drop (4 * count) before
    pub long : length after ≡ length before

  pub cores_begin : (l : List ℕ) → CoresTo l 0 0 l
  unfolding cores_to
  cores_begin l = record { counted = refl; laid = refl; long = refl }

  cores_length_next : (j count : ℕ) → length (cores_pieces F n m units s (suc j)) ≡ length (cores_pieces F n m units s j) + length (core_pieces F n units (core_of s j count) n)
  unfolding cores_to
  cores_length_next j count =
      length-append (cores_pieces F n m units s j) (core_to F n m (cell units) (walk_of s) j n)
      ∙ ap (λ (l : List Piece). length (cores_pieces F n m units s j) + length l) (core_alone F n m units s j count n)

  pub cores_more : (l u v : List ℕ) (j count r : ℕ) → CoresTo l j count u
      → (r ≡ count + length (core_pieces F n units (core_of s j count) n)) × Appends count (core_pieces F n units (core_of s j count) n) u v → length v ≡ length u
      → CoresTo l (j + 1) r v
  unfolding cores_to
  cores_more l u v j count r h k e =
      record {
        counted = rw (add-one j) (k.0 ∙ omega (arith, h.counted, cores_length_next j count));
        laid =
            rw (add-one j)
            (k.1 (cores_pieces F n m units s j) (drop (4 * count) l) (sym h.counted) h.laid
            ∙ sym (append_assoc (numbers_of (cores_pieces F n m units s j)) (numbers_of (core_pieces F n units (core_of s j count) n)) _)
            ∙ ap₂ ◌++◌
            (sym (numbers_append (cores_pieces F n m units s j) (core_pieces F n units (core_of s j count) n))
            ∙ ap (λ (ps : List Piece). numbers_of (cores_pieces F n m units s j ++ ps)) (sym (core_alone F n m units s j count n)))
            (drop-drop (4 * length (core_pieces F n units (core_of s j count) n)) (4 * count) l ∙ ap (λ (i : ℕ). drop i l) four));
        long = e ∙ h.long;
      }
    where
      four : 4 * count + 4 * length (core_pieces F n units (core_of s j count) n) ≡ 4 * r
      four = omega (arith, k.0)

  pub cores_asks : (l u : List ℕ) (j count : ℕ) → OnCores F n m units s (length l) → j < m → CoresTo l j count u
      → OnCore F n m units (core_of s j count)
      × Room (count + length (core_pieces F n units (core_of s j count) n)) (length u)
  cores_asks l u j count g jm h = (
    record { frame_some = g.frame_some; frame_most = g.frame_most; core_few = jm; start_few = g.starts j; first_few = g.firsts j; column = g.columns j jm },
    record { few = omega (arith, h.counted, up, g.room.few); room_for = omega (arith, h.counted, h.long, up, g.room.room_for) },
  )
    where
      up : length (cores_pieces F n m units s j) + length (core_pieces F n units (core_of s j count) n) ≤ length (cores_pieces F n m units s m)
      up =
          rw (sym (core_alone F n m units s j count n))
          (part_at_most F n m (cell units) (walk_of s) g.frame_some g.columns g.firsts j jm n (le_refl _))
