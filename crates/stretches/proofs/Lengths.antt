-- How many pieces the cores of a walk have: one for each task on each core, and one more a core, since two stretches of a core cannot both
-- cross the end of a frame.
-- Assumes nothing.
use mathlib.Core.Path.{◌≡◌, refl, sym, ◌∙◌, ap₂}
use mathlib.Core.Bool.{cond}
use mathlib.Core.List.{List}
use mathlib.Core.Logic.{⊎_elim}
use Prim.Native.Nat.{ℕ, zero, suc, ◌+◌, ◌/◌, ◌%◌, ◌≤◌, ◌<◌}
use native.Mathlib.Nat.{le_refl, le_trans, not-suc-le-zero, div-add-mod', mod-lt, suc-mul, mul-le-mul_right}
use native.Mathlib.Decide.{ℕ_discrete, dec_lt, dec_le}
use native.Mathlib.Omega.{arith}
use lib.Dec.{ltb}
use lib.ListN.{length, length-append}
use borrow.Author.Tests.{lt-ltb, le-ltb}
use Rattle.rules.specs.Sum.{sum_to, positive}
use Rattle.rules.specs.Piece.{Piece}
use Rattle.rules.specs.Layout.{Walk, stretch}
use Rattle.rules.specs.Table.{insert_all, pieces_on, core_to, cores_to}
use Rattle.sums.proofs.Sum.{sum_mono, positive_le, positive_of, sum_at_most_one}
use Rattle.sums.proofs.Order.{zero_of}
use Rattle.stretches.proofs.PieceLists.{total_insert_all, total_length}
use Rattle.stretches.proofs.Cuts.{cut_fits, cut_crosses, pieces_none, pieces_some}
use Rattle.stretches.proofs.Ahead.{ahead_ends, ahead_apart}

-- the length of a list of pieces put into another
pub length_insert_all : (ps l : List Piece) → length (insert_all ps l) ≡ length ps + length l
length_insert_all ps l = total_length (insert_all ps l) ∙ total_insert_all (λ p. 1) ps l ∙ sym (ap₂ ◌+◌ (total_length ps) (total_length l))

-- two stretches, one over before the other begins, within one frame's window: they do not both cross the end of a frame
pub one_crossing : (F B a la b lb : ℕ) → 0 < F → B ≤ a → b + lb ≤ B + F → a + la ≤ b → F < a % F + la → F < b % F + lb → ⊥
one_crossing F B a la b lb f ba eb apart ca cb =
    elim (dec_lt (a / F) (b / F)) [
      | yes l ↦ omega (arith, div-add-mod' a F, div-add-mod' b F, mod-lt a f, mod-lt b f, suc-mul (a / F) F, mul-le-mul_right F l)
      | no g ↦ omega (arith, div-add-mod' a F, div-add-mod' b F, mod-lt a f, mod-lt b f, mul-le-mul_right {m = b / F} {n = a / F} F (omega arith))
    ]

module _ (F n m : ℕ) (x : ℕ → ℕ → ℕ) (w : Walk) where
  -- 1 if the stretch of task t on core j crosses the end of a frame
  unfoldable pub crosses : ℕ → ℕ → ℕ
  crosses j t = cond (ltb F (stretch n m x w t j % F + x t j)) (positive (x t j)) 0

  crosses_no : (j t : ℕ) → stretch n m x w t j % F + x t j ≤ F → crosses j t ≡ 0
  unfolding crosses
  crosses_no j t h = rw (le-ltb F (stretch n m x w t j % F + x t j) h)

  crosses_yes : (j t : ℕ) → F < stretch n m x w t j % F + x t j → crosses j t ≡ positive (x t j)
  unfolding crosses
  crosses_yes j t h = rw (lt-ltb F (stretch n m x w t j % F + x t j) h)

  pub length_pieces : (j t : ℕ) → length (pieces_on F n m x w j t) ≡ positive (x t j) + crosses j t
  length_pieces j t =
      elim (dec_lt 0 (x t j)) [
        | no z ↦ rw (pieces_none F n m x w j t (zero_of z)) (sym (gone (zero_of z)))
        | yes h ↦
            rw (pieces_some F n m x w j t h)
            (elim (dec_le (stretch n m x w t j % F + x t j) F) [
              | yes l ↦ rw (cut_fits F j t (stretch n m x w t j % F) (x t j) l, crosses_no j t l, positive_of (x t j) h)
              | no g ↦ rw (cut_crosses F j t (stretch n m x w t j % F) (x t j) (omega arith), crosses_yes j t (omega arith), positive_of (x t j) h)
            ])
      ]
    where
      gone : x t j ≡ 0 → positive (x t j) + crosses j t ≡ 0
      gone e =
          elim (dec_le (stretch n m x w t j % F + x t j) F) [
            | yes l ↦ rw (crosses_no j t l, e)
            | no g ↦ rw (crosses_yes j t (omega arith), e)
          ]

  pub length_core : (j c : ℕ) → length (core_to F n m x w j c) ≡ sum_to c (λ t. positive (x t j)) + sum_to c (crosses j)
  unfolding core_to sum_to
  length_core j zero = refl
  length_core j (suc c) = length_insert_all (pieces_on F n m x w j c) (core_to F n m x w j c) ∙ omega (arith, length_pieces j c, length_core j c)

  cores_next : (j : ℕ) → length (cores_to F n m x w (suc j)) ≡ length (cores_to F n m x w j) + length (core_to F n m x w j n)
  unfolding cores_to
  cores_next j = length-append (cores_to F n m x w j) (core_to F n m x w j n)

  module _ (frame : 0 < F) (cols : (j : ℕ) → j < m → sum_to n (λ i. x i j) ≤ F) (firsts : (k : ℕ) → w.first k ≤ n) where
    crosses_pos : (j t : ℕ) → 0 < crosses j t → F < stretch n m x w t j % F + x t j
    crosses_pos j t h =
        elim (dec_lt F (stretch n m x w t j % F + x t j)) [
          | yes l ↦ l
          | no g ↦ absurd (omega (arith, crosses_no j t (omega arith)))
        ]

    crosses_one : (j t : ℕ) → crosses j t ≤ 1
    crosses_one j t =
        elim (dec_lt F (stretch n m x w t j % F + x t j)) [
          | yes l ↦ rw (crosses_yes j t l) (positive_le (x t j))
          | no g ↦ rw (crosses_no j t (omega arith)) (omega arith)
        ]

    one_of_two : (j : ℕ) → j < m → (t u : ℕ) → t < n → u < n → 0 < crosses j t → 0 < crosses j u → t ≡ u
    unfolding stretch
    one_of_two j jm t u tn un a b =
        elim (ℕ_discrete t u) [
          | yes e ↦ e
          | no ne ↦
              absurd
              (⊎_elim
              (λ l. one_crossing F (w.start j) (stretch n m x w t j) (x t j) (stretch n m x w u j) (x u j) frame (omega arith) (omega (arith, ahead_ends n (w.first j) (λ i. x i j) u (firsts j) un, cols j jm)) (omega arith) (crosses_pos j t a) (crosses_pos j u b))
              (λ l. one_crossing F (w.start j) (stretch n m x w u j) (x u j) (stretch n m x w t j) (x t j) frame (omega arith) (omega (arith, ahead_ends n (w.first j) (λ i. x i j) t (firsts j) tn, cols j jm)) (omega arith) (crosses_pos j u b) (crosses_pos j t a))
              (ahead_apart (w.first j) (λ i. x i j) t u ne))
        ]

    core_length : (j : ℕ) → j < m → length (core_to F n m x w j n) ≤ sum_to n (λ t. positive (x t j)) + 1
    core_length j jm = omega (arith, length_core j n, sum_at_most_one n 1 (crosses j) (λ t tn. crosses_one j t) (one_of_two j jm))

    pub cores_length : (c : ℕ) → c ≤ m → length (cores_to F n m x w c) ≤ sum_to c (λ j. sum_to n (λ t. positive (x t j))) + c
    unfolding cores_to sum_to
    cores_length zero l = omega arith
    cores_length (suc c) l = rw (length-append (cores_to F n m x w c) (core_to F n m x w c n)) (omega (arith, cores_length c (omega arith), core_length c l))

    -- the pieces of the cores before, and of the first tasks of a core, are not more than all
    pub part_at_most : (j : ℕ) → j < m → (c : ℕ) → c ≤ n → length (cores_to F n m x w j) + length (core_to F n m x w j c) ≤ length (cores_to F n m x w m)
    part_at_most j jm c cn = le_trans (one_core j c cn) (more_cores m j jm)
      where
        tasks_more : (j c n' : ℕ) → c ≤ n' → length (core_to F n m x w j c) ≤ length (core_to F n m x w j n')
        tasks_more j c n' l = omega (arith, length_core j c, length_core j n', sum_mono c n' (λ t. positive (x t j)) l, sum_mono c n' (crosses j) l)

        one_core : (j c : ℕ) → c ≤ n → length (cores_to F n m x w j) + length (core_to F n m x w j c) ≤ length (cores_to F n m x w (suc j))
        one_core j c l = rw (cores_next j) (omega (arith, tasks_more j c n l))

        more_cores : (c j : ℕ) → j < c → length (cores_to F n m x w (suc j)) ≤ length (cores_to F n m x w c)
        more_cores zero j l = absurd (not-suc-le-zero l)
        more_cores (suc c) j l =
            elim (ℕ_discrete j c) [
              | yes e ↦ rw e (le_refl _)
              | no ne ↦ omega (arith, cores_next c, more_cores c j (omega arith))
            ]
