-- The ways through the tests, once: what holds of each refusal, and of a set that passed, holds of what the tests say.
-- Assumes nothing.
use mathlib.Core.Path.{◌≡◌, refl}
use mathlib.Core.Bool.{Bool, true, false, cond}
use mathlib.Core.List.{List}
use Prim.Native.Nat.{ℕ}
use lib.Dec.{ltb}
use lib.ListN.{length}
use Rattle.rules.specs.Answer.{number_of}
use Rattle.rules.specs.Sum.{first_at}
use Rattle.rules.specs.Piece.{whole_pieces}
use Rattle.rules.specs.Tests.{Tested, refused, passed, bad_frame, bad_cores, bad_tasks, empty_mask, missing_task, missing_core, bad_budget, short_table, tested_set, then_room, tested}
use Rattle.rules.specs.MaskFaults.{Sized}
use Rattle.rules.specs.declared.Answer.TheVariants.{FrameLength, CoreCount, TaskCount, EmptyMask, Budget, ShortTable, MissingCore}

-- the number with which the tests refuse; 0 where they are passed
abbrev pub number_told : Tested → ℕ
number_told (refused a) = number_of a
number_told passed = 0

-- the ways through tests of which each is passed or not: a premise says what is known on its way
ways : (P : Tested → Type 0) (f c t e k b s : Bool) (i a j d : ℕ) → P (refused FrameLength) → P (refused CoreCount) → P (refused TaskCount)
    → (f ≡ false → c ≡ false → t ≡ false → e ≡ true → P (refused (EmptyMask i)))
    → (f ≡ false → c ≡ false → t ≡ false → e ≡ false → k ≡ true → P (refused (MissingCore a j)))
    → (f ≡ false → c ≡ false → t ≡ false → e ≡ false → k ≡ false → b ≡ true → P (refused (Budget d)))
    → (f ≡ false → c ≡ false → t ≡ false → e ≡ false → k ≡ false → s ≡ true → P (refused ShortTable))
    → (f ≡ false → c ≡ false → t ≡ false → e ≡ false → k ≡ false → P passed)
    → P
    (then_room s
    (cond f (refused FrameLength)
    (cond c (refused CoreCount)
    (cond t (refused TaskCount) (cond e (refused (EmptyMask i)) (cond k (refused (MissingCore a j)) (cond b (refused (Budget d)) passed)))))))
ways P true c t e k b s i a j d p1 p2 p3 p4 p13 p5 p6 p = p1
ways P false true t e k b s i a j d p1 p2 p3 p4 p13 p5 p6 p = p2
ways P false false true e k b s i a j d p1 p2 p3 p4 p13 p5 p6 p = p3
ways P false false false true k b s i a j d p1 p2 p3 p4 p13 p5 p6 p = p4 refl refl refl refl
ways P false false false false true b s i a j d p1 p2 p3 p4 p13 p5 p6 p = p13 refl refl refl refl refl
ways P false false false false false true s i a j d p1 p2 p3 p4 p13 p5 p6 p = p5 refl refl refl refl refl refl
ways P false false false false false false true i a j d p1 p2 p3 p4 p13 p5 p6 p = p6 refl refl refl refl refl refl
ways P false false false false false false false i a j d p1 p2 p3 p4 p13 p5 p6 p = p refl refl refl refl refl

module _ (F m : ℕ) (budgets masks table : List ℕ) where
  -- no mask is empty, and none names a missing core
  pub record FaultFree : Type 0 where
    pub not_empty : ltb (first_at empty_mask masks) (length masks) ≡ false
    pub not_missing : ltb (missing_task m masks) (length masks) ≡ false

  pub tested_cases : (P : Tested → Type 0) → P (refused FrameLength) → P (refused CoreCount) → P (refused TaskCount)
      → (Sized F m budgets masks → ltb (first_at empty_mask masks) (length masks) ≡ true → P (refused (EmptyMask (first_at empty_mask masks))))
      → (Sized F m budgets masks → ltb (first_at empty_mask masks) (length masks) ≡ false → ltb (missing_task m masks) (length masks) ≡ true
      → P (refused (MissingCore (missing_task m masks) (missing_core m masks))))
      → (Sized F m budgets masks → FaultFree → ltb (first_at (bad_budget F) budgets) (length budgets) ≡ true → P (refused (Budget (first_at (bad_budget F) budgets))))
      → (Sized F m budgets masks → FaultFree → short_table (length budgets) m (whole_pieces table) ≡ true → P (refused ShortTable))
      → (Sized F m budgets masks → FaultFree → P passed) → P (tested F m budgets masks table)
  unfolding tested tested_set
  tested_cases P p1 p2 p3 p4 p13 p5 p6 p =
      ways P (bad_frame F) (bad_cores m) (bad_tasks budgets masks) (ltb (first_at empty_mask masks) (length masks)) (ltb (missing_task m masks) (length masks))
      (ltb (first_at (bad_budget F) budgets) (length budgets)) (short_table (length budgets) m (whole_pieces table)) (first_at empty_mask masks) (missing_task m masks) (missing_core m masks)
      (first_at (bad_budget F) budgets) p1 p2 p3 (λ f c t e. p4 (sized f c t) e) (λ f c t e k. p13 (sized f c t) e k) (λ f c t e k b. p5 (sized f c t) (free e k) b)
      (λ f c t e k s. p6 (sized f c t) (free e k) s) (λ f c t e k. p (sized f c t) (free e k))
    where
      sized : bad_frame F ≡ false → bad_cores m ≡ false → bad_tasks budgets masks ≡ false → Sized F m budgets masks
      sized f c t = record { frame = f; cores = c; tasks = t }

      free : ltb (first_at empty_mask masks) (length masks) ≡ false → ltb (missing_task m masks) (length masks) ≡ false → FaultFree
      free e k = record { not_empty = e; not_missing = k }
