-- What an accepted table check says: the tests 1, 2 and 8 passed, and the frame length is within the sizes.
-- Assumes nothing.
use mathlib.Core.Path.{◌≡◌, refl}
use mathlib.Core.Bool.{Bool, true, false, cond}
use mathlib.Core.List.{List, []}
use Prim.Native.Nat.{ℕ, ◌≤◌}
use native.Mathlib.Omega.{arith}
use lib.Dec.{eqb, ltb}
use borrow.Author.Tests.{ltb-false, eqb-false}
use Rattle.rules.specs.FrameTable.{frame_table}
use Rattle.rules.specs.Tests.{bad_frame, bad_cores}
use Rattle.rules.specs.Check.{check_answer}
use Rattle.rules.specs.Answer.{number_of, values_of}
use Rattle.rules.specs.declared.Answer.TheVariants.{Accepted, FrameLength, CoreCount, NotTable}
use Rattle.sums.proofs.Both.{or_left, or_right}

-- the number 0 is that of no refusal
pub check_accepted : (F m : ℕ) (l : List ℕ) → number_of (check_answer F m l) ≡ 0 → (bad_frame F ≡ false) × (bad_cores m ≡ false) × (frame_table F m l ≡ true)
unfolding check_answer
check_accepted F m l e = go (bad_frame F) (bad_cores m) (frame_table F m l) e
  where
    go : (b c f : Bool) → number_of (cond b FrameLength (cond c CoreCount (cond f Accepted NotTable))) ≡ 0 → (b ≡ false) × (c ≡ false) × (f ≡ true)
    go true c f h = absurd (omega arith)
    go false true f h = absurd (omega arith)
    go false false true h = (refl, refl, refl)
    go false false false h = absurd (omega arith)

-- none of its answers carries a value
pub check_carries_nothing : (F m : ℕ) (l : List ℕ) → values_of (check_answer F m l) ≡ []
unfolding check_answer
check_carries_nothing F m l = go (bad_frame F) (bad_cores m) (frame_table F m l)
  where
    go : (b c f : Bool) → values_of (cond b FrameLength (cond c CoreCount (cond f Accepted NotTable))) ≡ []
    go true c f = refl
    go false true f = refl
    go false false true = refl
    go false false false = refl

module _ (F : ℕ) (passed : bad_frame F ≡ false) where
  pub frame_some : 1 ≤ F
  unfolding bad_frame
  frame_some = above (eqb-false _ _ (or_left (eqb F 0) (ltb 1000000 F) passed))
    where
      above : (F ≡ 0 → ⊥) → 1 ≤ F
      above h = omega arith

  pub frame_short : F ≤ 1000000
  unfolding bad_frame
  frame_short = ltb-false _ _ (or_right (eqb F 0) (ltb 1000000 F) passed)
