-- The table check's answer is what its tests say.
-- Assumes nothing.
use mathlib.Core.Path.{◌≡◌, refl}
use mathlib.Core.Bool.{Bool, true, false, cond}
use mathlib.Core.List.{List}
use Prim.Native.Nat.{ℕ}
use Rattle.rules.specs.Tests.{Tested, refused, passed, bad_frame, bad_cores}
use Rattle.rules.specs.FrameTable.{frame_table}
use Rattle.rules.specs.Check.{check_answer}
use Rattle.rules.specs.declared.Answer.{Answer}
use Rattle.rules.specs.declared.Answer.TheVariants.{Accepted, FrameLength, CoreCount, NotTable}
use Rattle.rules.specs.Answer.{answer_of}
use Rattle.std.specs.Prelude.{Result, Ok, Err}
use Rattle.std.proofs.Common.{sym, ◌∙◌, ap}
use Rattle.tests.specs.Verdict.{verdict_of}
use Rattle.table.specs.Tested.{tested_table}

-- the answer to what tests say
abbrev pub answered : Tested → Answer
answered (refused a) = a
answered passed = Accepted

as_tested : (r : Result Unit Answer) → answer_of r ≡ answered (verdict_of r)
as_tested (Ok _) = refl
as_tested (Err a) = refl

pub table_answered : (F m : ℕ) (l : List ℕ) → check_answer F m l ≡ answered (tested_table F m l)
unfolding check_answer tested_table
table_answered F m l = go (bad_frame F) (bad_cores m) (frame_table F m l)
  where
    go : (b c f : Bool) → cond b FrameLength (cond c CoreCount (cond f Accepted NotTable)) ≡ answered (cond b (refused FrameLength) (cond c (refused CoreCount) (cond f passed (refused NotTable))))
    go true c f = refl
    go false true f = refl
    go false false true = refl
    go false false false = refl

pub table_checked : (F m : ℕ) (l : List ℕ) (r : Result Unit Answer) (a : Answer) → verdict_of r ≡ tested_table F m l → a ≡ answer_of r → a ≡ check_answer F m l
table_checked F m l r a e f = f ∙ as_tested r ∙ ap answered e ∙ sym (table_answered F m l)
