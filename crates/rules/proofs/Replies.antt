-- A reply tells its answer, and the calls on plain arrays allow one reply and one list for each input. (Of plan's call: promises, Replied.)
-- Assumes nothing.
use mathlib.Core.Path.{◌≡◌, refl, sym, ◌∙◌, ap}
use mathlib.Core.List.{List, [], ◌∷◌}
use Prim.Native.Nat.{ℕ}
use lib.ListN.{length, get_or}
use Rattle.rules.specs.Answer.{number_of, values_of}
use Rattle.rules.specs.Reply.{reply_of}
use Rattle.rules.specs.Walked.{walk_tested}
use Rattle.rules.specs.Replies.{check_reply, moves_reply, WalkReply}
use Rattle.rules.specs.declared.Answer.{Answer}
use Rattle.rules.specs.declared.Answer.TheVariants.{Accepted, FrameLength, CoreCount, TaskCount, EmptyMask, Budget, ShortTable, Overloaded, NotTable, JobList, NoUnits, ShortFinishes, BadLine, MissingCore}
use Rattle.rules.specs.declared.Reply.{Reply}
use Rattle.rules.proofs.Walked.{walked_unique}

-- the answer of this number that carries these values
answer_of : ℕ → ℕ → ℕ → Answer
answer_of n f s =
    get_or
    (Accepted ∷ FrameLength ∷ CoreCount ∷ TaskCount ∷ EmptyMask f ∷ Budget f ∷ ShortTable ∷ Overloaded f s ∷ NotTable ∷ JobList f ∷ NoUnits f ∷ ShortFinishes ∷ BadLine ∷ MissingCore f s ∷ [])
    n
    Accepted

told : (a : Answer) → answer_of (number_of a) (get_or (values_of a) 0 0) (get_or (values_of a) 1 0) ≡ a
unfolding answer_of
told Accepted = refl
told FrameLength = refl
told CoreCount = refl
told TaskCount = refl
told (EmptyMask task) = refl
told (Budget task) = refl
told ShortTable = refl
told (Overloaded group cores) = refl
told NotTable = refl
told (JobList job) = refl
told (NoUnits job) = refl
told ShortFinishes = refl
told BadLine = refl
told (MissingCore task core) = refl

-- 0 is the number of no refusal
pub number_zero : (a : Answer) → number_of a ≡ 0 → a ≡ Accepted
unfolding answer_of
number_zero a e = sym (told a) ∙ ap (λ (n : ℕ). answer_of n (get_or (values_of a) 0 0) (get_or (values_of a) 1 0)) e

-- number, first and second tell the answer, whatever is counted beside it
pub no_two_answers_share_a_reply : (a b : Answer) (c d : ℕ) → reply_of a c ≡ reply_of b d → a ≡ b
unfolding reply_of
no_two_answers_share_a_reply a b c d e = sym (told a) ∙ ap (λ (r : Reply). answer_of r.number r.first r.second) e ∙ told b

-- a reply of number 0 is that of an accepted answer
pub accepted_reply : (a : Answer) (c : ℕ) (r : Reply) → r ≡ reply_of a c → r.number ≡ 0 → a ≡ Accepted
unfolding reply_of
accepted_reply a c r e z = number_zero a (ap (λ (q : Reply). q.number) (sym e) ∙ z)

-- of an accepted answer the reply tells the count too
pub accepted_counts : (c : ℕ) → (reply_of Accepted c).count ≡ c
unfolding reply_of
accepted_counts c = refl

module _ (F m : ℕ) (table : List ℕ) (r s : Reply) where
  pub check_reply_unique : r ≡ check_reply F m table → s ≡ check_reply F m table → r ≡ s
  check_reply_unique p q = p ∙ sym q

  pub moves_reply_unique : r ≡ moves_reply F m table → s ≡ moves_reply F m table → r ≡ s
  moves_reply_unique p q = p ∙ sym q

  pub walk_reply_unique : (task : ℕ) (releases jobs before x y : List ℕ)
      → WalkReply F m table task releases jobs before r x → WalkReply F m table task releases jobs before s y → (r ≡ s) × (x ≡ y)
  walk_reply_unique task releases jobs before x y p q =
      let same = walked_unique F table task releases jobs before p.answer q.answer x y (walk_tested F m table task releases jobs before) p.walked q.walked in
      (p.reply ∙ ap (λ (a : Answer). reply_of a (length releases)) same.0 ∙ sym q.reply, same.1)
