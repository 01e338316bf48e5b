-- Replies, worked out by hand: each answer as four numbers, and P1, P2, P4, P9 and P10 as C gets them.
-- Assumes nothing.
use mathlib.Core.Path.{◌≡◌, refl, ◌∙◌, ap, ap₂}
use mathlib.Core.List.{List, [], ◌∷◌, ◌++◌}
use Prim.Native.Nat.{ℕ, ◌*◌, ◌≤◌}
use native.Mathlib.Omega.{arith}
use lib.ListN.{length, drop}
use Rattle.rules.specs.Reply.{reply_of}
use Rattle.rules.specs.Replies.{PlanReply, WalkReply, check_reply, moves_reply}
use Rattle.rules.specs.FrameTable.{frame_table}
use Rattle.rules.specs.Tests.{bad_frame, bad_cores}
use Rattle.rules.specs.Check.{check_answer, moves_answer}
use Rattle.rules.specs.Settled.{Roomy, Only, OnlyFinishes, tableP1}
use Rattle.rules.specs.declared.Answer.{Answer}
use Rattle.rules.specs.declared.Answer.TheVariants.{Accepted, FrameLength, CoreCount, TaskCount, EmptyMask, Budget, ShortTable, Overloaded, NotTable, JobList, NoUnits, ShortFinishes, BadLine, MissingCore}
use Rattle.rules.specs.declared.Counted.{Counted}
use Rattle.rules.specs.declared.Planned.{Planned}
use Rattle.rules.specs.declared.Reply.{Reply}
use Rattle.rules.proofs.Settled.Accepted.{p1}
use Rattle.rules.proofs.Settled.Overloads.{p2, p4}
use Rattle.rules.proofs.Settled.Finishes.{moved1, finishes9, finishes10}

-- a reply of these four numbers
abbrev four : ℕ → ℕ → ℕ → ℕ → Reply
four n f s c = record { number = n; first = f; second = s; count = c }

-- an accepted answer with a count of 5; the same count beside a refusal is dropped
bare_replies : reply_of Accepted 5 ∷ reply_of FrameLength 5 ∷ reply_of CoreCount 5 ∷ reply_of TaskCount 5 ∷ reply_of ShortTable 5 ∷ reply_of NotTable 5 ∷ reply_of ShortFinishes 5 ∷ reply_of BadLine 5 ∷ [] ≡
    four 0 0 0 5 ∷ four 1 0 0 0 ∷ four 2 0 0 0 ∷ four 3 0 0 0 ∷ four 6 0 0 0 ∷ four 8 0 0 0 ∷ four 11 0 0 0 ∷ four 12 0 0 0 ∷ []
unfolding reply_of
bare_replies = refl

-- a task or a job is the first value; a group is the first and its cores the second; so are a task and its missing core
carrying_replies :
    reply_of (EmptyMask 63) 5 ∷ reply_of (Budget 62) 5 ∷ reply_of (Overloaded 5 3) 5 ∷ reply_of (JobList 4095) 5 ∷ reply_of (NoUnits 4094) 5 ∷ reply_of (MissingCore 61 15) 5 ∷ [] ≡
    four 4 63 0 0 ∷ four 5 62 0 0 ∷ four 7 5 3 0 ∷ four 9 4095 0 0 ∷ four 10 4094 0 0 ∷ four 13 61 15 0 ∷ []
unfolding reply_of
carrying_replies = refl

-- P1's table: accepted, no count; and one move. Of a table one number short neither.
check_P1 : check_reply 6 2 tableP1 ≡ four 0 0 0 0
unfolding check_reply reply_of
check_P1 = ap (λ (a : Answer). reply_of a 0) moved1.0

moves_P1 : moves_reply 6 2 tableP1 ≡ four 0 0 0 1
unfolding moves_reply reply_of
moves_P1 = ap (λ (c : Counted). reply_of c.answer c.moves) moved1.1

short_check : check_reply 6 2 (0 ∷ 0 ∷ 0 ∷ []) ∷ moves_reply 6 2 (0 ∷ 0 ∷ 0 ∷ []) ∷ [] ≡ four 8 0 0 0 ∷ four 8 0 0 0 ∷ []
unfolding check_reply moves_reply reply_of check_answer moves_answer bad_frame bad_cores frame_table
short_check = refl

-- every reply that the rules allow on a lent table with room is this one, the lent table holds this table, and there is one
record Replied (F m : ℕ) (budgets masks : List ℕ) (reply : Reply) (table : List ℕ) : Type 0 where
  only : (before : List ℕ) → Roomy (length budgets) m before → (r : Reply) (after : List ℕ) → PlanReply F m budgets masks before r after
      → (r ≡ reply) × (after ≡ table ++ drop (length table) before)
  some : (before : List ℕ) → Roomy (length budgets) m before → (r : Reply) × (after : List ℕ) × PlanReply F m budgets masks before r after

replied : (F m : ℕ) (budgets masks : List ℕ) (a : Answer) (table : List ℕ) (n : ℕ) → 4 * n ≡ length table → Only F m budgets masks a table
    → Replied F m budgets masks (reply_of a n) table
replied F m budgets masks a table n e p =
    record {
      only = λ before room r after h. let o = p.only before room h.planned after h.answer in (h.reply ∙ ap₂ reply_of o.0 (count h.planned o.1), o.2);
      some = λ before room. let s = p.some before room in (reply_of s.0.answer s.0.pieces, s.1, record { planned = s.0; answer = s.2; reply = refl });
    }
  where
    count : (q : Planned) → 4 * q.pieces ≡ length table → q.pieces ≡ n
    count q h = omega (arith, e, h)

reply_P1 : Replied 6 2 (4 ∷ 3 ∷ 5 ∷ []) (0b11 ∷ 0b01 ∷ 0b10 ∷ []) (four 0 0 0 5) tableP1
unfolding reply_of
reply_P1 = replied _ _ _ _ Accepted tableP1 5 refl p1

reply_P2 : Replied 10 2 (8 ∷ 8 ∷ 3 ∷ []) (0b01 ∷ 0b01 ∷ 0b10 ∷ []) (four 7 0b011 0b01 0) []
unfolding reply_of
reply_P2 = replied _ _ _ _ (Overloaded 0b011 0b01) [] 0 refl p2.0

reply_P4 : Replied 10 2 (11 ∷ []) (0b11 ∷ []) (four 5 0 0 0) []
unfolding reply_of
reply_P4 = replied _ _ _ _ (Budget 0) [] 0 refl p4.0

-- the same of a walk: the count is that of the releases
walked : (F m : ℕ) (table : List ℕ) (task : ℕ) (releases jobs fs : List ℕ) → OnlyFinishes F m table task releases jobs fs
    → (before : List ℕ) → length releases ≤ length before → (r : Reply) (after : List ℕ) → WalkReply F m table task releases jobs before r after
    → (r ≡ reply_of Accepted (length releases)) × (after ≡ fs ++ drop (length fs) before)
walked F m table task releases jobs fs p before room r after h =
    let o = p.only before room h.answer after h.walked in (h.reply ∙ ap (λ (a : Answer). reply_of a (length releases)) o.0, o.1)

reply_P9 : (before : List ℕ) → 1 ≤ length before → (r : Reply) (after : List ℕ) → WalkReply 6 2 tableP1 0 (1 ∷ []) (4 ∷ []) before r after
    → (r ≡ four 0 0 0 1) × (after ≡ 7 ∷ drop 1 before)
unfolding reply_of
reply_P9 = walked _ _ _ _ _ _ _ finishes9

reply_P10 : (before : List ℕ) → 2 ≤ length before → (r : Reply) (after : List ℕ) → WalkReply 6 2 tableP1 0 (4 ∷ 13 ∷ []) (6 ∷ 6 ∷ []) before r after
    → (r ≡ four 0 0 0 2) × (after ≡ 14 ∷ 22 ∷ drop 2 before)
unfolding reply_of
reply_P10 = walked _ _ _ _ _ _ _ finishes10
