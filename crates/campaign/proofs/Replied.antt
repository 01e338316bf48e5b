-- Planned, walked, bounded, as C gets it: from the two replies alone.
-- Assumes nothing.
use mathlib.Core.Path.{◌≡◌, subst}
use mathlib.Core.List.{List}
use Prim.Native.Nat.{ℕ, ◌*◌, ◌<◌}
use lib.ListN.{length, get_or, take}
use Rattle.rules.specs.Paced.{Paced, Bounded}
use Rattle.rules.specs.Plan.{at}
use Rattle.rules.specs.Walked.{WalkAnswer}
use Rattle.rules.specs.Replies.{PlanReply, WalkReply}
use Rattle.rules.specs.declared.Reply.{Reply}
use Rattle.rules.proofs.Replies.{accepted_reply}
use Rattle.promises.proofs.Replied.{reply_counts_pieces}
use Rattle.campaign.proofs.Bounded.{planned_walked_bounded}

-- task i of a set, walked on the counted pieces of its planned table
module _ (F m : ℕ) (budgets masks before : List ℕ) (r : Reply) (after : List ℕ) (p : PlanReply F m budgets masks before r after) (yes-planned : r.number ≡ 0)
    (i : ℕ) (l : i < length budgets) where
  pub replied_bounded : (releases jobs finishes : List ℕ) (s : Reply) (later : List ℕ)
      → WalkReply F m (take (4 * r.count) after) i releases jobs finishes s later → s.number ≡ 0
      → (T c : ℕ) → Paced F (at budgets i) T c (length releases) (λ k. get_or releases k 0) (λ k. get_or jobs k 0)
      → Bounded F T (length releases) (λ k. get_or releases k 0) (λ k. get_or later k 0)
  replied_bounded releases jobs finishes s later w yes-walked T c h =
      planned_walked_bounded F m budgets masks before p.planned after p.answer (accepted_reply p.planned.answer p.planned.pieces r p.reply yes-planned)
      i l releases jobs finishes w.answer later
      (subst (λ (n : ℕ). WalkAnswer F m (take (4 * n) after) i releases jobs finishes w.answer later) (reply_counts_pieces F m budgets masks before r after p) w.walked)
      (accepted_reply w.answer (length releases) s w.reply yes-walked)
      T c h
