use Rattle.std.proofs.Common.{rules}
use Rattle.moves.specs.Next.{next_to, next_piece}
use Rattle.moves.proofs.Next.{next_better, next_same}
use Rattle.moves.proofs.next_piece.Goals as goal
use Rattle.moves.proofs.next_piece.Goals.{then-is_sooner, else-is_sooner}

pub loop-k-init : goal.loop-k-init
unfolding next_to
loop-k-init c = search rules

pub loop-k-preserved : goal.loop-k-preserved
loop-k-preserved c =
    elim c.if-is_sooner.branch [
      | then-is_sooner w ↦ search (next_better, rules)
      | else-is_sooner w ↦ search (next_same, rules)
    ]

pub returns : goal.returns
unfolding next_piece
returns c = search rules
