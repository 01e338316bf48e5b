use Rattle.std.proofs.Common.{◌≡◌, ◌<◌}
use Rattle.std.specs.Prelude.{IfSome}
use Rattle.rules.specs.Piece.{whole_pieces}
use Rattle.moves.specs.Next.{next_to}
use Rattle.moves.proofs.next_piece.Given as goal

-- the best among the pieces so far, which is one of the table
abbrev pub invariant-loop-k : goal.invariant-loop-k
invariant-loop-k l = (l.best ≡ next_to l.table l.task l.from l.k) × IfSome l.best (λ b. b < whole_pieces l.table)
