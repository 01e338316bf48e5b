use Rattle.std.proofs.Common.{rules, arith}
use Rattle.moves.proofs.Rest.{next_inside}
use Rattle.moves.proofs.Moves.{counting_none, counting_done, counting_fits, end_fits, counting_less, counting_more}
use Rattle.moves.proofs.task_moves.Goals as goal

pub loop-k-init : goal.loop-k-init
loop-k-init c = search (counting_none, rules)

pub piece_at-piece-requires : goal.piece_at-piece-requires
piece_at-piece-requires c = next_inside _ _ _ _ c.in-Some.ensures

pub overflow_add-count : goal.overflow_add-count
overflow_add-count c =
    omega
    (arith, counting_fits _ _ c.requires _ _ _ _ _ c.loop-k.invariant c.in-Some.ensures c.piece_at-piece.ensures _ _ c.is_move.ensures c.from-count.ensures)

pub overflow_add-from : goal.overflow_add-from
overflow_add-from c = omega (arith, end_fits _ _ c.requires _ _ _ _ _ c.loop-k.invariant c.in-Some.ensures c.piece_at-piece.ensures)

pub loop-k-smaller : goal.loop-k-smaller
loop-k-smaller c = counting_less _ _ c.requires _ _ _ _ _ c.loop-k.invariant c.in-Some.ensures c.piece_at-piece.ensures

pub loop-k-preserved : goal.loop-k-preserved
loop-k-preserved c =
    counting_more _ _ c.requires _ _ _ _ _ c.loop-k.invariant c.in-Some.ensures c.piece_at-piece.ensures _ _ c.is_move.ensures c.from-count.ensures

pub returns : goal.returns
returns c = counting_done _ _ c.requires _ _ _ c.loop-k.invariant c.in_default.ensures
