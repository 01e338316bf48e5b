-- `moves::count_moves` meets its contract: each goal is answered by a law of the crate's proofs.
use Rattle.moves.proofs.Moves.{counted_refused, counted_moves, counted_framed}
use Rattle.moves.proofs.count_moves.Goals as goal

pub table_moves-requires : goal.table_moves-requires
table_moves-requires c = counted_framed _ _ _ c.in-Accepted.ensures

pub returns-in-Accepted : goal.returns-in-Accepted
returns-in-Accepted c = counted_moves _ _ _ c.in-Accepted.ensures _ c.table_moves.ensures

pub returns-in_default : goal.returns-in_default
returns-in_default c = counted_refused _ _ _ _ c.check_table.ensures c.in_default.not-Accepted
