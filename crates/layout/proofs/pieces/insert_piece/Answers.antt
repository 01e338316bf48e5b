-- `pieces::insert_piece` meets its contract: a place is found, room is made, and the piece is written.
use Rattle.std.proofs.Common.{rules}
use Rattle.layout.proofs.InsertLaws.{insert_done}
use Rattle.layout.proofs.pieces.insert_piece.Goals as goal

pub returns : goal.returns
returns c = search (insert_done, rules)
