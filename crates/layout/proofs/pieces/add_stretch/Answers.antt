-- `pieces::add_stretch` meets its contract: one piece, or two where the stretch crosses the end.
use Rattle.std.proofs.Common.{rules}
use Rattle.layout.proofs.InsertLaws.{cut_two, room_one, room_less, room_two, cut_one}
use Rattle.layout.proofs.pieces.add_stretch.Goals as goal

pub insert_piece-requires : goal.insert_piece-requires
insert_piece-requires c = search (room_one, room_less, rules)

pub returns-then-end-frame : goal.returns-then-end-frame
returns-then-end-frame c = cut_one _ _ _ _ _ _ _ _ _ c.if-end-frame.true c.insert_piece.ensures

pub insert_piece-requires-2 : goal.insert_piece-requires-2
insert_piece-requires-2 c = search (room_one, room_less, room_two, rules)

pub insert_piece-requires-3 : goal.insert_piece-requires-3
insert_piece-requires-3 c = (search rules, rw c.insert_piece-2.auto.table (room_two _ _ _ _ _ _ _ c.if-end-frame.false c.requires.4))

pub returns : goal.returns
returns c = cut_two _ _ _ _ _ _ _ _ _ _ c.if-end-frame.false c.insert_piece-2.ensures c.insert_piece-3.ensures
