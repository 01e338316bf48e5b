use Rattle.layout.specs.Pieces.{piece_of}
use Rattle.layout.proofs.InsertLaws.{piece_written}
use Rattle.layout.proofs.pieces.write_piece.Goals as goal

pub returns : goal.returns
returns c = piece_written _ _ (piece_of c.args.part) _ c.copy_from_slice.ensures.after
