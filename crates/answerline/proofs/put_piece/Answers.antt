-- `answerline::put_piece` meets its contract. The four fields follow each other without a gap.
use Rattle.answerline.proofs.PieceLaws.{piece_put}
use Rattle.answerline.proofs.put_piece.Goals as goal

pub returns : goal.returns
returns c =
    piece_put _ _ _ _ _ c.args.piece.now c.args.at 0 _ _ _ _ _ _ _ _ c.from.ensures c.from-2.ensures c.from-3.ensures c.from-4.ensures c.put-at.ensures c.put-at-2.ensures c.put-at-3.ensures
    c.put.ensures c.requires.0
