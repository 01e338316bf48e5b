-- `answerline::put_pieces` meets its contract. The loop's invariant: the pieces passed stand from the place 6 on.
use Rattle.std.proofs.Common.{◌≡◌, ◌+◌, ◌*◌, ◌≤◌, length, take, drop}
use Rattle.rules.specs.Piece.{first_pieces}
use Rattle.rules.specs.Line.{piece_lines}
use Rattle.fields.specs.Pasted.{pasted}
use Rattle.answerline.proofs.put_pieces.Given as goal

abbrev pub invariant-loop-piece : goal.invariant-loop-piece
invariant-loop-piece l =
    (l.piece-iterator.size ≡ 4)
    × (l.piece-iterator.rest.now ≡ drop (4 * length l.yielded) (take (4 * l.pieces) l.table))
    × (length l.yielded ≤ l.pieces)
    × (l.out ≡ pasted l.initial.out 6 (piece_lines (first_pieces l.table (length l.yielded)))) × (l.at ≡ 6 + 20 * length l.yielded)
