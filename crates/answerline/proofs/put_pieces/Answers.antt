use Rattle.std.proofs.Common.{rules, arith, ◌≡◌, ◌<◌, ◌∙◌, ap, ◌+◌, ◌*◌, length, length-append}
use Rattle.rules.specs.Piece.{first_pieces}
use Rattle.rules.specs.Line.{piece_lines}
use Rattle.fields.specs.Pasted.{pasted}
use Rattle.answerline.proofs.PieceLaws.{pieces_none, chunk_before, chunk_last, chunk_more}
use Rattle.answerline.proofs.put_pieces.Goals as goal

pub loop-piece-init : goal.loop-piece-init
loop-piece-init c = search (pieces_none, rules)

pub put_piece-at-requires : goal.put_piece-at-requires
put_piece-at-requires c =
    let inv = c.loop-piece.invariant in
    let next = c.in-Some.ensures in
    let before : length c.loop-piece.yielded < c.args.pieces = chunk_before _ _ _ _ _ inv.1 inv.0 c.requires.1 _ _ next.steps.1.0 next.steps.1.1 in
    (omega (arith, before, inv.4, c.loop-piece.auto.out, c.requires.0), next.steps.1.1 ∙ inv.0)

pub loop-piece-preserved : goal.loop-piece-preserved
loop-piece-preserved c =
    let inv = c.loop-piece.invariant in
    let next = c.in-Some.ensures in
    chunk_more _ _ _ _ _ inv.1 inv.0 c.requires.1 _ _ next.steps.1.0 next.steps.1.1 _ _ _ _ _ _ _ (length-append _ _) next.steps.0 inv.3 inv.4 c.requires.0 c.put_piece-at.ensures

pub returns : goal.returns
returns c =
    let inv = c.loop-piece.invariant in
    let all : length c.loop-piece.yielded ≡ c.args.pieces = chunk_last _ _ _ _ _ inv.1 inv.0 c.requires.1 c.in-None.ensures.steps.1.0 inv.2 in
    (inv.3 ∙ ap (λ k. pasted c.args.out.now 6 (piece_lines (first_pieces c.args.table.now k))) all, inv.4 ∙ ap (λ k. 6 + 20 * k) all)
