-- A byte at least is taken, and no more are kept than the line has room for.
use Rattle.std.proofs.Common.{arith, length, ◌≤◌}
use Rattle.stream.proofs.LineLaws.{took_few, took_kept, took_some}
use Rattle.calls.proofs.lines.next.Goals as goal

pub shared_ref_as_front-answer : goal.shared_ref_as_front-answer
shared_ref_as_front-answer c =
    let few : c.args.len ≤ length c.args.line.now = omega (arith, c.requires.1, c.told-line) in
    omega (arith, c.told-line, c.take_line-taken.auto.line, took_few _ _ _ _ _ _ c.requires.0 few c.take_line-taken.ensures _ c.in-Whole.is)

pub returns-in-Whole : goal.returns-in-Whole
returns-in-Whole c =
    let few : c.args.len ≤ length c.args.line.now = omega (arith, c.requires.1, c.told-line) in
    (omega arith, omega (arith, took_some _ _ _ _ _ _ c.requires.0 few c.take_line-taken.ensures), c.answer.ensures)

pub returns-in-Begun : goal.returns-in-Begun
returns-in-Begun c =
    let few : c.args.len ≤ length c.args.line.now = omega (arith, c.requires.1, c.told-line) in
    (omega (arith, c.told-line, took_kept _ _ _ _ _ _ c.requires.0 few c.take_line-taken.ensures _ c.in-Begun.is), omega (arith, took_some _ _ _ _ _ _ c.requires.0 few c.take_line-taken.ensures), omega arith)
