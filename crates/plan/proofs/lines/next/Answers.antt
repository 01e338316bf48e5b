-- A line is taken up to its line feed and answered, or kept as far as the chunk has it.
use Rattle.std.proofs.Common.{arith}
use Rattle.stream.proofs.LineLaws.{took_few, took_whole, took_part}
use Rattle.plan.proofs.LineLaws.{answered}
use Rattle.plan.proofs.lines.next.Goals as goal

pub shared_ref_as_front-answer : goal.shared_ref_as_front-answer
shared_ref_as_front-answer c = omega (arith, c.told-line, c.take_line-taken.auto.line, took_few _ _ _ _ _ _ c.requires.0 c.requires.1 c.take_line-taken.ensures _ c.in-Whole.is)

pub returns-in-Whole : goal.returns-in-Whole
returns-in-Whole c =
    took_whole _ _ _ _ _ _ c.requires.0 c.requires.1 c.take_line-taken.ensures _ _ _ _ _ _ c.in-Whole.is
    (answered _ _ _ _ _ (omega (arith, c.told-line, c.take_line-taken.auto.line)) c.answer.ensures.few c.answer.ensures.answered)

pub returns-in-Begun : goal.returns-in-Begun
returns-in-Begun c = took_part _ _ _ _ _ _ c.requires.0 c.requires.1 c.take_line-taken.ensures _ _ _ _ c.in-Begun.is
