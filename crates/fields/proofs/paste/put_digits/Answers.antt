use Rattle.std.proofs.Common.{rules}
use Rattle.fields.proofs.PastedLaws.{filled_first, filled_more, filled_last}
use Rattle.fields.proofs.paste.put_digits.Goals as goal

pub loop-i-init : goal.loop-i-init
loop-i-init c = filled_first _ _

pub loop-i-preserved : goal.loop-i-preserved
loop-i-preserved c = search (filled_more, rules)

pub returns : goal.returns
returns c = filled_last _ _ _ _ c.loop-i.invariant c.loop-i-test.false
