use Rattle.std.proofs.Common.{rules, arith, refl}
use Rattle.rules.specs.Line.{digits_at}
use Rattle.fields.proofs.FieldLaws.{digits_more, digits_room}
use Rattle.fields.proofs.number.number.Goals as goal

pub loop-d-init : goal.loop-d-init
unfolding digits_at
loop-d-init c = refl

pub overflow_mul-v : goal.overflow_mul-v
overflow_mul-v c = omega (arith, digits_room _ _ _ c.loop-d.invariant (omega arith))

pub overflow_add-v : goal.overflow_add-v
overflow_add-v c = omega (arith, digits_room _ _ _ c.loop-d.invariant (omega arith))

pub loop-d-preserved : goal.loop-d-preserved
loop-d-preserved c = search (digits_more, rules)
