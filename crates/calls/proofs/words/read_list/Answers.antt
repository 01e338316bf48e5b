-- The next field is one of the list's, so it ends at byte 99,002 or before.
use Rattle.std.proofs.Common.{arith, mul-suc, add-one}
use Rattle.calls.proofs.Fields.{field_room}
use Rattle.calls.proofs.words.read_list.Goals as goal

pub overflow_add-past : goal.overflow_add-past
overflow_add-past g c = let room = field_room c.args.width c.loop-x.x-index _ c.loop-x-test.true in grind (arith, mul-suc, add-one, room)
