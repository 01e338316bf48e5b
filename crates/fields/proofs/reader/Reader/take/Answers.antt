-- `fields::reader::Reader::take` meets its contract: the field that was read ends within the line.
use Rattle.std.proofs.Common.{arith}
use Rattle.fields.proofs.FieldLaws.{field_read}
use Rattle.fields.proofs.reader.Reader.take.Goals as goal

pub overflow_add-result : goal.overflow_add-result
overflow_add-result c = let h = field_read _ _ _ _ c.field.ensures _ c.in-Some.is in omega (arith, h.1)
