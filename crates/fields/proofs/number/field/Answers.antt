-- `fields::number::field` meets its contract: what `holds` says decides whether there is a field, and its digits are a part of the line.
use Rattle.std.proofs.Common.{rules}
use Rattle.fields.proofs.FieldLaws.{within, field_some, field_none}
use Rattle.fields.proofs.number.field.Goals as goal

pub returns-then-not-holds : goal.returns-then-not-holds
returns-then-not-holds c = search (field_none, rules)

pub overflow_mul-at : goal.overflow_mul-at
overflow_mul-at c = search (within, rules)

pub overflow_add-at : goal.overflow_add-at
overflow_add-at c = search (within, rules)

pub overflow_mul-at-2 : goal.overflow_mul-at-2
overflow_mul-at-2 c = search (within, rules)

pub slice_bounds-number-end : goal.slice_bounds-number-end
slice_bounds-number-end c = search (within, rules)

pub number-requires : goal.number-requires
number-requires c = search (within, rules)

pub returns : goal.returns
returns c = search (field_some, rules)
