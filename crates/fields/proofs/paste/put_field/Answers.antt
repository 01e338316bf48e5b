-- `fields::paste::put_field` meets its contract. The two tests decide whether the digits are written or nothing is.
use Rattle.std.proofs.Common.{rules}
use Rattle.fields.proofs.FieldLaws.{ends_told, ends_denied}
use Rattle.fields.proofs.PastedLaws.{put_wide, put_out, put_part}
use Rattle.fields.proofs.paste.put_field.Goals as goal
use Rattle.fields.proofs.paste.put_field.Goals.{else-width-le8-via-then-width-le8+else-ends_by, else-width-le8-via-else-width-le8}

pub overflow_add-at : goal.overflow_add-at
overflow_add-at c = search (ends_told, rules)

pub slice_bounds-put_digits-end : goal.slice_bounds-put_digits-end
slice_bounds-put_digits-end c = search (ends_told, rules)

pub returns-then-ends_by : goal.returns-then-ends_by
returns-then-ends_by c = search (put_part, ends_told, rules)

pub returns-else-width-le8 : goal.returns-else-width-le8
returns-else-width-le8 c =
    elim c.else-width-le8.branch [
      | else-width-le8-via-then-width-le8+else-ends_by w ↦ search (put_out, ends_denied, rules)
      | else-width-le8-via-else-width-le8 w ↦ search (put_wide, rules)
    ]
