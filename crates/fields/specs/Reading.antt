-- The reader over a lent line, before its first field and past each. Document 01, "Lines".
-- Assumes nothing.
use Rattle.std.specs.Prelude.{ℕ, List}
use Rattle.std.specs.Borrow.{Bor}
use Rattle.fields.specs.Held.{held_field, past_field}
use Rattle.fields.specs.declared.reader.Reader.{Reader}

-- the reader of the line l whose next field begins at byte p
abbrev pub started : Bor (List ℕ) → ℕ → Reader
started l p = record { line = l; at = p; value = 0 }

-- the same line's reader past a field of w bytes, with the field's value; where the line does not hold the field it stays, with 0
abbrev pub taken : Reader → ℕ → Reader
taken r w = record { line = r.line; at = past_field r.line.now r.at w; value = held_field r.line.now r.at w }
