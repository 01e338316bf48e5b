-- `setline::tested_header` meets its contract: what `has_header` says, and the length that the task count asks for.
use Rattle.std.proofs.Common.{rules}
use Rattle.setline.proofs.DecodeLaws.{header_long, no_header, line_last}
use Rattle.setline.proofs.tested_header.Goals as goal

pub returns-then-not-has_header : goal.returns-then-not-has_header
returns-then-not-has_header c = search (no_header, rules)

pub read_header-header-requires : goal.read_header-header-requires
read_header-header-requires c = search (header_long, rules)

pub returns : goal.returns
returns c = line_last _ _ c.has_header.ensures _ _ (search rules) c.read_header-header.ensures c.then_some.ensures
