-- `setline::read_set` meets its contract: a law for each way out.
use Rattle.std.proofs.Common.{rules}
use Rattle.setline.proofs.ReadLaws.{read_badly, read_short, read_whole, header_room}
use Rattle.setline.proofs.read_set.Goals as goal

pub returns-in_err-header : goal.returns-in_err-header
returns-in_err-header c = search (read_badly, rules)

pub returns-then-budgets-header : goal.returns-then-budgets-header
returns-then-budgets-header c = search (read_short, rules)

pub read_tasks-requires : goal.read_tasks-requires
read_tasks-requires c = search (header_room, rules)

pub returns : goal.returns
returns c = read_whole _ _ _ _ c.tested_header.ensures _ c.in_ok-header.was _ _ c.if-budgets-header.false c.if-masks-header.false c.read_tasks.ensures
