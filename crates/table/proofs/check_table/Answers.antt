use Rattle.table.proofs.Tested.{table_checked}
use Rattle.table.proofs.check_table.Goals as goal

pub returns : goal.returns
returns c = table_checked _ _ _ _ _ c.test_table.ensures c.from.ensures
