-- The tests of the set decide, or the test 6 does.
use Rattle.std.proofs.Common.{rules}
use Rattle.tests.proofs.PassedLaws.{passed_tasks}
use Rattle.tests.proofs.test_plan.Goals as goal

pub test_room-requires : goal.test_room-requires
test_room-requires c = search (passed_tasks, rules)
