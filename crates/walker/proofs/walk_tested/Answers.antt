use Rattle.std.proofs.lemmas.Result.{err_from_is_err_and}
use Rattle.walker.proofs.Walking.{walk_not_table, walk_bad_jobs, walk_frame, walk_done}
use Rattle.walker.proofs.walk_tested.Goals as goal

pub returns-in_err-test_table : goal.returns-in_err-test_table
returns-in_err-test_table c =
    let p = err_from_is_err_and c.from_residual.result c.from_residual.ensures.1 in
    rw (p.1, p.2) (walk_not_table _ _ _ _ _ _ _ _ c.in_err-test_table.ensures)

pub returns-in_err-jobs : goal.returns-in_err-jobs
returns-in_err-jobs c =
    let p = err_from_is_err_and c.from_residual-in_err-jobs.result c.from_residual-in_err-jobs.ensures.1 in
    rw (p.1, p.2) (walk_bad_jobs _ _ _ _ _ _ _ c.in_ok-test_table.ensures _ c.in_err-jobs.ensures.0)

pub walk_task-requires : goal.walk_task-requires
walk_task-requires c = walk_frame _ _ _ c.args.task c.args.releases.now c.args.units.now c.args.finishes.now c.in_ok-test_table.ensures

pub returns : goal.returns
returns c =
    walk_done _ _ _ _ _ _ _ c.in_ok-test_table.ensures c.in_ok-jobs.ensures.1.0 _ _
    (rw (c.in_ok-jobs.ensures.1.1, c.in_ok-jobs.ensures.1.2) at c.walk_task.ensures)
