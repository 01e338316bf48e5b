use Rattle.walker.proofs.Walking.{spans_lacks, spans_short, spans_done, spans_ready}
use Rattle.walker.proofs.walk_spans.Goals as goal

pub returns-in-Some : goal.returns-in-Some
returns-in-Some c = spans_lacks _ _ _ _ _ _ c.args.service.now.ready c.args.service.now.counted _ c.in-Some.ensures

pub returns-then-finishes-jobs : goal.returns-then-finishes-jobs
returns-then-finishes-jobs c =
    spans_short _ _ _ _ _ _ c.args.service.now.ready c.args.service.now.counted c.in_default.ensures c.if-finishes-jobs.true

pub finish_all-requires : goal.finish_all-requires
finish_all-requires c =
    spans_ready _ _ _ _ _ _ c.args.service.now.ready c.args.service.now.counted c.in_default.ensures c.if-finishes-jobs.false

pub returns : goal.returns
returns c =
    spans_done _ _ _ _ _ _ c.args.service.now.ready c.args.service.now.counted c.in_default.ensures c.if-finishes-jobs.false _ c.finish_all.ensures
