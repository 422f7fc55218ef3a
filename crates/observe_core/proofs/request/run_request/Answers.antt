use Rattle.run_spec.specs.Run.{run_counts}
use Rattle.outside.specs.Outside.{content_of}
use Rattle.observe_core.specs.Requested.{request_in}
use Rattle.observe_core.proofs.RunLaws.{observed_order, planned_for, refused_order, runs_observed, takes_trace}
use Rattle.observe_core.proofs.request.run_request.Goals as goal

pub returns-in-Ok-clause-runs : goal.returns-in-Ok-clause-runs
returns-in-Ok-clause-runs g c =
    let request = request_in c.args.request.now in
    let files = g.S.Shelf.holds c.args.shelf.now in
    let before = run_counts (g.S.Shelf.faults c.args.shelf.now) (g.S.Shelf.absent c.args.shelf.now) (g.K.Sink.faults c.args.out.now) in
    let now = run_counts (g.S.Shelf.faults c.read_plans.new.shelf) (g.S.Shelf.absent c.read_plans.new.shelf) (g.K.Sink.faults c.write_observed.new.out) in
    let read = c.in-Ok.ensures.content in
    let wrote = c.write_observed.ensures.writes read.trace (planned_for c.in-Ok.plans c.in-Ok.version request.path (content_of files request.trace) read) in
    runs_observed request files before now (g.K.Sink.has c.args.out.now) (g.K.Sink.has c.write_observed.new.out) read.trace c.write_observed.result
    (takes_trace request files c.in-Ok.plans c.in-Ok.version read) (λ lacks. c.in-Ok.ensures.missing lacks)
    (c.in-Ok.ensures.cause.faults_same (λ e. cc e)) (c.in-Ok.ensures.cause.absent_same (λ e. cc e)) wrote

pub returns-in-Ok-clause-order : goal.returns-in-Ok-clause-order
returns-in-Ok-clause-order g c =
    let request = request_in c.args.request.now in
    let files = g.S.Shelf.holds c.args.shelf.now in
    let read = c.in-Ok.ensures.content in
    let wrote = c.write_observed.ensures.writes read.trace (planned_for c.in-Ok.plans c.in-Ok.version request.path (content_of files request.trace) read) in
    observed_order request _ _ read.trace _ _ _ _ c.write_observed.result c.in-Ok.ensures.order wrote

pub returns-in-Err-clause-order : goal.returns-in-Err-clause-order
returns-in-Err-clause-order g c = refused_order (request_in c.args.request.now) _ _ c.in-Err.fault c.fault_status.result c.in-Err.ensures.order c.fault_status.ensures.status
