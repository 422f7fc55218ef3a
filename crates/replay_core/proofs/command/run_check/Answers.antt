use Rattle.std.proofs.Common.{ap, arith, refl, sym, []}
use Rattle.psi_spec.specs.Grammar.{versions}
use Rattle.psi_spec.specs.Header.{version_of}
use Rattle.psi_spec.specs.Trace.{accepts_with}
use Rattle.run_spec.specs.Outputs.{of_ms}
use Rattle.run_spec.specs.Text.{check_text}
use Rattle.run_spec.specs.declared.command.Command.TheVariants.{Check}
use Rattle.trace_file.specs.Reads.{trace_with}
use Rattle.run_outcomes.proofs.RunLaws.{no_events, runs_refused, runs_written, takes_any}
use Rattle.outside.proofs.ReadOrder.{file_stops}
use Rattle.run_outcomes.proofs.RunOrder.{trace_order, written_order}
use Rattle.run_outcomes.proofs.RunStops.{trace_stops, written_stops}
use Rattle.replay_core.proofs.command.run_check.Goals as goal

pub returns-in-Ok-clause-runs : goal.returns-in-Ok-clause-runs
returns-in-Ok-clause-runs g c =
    let command = Check c.args.name.now c.args.tick_ms in
    let read = rw c.from-tick.ensures at c.in-Ok.ensures.content in
    let causes = c.in-Ok.ensures.cause in
    let trace = trace_with (version_of c.in-Ok.field-0-0) read.cpus read.events in
    runs_written command c.args.name.now (g.S.Shelf.holds c.args.shelf.now) _ _ _ _ trace [] (check_text trace) c.write_checked.result refl
    (takes_any command c.args.name.now (g.S.Shelf.holds c.args.shelf.now) (version_of c.in-Ok.field-0-0) read.cpus read.events (λ bytes. refl) refl refl read.counted read.known_verbs read.accepted read.read)
    (no_events (g.S.Shelf.holds c.args.shelf.now)) c.in-Ok.ensures.missing refl (causes.faults_same (λ is. cc is)) (causes.absent_same (λ is. cc is)) (c.write_checked.ensures.writes _ read.events read.played)

pub returns-in-Err-clause-runs : goal.returns-in-Err-clause-runs
returns-in-Err-clause-runs g c =
    let files = g.S.Shelf.holds c.args.shelf.now in
    runs_refused (Check c.args.name.now c.args.tick_ms) c.args.name.now files _ _ _ [] c.in-Err.fault c.fault_status.result (λ bytes. refl) refl (no_events files)
    (rw c.from-tick.ensures at c.in-Err.ensures.content) c.in-Err.ensures.missing c.in-Err.ensures.missed c.in-Err.ensures.cause refl c.fault_status.ensures.status

pub returns-in-Ok-clause-stops : goal.returns-in-Ok-clause-stops
returns-in-Ok-clause-stops g c =
    let read = rw c.from-tick.ensures at c.in-Ok.ensures.content in
    written_stops (Check c.args.name.now c.args.tick_ms) (g.S.Shelf.holds c.args.shelf.now) _ _ _ _ _ _ _ c.write_checked.result (c.write_checked.ensures.writes _ read.events read.played)

pub returns-in-Err-clause-stops : goal.returns-in-Err-clause-stops
returns-in-Err-clause-stops g c =
    let same = ap (λ n. accepts_with versions (of_ms n)) (sym c.from-tick.ensures) in
    trace_stops (Check c.args.name.now c.args.tick_ms) c.args.name.now (of_ms c.from-tick.result) (g.S.Shelf.holds c.args.shelf.now) (g.S.Shelf.bytes_read c.args.shelf.now) (g.S.Shelf.bytes_read c.args.shelf.now) _ c.in-Err.fault c.fault_status.result (λ bytes. refl) refl same (omega arith)
    c.in-Err.ensures.stops c.fault_status.ensures.status

pub returns-in-Ok-clause-order : goal.returns-in-Ok-clause-order
returns-in-Ok-clause-order g c =
    let read = rw c.from-tick.ensures at c.in-Ok.ensures.content in
    written_order (Check c.args.name.now c.args.tick_ms) (g.S.Shelf.holds c.args.shelf.now) _ _ _ _ _ _ _ c.write_checked.result (file_stops c.args.name.now [] _ _ c.in-Ok.ensures.order) (c.write_checked.ensures.writes _ read.events read.played)

pub returns-in-Err-clause-order : goal.returns-in-Err-clause-order
returns-in-Err-clause-order g c =
    let files = g.S.Shelf.holds c.args.shelf.now in
    trace_order (Check c.args.name.now c.args.tick_ms) c.args.name.now files [] _ _ _ c.in-Err.fault c.fault_status.result refl refl (no_events files) refl c.in-Err.ensures.order c.fault_status.ensures.status
