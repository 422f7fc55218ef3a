use Rattle.std.proofs.Common.{Err, ap, refl, subst, sym, ◌∙◌}
use Rattle.outside.specs.Outside.{content_of}
use Rattle.psi_spec.specs.Grammar.{versions}
use Rattle.psi_spec.specs.Trace.{accepts_with}
use Rattle.run_spec.specs.Outputs.{of_ms}
use Rattle.run_spec.specs.declared.command.Command.TheVariants.{Replay}
use Rattle.replay_rules.specs.Judged.{rules_of_options}
use Rattle.psi_spec.specs.Header.{version_of}
use Rattle.trace_file.specs.Reads.{StopsAtRefusal, trace_with}
use Rattle.run_outcomes.proofs.Planned.{to_replay}
use Rattle.run_outcomes.proofs.RunLaws.{runs_written, takes_any}
use Rattle.run_outcomes.proofs.RunOrder.{rules_then, trace_order, written_order}
use Rattle.run_outcomes.proofs.RunStops.{trace_stops, written_stops}
use Rattle.replay_core.proofs.command.run_replay.Goals as goal

pub returns-in-Ok-play_trace-clause-runs : goal.returns-in-Ok-play_trace-clause-runs
returns-in-Ok-play_trace-clause-runs g c =
    let options = c.args.options.now in
    let command = Replay c.args.name.now options in
    let files = g.S.Shelf.holds c.args.shelf.now in
    let bytes_read = c.in-Ok.ensures.answer in
    let read = rw (c.from-tick.ensures, c.in-Ok.ensures.unchanged) at c.in-Ok-play_trace.ensures.content in
    let is = to_replay c.in-Ok-play_trace.planner options read.cpus read.events read.played read.accepted c.requires.some c.requires.short c.requires.interval c.requires.often c.requires.workers in
    let wrote = c.write_replay.ensures.writes _ read.events is in
    let causes = c.in-Ok-play_trace.ensures.cause in
    runs_written command c.args.name.now files _ _ _ _ (trace_with (version_of c.in-Ok-play_trace.version) read.cpus read.events) (rules_of_options c.in-Ok.rules) wrote.0 c.write_replay.result refl
    (takes_any command c.args.name.now files (version_of c.in-Ok-play_trace.version) read.cpus read.events (λ bytes. refl) refl refl read.counted read.known_verbs read.accepted read.read)
    bytes_read.0 (rw c.in-Ok.ensures.unchanged at c.in-Ok-play_trace.ensures.missing) wrote.1 (causes.faults_same (λ is. cc is) ∙ bytes_read.1.faults) (causes.absent_same (λ is. cc is) ∙ bytes_read.1.absent) wrote.2

pub returns-in-Err-clause-runs : goal.returns-in-Err-clause-runs
returns-in-Err-clause-runs g c = c.in-Err.ensures.answer (Replay c.args.name.now c.args.options.now) _ _ refl refl

pub returns-in-Ok-play_trace-clause-stops : goal.returns-in-Ok-play_trace-clause-stops
returns-in-Ok-play_trace-clause-stops g c =
    let options = c.args.options.now in
    let read = rw (c.from-tick.ensures, c.in-Ok.ensures.unchanged) at c.in-Ok-play_trace.ensures.content in
    let is = to_replay c.in-Ok-play_trace.planner options read.cpus read.events read.played read.accepted c.requires.some c.requires.short c.requires.interval c.requires.often c.requires.workers in
    let wrote = c.write_replay.ensures.writes _ read.events is in
    written_stops (Replay c.args.name.now options) (g.S.Shelf.holds c.args.shelf.now) _ _ _ _ _ _ _ c.write_replay.result wrote.2

pub returns-in-Err-clause-stops : goal.returns-in-Err-clause-stops
returns-in-Err-clause-stops g c = c.in-Err.ensures.stops (Replay c.args.name.now c.args.options.now) refl refl

pub returns-in-Err-play_trace-clause-stops : goal.returns-in-Err-play_trace-clause-stops
returns-in-Err-play_trace-clause-stops g c =
    let name = c.args.name.now in
    let tick = of_ms c.from-tick.result in
    let bytes_read = g.S.Shelf.bytes_read c.args.shelf.now in
    let middle = g.S.Shelf.bytes_read c.read_rules.new.shelf in
    let now = g.S.Shelf.bytes_read c.play_trace.new.shelf in
    let found = c.in-Err-play_trace.fault in
    let same = ap (λ n. accepts_with versions (of_ms n)) (sym c.from-tick.ensures) in
    let stops = subst (λ held. StopsAtRefusal {A = Unit {0}} tick (content_of held name) middle now (Err found)) c.in-Ok.ensures.unchanged c.in-Err-play_trace.ensures.stops in
    trace_stops (Replay name c.args.options.now) name tick (g.S.Shelf.holds c.args.shelf.now) bytes_read middle now found c.fault_status.result (λ bytes. refl) refl same c.in-Ok.ensures.within stops c.fault_status.ensures.status

pub returns-in-Ok-play_trace-clause-order : goal.returns-in-Ok-play_trace-clause-order
returns-in-Ok-play_trace-clause-order g c =
    let options = c.args.options.now in
    let command = Replay c.args.name.now options in
    let read = rw (c.from-tick.ensures, c.in-Ok.ensures.unchanged) at c.in-Ok-play_trace.ensures.content in
    let is = to_replay c.in-Ok-play_trace.planner options read.cpus read.events read.played read.accepted c.requires.some c.requires.short c.requires.interval c.requires.often c.requires.workers in
    let wrote = c.write_replay.ensures.writes _ read.events is in
    written_order command (g.S.Shelf.holds c.args.shelf.now) _ _ _ _ _ _ _ c.write_replay.result (rules_then command c.args.name.now _ _ _ refl c.in-Ok.ensures.order c.in-Ok-play_trace.ensures.order) wrote.2

pub returns-in-Err-clause-order : goal.returns-in-Err-clause-order
returns-in-Err-clause-order g c = c.in-Err.ensures.order (Replay c.args.name.now c.args.options.now) refl refl

pub returns-in-Err-play_trace-clause-order : goal.returns-in-Err-play_trace-clause-order
returns-in-Err-play_trace-clause-order g c =
    let bytes_read = c.in-Ok.ensures.answer in
    trace_order (Replay c.args.name.now c.args.options.now) c.args.name.now (g.S.Shelf.holds c.args.shelf.now) (rules_of_options c.in-Ok.rules) _ _ _ c.in-Err-play_trace.fault c.fault_status.result refl refl
    bytes_read.0 c.in-Ok.ensures.order c.in-Err-play_trace.ensures.order c.fault_status.ensures.status
