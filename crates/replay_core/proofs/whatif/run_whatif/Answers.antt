use Rattle.std.proofs.Common.{Err, Some, arith, refl, sym, ap, ◌∙◌, subst}
use Rattle.outside.specs.Outside.{content_of}
use Rattle.psi_spec.specs.Grammar.{versions}
use Rattle.psi_spec.specs.Header.{version_of}
use Rattle.psi_spec.specs.Trace.{accepts_with, limits_of}
use Rattle.run_spec.specs.Outputs.{of_ms, timing_of}
use Rattle.outside.specs.Reads.{ReadsEach}
use Rattle.run_spec.specs.ReadOrder.{names_of_rules}
use Rattle.run_spec.specs.Stops.{read_of_rules}
use Rattle.run_spec.specs.declared.command.Command.TheVariants.{Whatif}
use Rattle.trace_file.specs.Reads.{StopsAtRefusal, trace_with}
use Rattle.run_outcomes.specs.Rules.{RulesOption}
use Rattle.run_outcomes.proofs.RunLaws.{runs_refused, runs_supposed, takes_any}
use Rattle.run_outcomes.proofs.RunOrder.{rules_then, supposed_order, trace_order}
use Rattle.run_outcomes.proofs.RunStops.{supposed_stops, trace_stops}
use Rattle.replay_core.proofs.WhatifLaws.{kept_accepted, kept_written}
use Rattle.replay_core.proofs.whatif.run_whatif.Goals as goal

pub write_whatif-requires-clause-trace : goal.write_whatif-requires-clause-trace
write_whatif-requires-clause-trace g c κs within =
    let options = c.args.options.now in
    let keeper = c.in-Ok-play_trace.keeper in
    let read = rw (c.from-tick.ensures, c.in-Ok.ensures.unchanged) at c.in-Ok-play_trace.ensures.content in
    kept_accepted options c.in-Ok-play_trace.version keeper.cpus read.cpus keeper.events.items read.events keeper.table.limits keeper.table.world read.counted read.accepted read.played

pub returns-in-Ok-play_trace-clause-runs : goal.returns-in-Ok-play_trace-clause-runs
returns-in-Ok-play_trace-clause-runs g c =
    let options = c.args.options.now in
    let command = Whatif c.args.name.now options in
    let files = g.S.Shelf.holds c.args.shelf.now in
    let keeper = c.in-Ok-play_trace.keeper in
    let bytes_read = c.in-Ok.ensures.answer in
    let read = rw (c.from-tick.ensures, c.in-Ok.ensures.unchanged) at c.in-Ok-play_trace.ensures.content in
    let limits = limits_of (of_ms options.tick_ms) read.cpus in
    let wrote = kept_written c.in-Ok-play_trace.version keeper.cpus read.cpus keeper.events.items read.events limits keeper.table.limits keeper.table.world (timing_of options) c.in-Ok.rules.rules _ _ _ _ c.write_whatif.result refl read.played c.write_whatif.ensures.writes in
    let causes = c.in-Ok-play_trace.ensures.cause in
    runs_supposed c.args.name.now options files _ _ _ _ (trace_with (version_of c.in-Ok-play_trace.version) read.cpus read.events) c.in-Ok.rules.rules c.write_whatif.result
    (takes_any command c.args.name.now files (version_of c.in-Ok-play_trace.version) read.cpus read.events (λ bytes. refl) refl refl read.counted read.known_verbs read.accepted read.read)
    (subst (λ named. RulesOption named options.drop_in files c.in-Ok.rules.rules) (sym c.in-Some.is) (subst (λ n. RulesOption (Some n) options.drop_in files c.in-Ok.rules.rules) c.name_of.ensures bytes_read.0))
    (rw c.in-Ok.ensures.unchanged at c.in-Ok-play_trace.ensures.missing) (causes.faults_same (λ is. cc is) ∙ bytes_read.1.faults) (causes.absent_same (λ is. cc is) ∙ bytes_read.1.absent) wrote

pub returns-in-Err-clause-runs : goal.returns-in-Err-clause-runs
returns-in-Err-clause-runs g c = c.in-Err.ensures.answer (Whatif c.args.name.now c.args.options.now) _ _ (c.in-Some.is ∙ ap (λ n. Some n) (sym c.name_of.ensures)) refl

pub returns-in-Err-play_trace-clause-runs : goal.returns-in-Err-play_trace-clause-runs
returns-in-Err-play_trace-clause-runs g c =
    let options = c.args.options.now in
    let files = g.S.Shelf.holds c.args.shelf.now in
    let bytes_read = c.in-Ok.ensures.answer in
    runs_refused (Whatif c.args.name.now options) c.args.name.now files _ _ _ c.in-Ok.rules.rules c.in-Err-play_trace.fault c.fault_status.result (λ bytes. refl) refl
    (subst (λ named. RulesOption named options.drop_in files c.in-Ok.rules.rules) (sym c.in-Some.is) (subst (λ n. RulesOption (Some n) options.drop_in files c.in-Ok.rules.rules) c.name_of.ensures bytes_read.0))
    (rw (c.from-tick.ensures, c.in-Ok.ensures.unchanged) at c.in-Err-play_trace.ensures.content) (rw c.in-Ok.ensures.unchanged at c.in-Err-play_trace.ensures.missing) (rw c.in-Ok.ensures.unchanged at c.in-Err-play_trace.ensures.missed)
    (rw (bytes_read.1.faults, bytes_read.1.absent) at c.in-Err-play_trace.ensures.cause) refl c.fault_status.ensures.status

pub returns-in-Ok-play_trace-clause-stops : goal.returns-in-Ok-play_trace-clause-stops
returns-in-Ok-play_trace-clause-stops g c =
    supposed_stops (Whatif c.args.name.now c.args.options.now) (g.S.Shelf.holds c.args.shelf.now) _ _ _ _ _ _ _ _ _ c.write_whatif.result c.write_whatif.ensures.writes

pub returns-in-Err-clause-stops : goal.returns-in-Err-clause-stops
returns-in-Err-clause-stops g c = c.in-Err.ensures.stops (Whatif c.args.name.now c.args.options.now) (c.in-Some.is ∙ ap (λ n. Some n) (sym c.name_of.ensures)) refl

pub returns-in-Err-play_trace-clause-stops : goal.returns-in-Err-play_trace-clause-stops
returns-in-Err-play_trace-clause-stops g c =
    let name = c.args.name.now in
    let files = g.S.Shelf.holds c.args.shelf.now in
    let tick = of_ms c.from-tick.result in
    let bytes_read = g.S.Shelf.bytes_read c.args.shelf.now in
    let middle = g.S.Shelf.bytes_read c.read_joined.new.shelf in
    let now = g.S.Shelf.bytes_read c.play_trace.new.shelf in
    let found = c.in-Err-play_trace.fault in
    let same = ap (λ n. accepts_with versions (of_ms n)) (sym c.from-tick.ensures) in
    let base = ap (read_of_rules files) (c.in-Some.is ∙ ap (λ n. Some n) (sym c.name_of.ensures)) in
    let stops = subst (λ held. StopsAtRefusal {A = Unit {0}} tick (content_of held name) middle now (Err found)) c.in-Ok.ensures.unchanged c.in-Err-play_trace.ensures.stops in
    trace_stops (Whatif name c.args.options.now) name tick files bytes_read middle now found c.fault_status.result (λ bytes. refl) refl same (omega (arith, base, c.in-Ok.ensures.within)) stops c.fault_status.ensures.status

pub returns-in-Ok-play_trace-clause-order : goal.returns-in-Ok-play_trace-clause-order
returns-in-Ok-play_trace-clause-order g c =
    let options = c.args.options.now in
    let command = Whatif c.args.name.now options in
    let log = g.S.Shelf.reads c.args.shelf.now in
    let middle = g.S.Shelf.reads c.read_joined.new.shelf in
    let rules_read = subst (λ named. ReadsEach (names_of_rules named options.drop_in) log middle) (sym c.in-Some.is) (subst (λ n. ReadsEach (names_of_rules (Some n) options.drop_in) log middle) c.name_of.ensures c.in-Ok.ensures.order) in
    supposed_order command (g.S.Shelf.holds c.args.shelf.now) _ _ _ _ _ _ _ _ _ c.write_whatif.result (rules_then command c.args.name.now log middle _ refl rules_read c.in-Ok-play_trace.ensures.order) c.write_whatif.ensures.writes

pub returns-in-Err-clause-order : goal.returns-in-Err-clause-order
returns-in-Err-clause-order g c = c.in-Err.ensures.order (Whatif c.args.name.now c.args.options.now) (c.in-Some.is ∙ ap (λ n. Some n) (sym c.name_of.ensures)) refl

pub returns-in-Err-play_trace-clause-order : goal.returns-in-Err-play_trace-clause-order
returns-in-Err-play_trace-clause-order g c =
    let options = c.args.options.now in
    let files = g.S.Shelf.holds c.args.shelf.now in
    let log = g.S.Shelf.reads c.args.shelf.now in
    let middle = g.S.Shelf.reads c.read_joined.new.shelf in
    let bytes_read = c.in-Ok.ensures.answer in
    let rules_read = subst (λ named. ReadsEach (names_of_rules named options.drop_in) log middle) (sym c.in-Some.is) (subst (λ n. ReadsEach (names_of_rules (Some n) options.drop_in) log middle) c.name_of.ensures c.in-Ok.ensures.order) in
    trace_order (Whatif c.args.name.now options) c.args.name.now files c.in-Ok.rules.rules log middle _ c.in-Err-play_trace.fault c.fault_status.result refl refl
    (subst (λ named. RulesOption named options.drop_in files c.in-Ok.rules.rules) (sym c.in-Some.is) (subst (λ n. RulesOption (Some n) options.drop_in files c.in-Ok.rules.rules) c.name_of.ensures bytes_read.0))
    rules_read c.in-Err-play_trace.ensures.order c.fault_status.ensures.status
