use Rattle.std.proofs.Common.{refl, []}
use Rattle.psi_spec.specs.Trace.{text_of}
use Rattle.import_spec.specs.Import.{import_trace}
use Rattle.run_spec.specs.declared.command.Command.TheVariants.{Import}
use Rattle.outside.proofs.ReadOrder.{file_stops}
use Rattle.commands.proofs.ImportLaws.{import_order, import_stops, not_imported, takes_import}
use Rattle.run_outcomes.proofs.RunLaws.{no_events, runs_written}
use Rattle.run_outcomes.proofs.RunOrder.{written_order}
use Rattle.run_outcomes.proofs.RunStops.{written_stops}
use Rattle.commands.proofs.import.run_import.Goals as goal

pub returns-in-Ok-clause-runs : goal.returns-in-Ok-clause-runs
returns-in-Ok-clause-runs g c =
    let name = c.args.name.now in
    let cpus = c.args.cpus in
    let files = g.S.Shelf.holds c.args.shelf.now in
    let events = c.in-Ok.events.left in
    let causes = c.in-Ok.ensures.cause in
    runs_written (Import name cpus) name files _ _ _ _ (import_trace cpus events) [] (text_of (import_trace cpus events)) c.write_imported.result refl
    (takes_import name cpus files events c.requires c.in-Ok.ensures.accepted c.in-Ok.ensures.content)
    (no_events files) c.in-Ok.ensures.missing (refl, refl) (causes.faults_same (λ is. cc is)) (causes.absent_same (λ is. cc is)) c.write_imported.ensures.writes

pub returns-in-Err-clause-runs : goal.returns-in-Err-clause-runs
returns-in-Err-clause-runs g c =
    not_imported c.args.name.now c.args.cpus (g.S.Shelf.holds c.args.shelf.now) _ _ _ c.in-Err.fault c.import_status.result
    c.in-Err.ensures.content c.in-Err.ensures.missing c.in-Err.ensures.missed c.in-Err.ensures.cause refl c.import_status.ensures

pub returns-in-Ok-clause-stops : goal.returns-in-Ok-clause-stops
returns-in-Ok-clause-stops g c = written_stops (Import c.args.name.now c.args.cpus) (g.S.Shelf.holds c.args.shelf.now) _ _ _ _ _ _ _ c.write_imported.result c.write_imported.ensures.writes

pub returns-in-Err-clause-stops : goal.returns-in-Err-clause-stops
returns-in-Err-clause-stops g c = import_stops c.args.name.now c.args.cpus (g.S.Shelf.holds c.args.shelf.now) _ _ c.in-Err.fault c.import_status.result c.in-Err.ensures.stops c.import_status.ensures

pub returns-in-Ok-clause-order : goal.returns-in-Ok-clause-order
returns-in-Ok-clause-order g c =
    written_order (Import c.args.name.now c.args.cpus) (g.S.Shelf.holds c.args.shelf.now) _ _ _ _ _ _ _ c.write_imported.result (file_stops c.args.name.now [] _ _ c.in-Ok.ensures.order) c.write_imported.ensures.writes

pub returns-in-Err-clause-order : goal.returns-in-Err-clause-order
returns-in-Err-clause-order g c = import_order c.args.name.now c.args.cpus (g.S.Shelf.holds c.args.shelf.now) _ _ c.in-Err.fault c.import_status.result c.in-Err.ensures.order c.import_status.ensures
