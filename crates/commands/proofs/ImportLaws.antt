-- Laws of the command `import`: its trace, the status of a run whose text is rejected, and the
-- reads.
use Rattle.std.proofs.Common.{◌≡◌, ℕ, ◌+◌, ◌-◌, List, [], arith, refl, sym, ap, subst, inl, Option, Some, None, Ok, Err}
use Rattle.std.specs.Prelude.{IsErrOf, Result}
use Rattle.outside.specs.Outside.{Files, IsAbsent, content_of}
use Rattle.outside.specs.Reads.{ReadCall, ReadsFile}
use Rattle.outside.proofs.ReadOrder.{file_stops}
use Rattle.psi_base.specs.declared.event.Event.{Event}
use Rattle.psi_spec.specs.Trace.{IsCpuCount}
use Rattle.psi_spec.specs.World.{first_world}
use Rattle.import_spec.specs.Import.{Refused, import_of, import_trace}
use Rattle.ftrace_import.specs.Gathers.{CausesImportFault, RefusalOf, StopsAtRefusal as TextStops, ShowsNothing, shelf_fault}
use Rattle.ftrace_import.specs.Stands.{Ends}
use Rattle.ftrace_import.specs.declared.text.ImportFault.{ImportFault}
use Rattle.ftrace_import.specs.declared.text.ImportFault.TheVariants as fault
use Rattle.run_spec.specs.declared.command.Command.TheVariants.{Import}
use Rattle.run_spec.specs.declared.status.Status.{Status}
use Rattle.run_spec.specs.declared.status.Status.TheVariants as status
use Rattle.run_spec.specs.declared.status.Which.TheVariants.{ImportFile}
use Rattle.run_spec.specs.Outputs.{or_not_imported}
use Rattle.run_spec.specs.ReadOrder.{ReadsInOrder}
use Rattle.run_spec.specs.Run.{RunCounts, Runs, TakesTrace}
use Rattle.run_spec.specs.Stops.{StopsAtRefusal, refused_line, rules_read}
use Rattle.commands.specs.Import.{IsStatusOfImport}
use Rattle.run_outcomes.proofs.RunLaws.{counts_written, file_there, is_named, keeps_same, out_of_memory_at, missed_counts, no_events, read_failed, rules_there, same_name, stays, takes_events}
use Rattle.run_outcomes.proofs.RunStops.{fewer_read}

-- The command `import` takes the trace of the events that its text gives.
pub takes_import : (name : List ℕ) (cpus : ℕ) (files : Option Files) (events : List Event) → IsCpuCount cpus → Ends cpus first_world events
    → ((bytes : List ℕ) → content_of files name ≡ Some bytes → import_of cpus bytes ≡ Ok events)
    → TakesTrace (Import name cpus) files (import_trace cpus events)
takes_import name cpus files events counted ends read = record {
  version = inl refl;
  cpus = counted;
  known = ends.run.known;
  accepted = record { fit = ends.run.fit; legal = ends.run.legal; ends = ends.ends };
  read = λ bytes known. ap (or_not_imported cpus) (read bytes (subst (λ n. content_of files n ≡ Some bytes) (same_name (Import name cpus) ImportFile name known.0 refl known.1) known.2));
}

-- The status of a run whose text can't be imported keeps the general contract.
pub not_imported : {T : Type 0} → (name : List ℕ) (cpus : ℕ) (files : Option Files) (before now : RunCounts) (had : Option (List ℕ)) (found : ImportFault) (result : Status)
    → ((bytes : List ℕ) → content_of files name ≡ Some bytes → RefusalOf found (import_of cpus bytes)) → (IsAbsent files name → ShowsNothing {A = Unit {0}} (Err found))
    → (IsErrOf {T = T} (Err found) fault.NoFile → content_of files name ≡ None)
    → CausesImportFault {A = T} before.shelf now.shelf (Err found) → now.writes ≡ before.writes
    → IsStatusOfImport found result → Runs (Import name cpus) files before now had had result
not_imported name cpus files before now had (fault.Refused line why) result refused lacking missed causes writes is =
    let command = Import name cpus in
    subst (Runs command files before now had had) (sym is) (record {
      ends = (keeps_same had, is_named command ImportFile name refl, ([], takes_events command None None files [] refl refl (no_events files), rules_there command files [] (no_events files)), file_there command ImportFile name files refl lacking, λ bytes known. ap (or_not_imported cpus) (refused bytes (subst (λ n. content_of files n ≡ Some bytes) (same_name command ImportFile name known.0 refl known.1) known.2)));
      counts = counts_written before now (status.Import line why) (causes.faults_same (λ is. cc is)) (causes.absent_same (λ is. cc is)) (λ is. cc is) (λ is. cc is.1) (stays _ before.writes now.writes (λ is. cc is) writes);
    })
not_imported name cpus files before now had fault.NoFile result refused lacking missed causes writes is =
    let command = Import name cpus in
    subst (Runs command files before now had had) (sym is) (record {
      ends = (keeps_same had, ([], takes_events command None None files [] refl refl (no_events files), rules_there command files [] (no_events files)), (name, refl, missed refl));
      counts = missed_counts ImportFile before now (causes.faults_same (λ is. cc is)) (causes.missed refl) writes;
    })
not_imported name cpus files before now had fault.ReadFault result refused lacking missed causes writes is =
    let command = Import name cpus in
    subst (Runs command files before now had had) (sym is) (read_failed command files before now had (ImportFile, is_named command ImportFile name refl) (causes.failed refl) (causes.absent_same (λ is. cc is)) writes)
not_imported name cpus files before now had (fault.NoMemory _) result refused lacking missed causes writes is =
    subst (Runs (Import name cpus) files before now had had) (sym is) (out_of_memory_at (Import name cpus) files before now had (causes.faults_same (λ is. cc is)) (causes.absent_same (λ is. cc is)) writes)

-- ---- where reading a text stops

-- If the status of a run reports a rejected text, the text has a rejected line, which the status
-- names.
import_refused_at : (cpus : ℕ) (read : Result (List Event) Refused) (why : Status) → or_not_imported cpus read ≡ Err why → (refusal : Refused) × (read ≡ Err refusal) × (refused_line why ≡ refusal.line)
import_refused_at cpus (Ok events) why is = absurd (let no : ⊥ = cc is in no)
import_refused_at cpus (Err refusal) why is =
    let same : status.Import refusal.line refusal.cause ≡ why = cc is in
    (refusal, refl, ap refused_line (sym same))

-- The reads of an import stop at the first rejected line. No rules file is read before the text.
pub import_stops : (name : List ℕ) (cpus : ℕ) (files : Option Files) (bytes_read read_now : ℕ) (found : ImportFault) (result : Status) → TextStops {A = Unit {0}} (import_of cpus) (content_of files name) bytes_read read_now (Err found)
    → IsStatusOfImport found result → StopsAtRefusal (Import name cpus) files bytes_read read_now result
import_stops name cpus files bytes_read read_now (fault.Refused line why) result stops is = subst (StopsAtRefusal (Import name cpus) files bytes_read read_now) (sym is) (omega (arith, stops))
import_stops name cpus files bytes_read read_now fault.NoFile result stops is = subst (StopsAtRefusal (Import name cpus) files bytes_read read_now) (sym is) tt
import_stops name cpus files bytes_read read_now fault.ReadFault result stops is =
    subst (StopsAtRefusal (Import name cpus) files bytes_read read_now) (sym is) (λ bytes why known refuses.
    let shows = subst (λ n. content_of files n ≡ Some bytes) (same_name (Import name cpus) ImportFile name known.0 refl known.1) known.2 in
    let refused = import_refused_at cpus (import_of cpus bytes) why refuses in
    let within = stops bytes refused.0 shows refused.1 in
    fewer_read (refused_line why) (read_now - (bytes_read + rules_read (Import name cpus) files)) (read_now - bytes_read) bytes (omega arith) (omega (arith, within, refused.2)))
import_stops name cpus files bytes_read read_now (fault.NoMemory none) result stops is = subst (StopsAtRefusal (Import name cpus) files bytes_read read_now) (sym is) tt

-- ---- the order of reads

-- An import whose text is rejected or can't be read has read its file in order.
pub import_order : (name : List ℕ) (cpus : ℕ) (files : Option Files) (before now : List ReadCall) (found : ImportFault) (result : Status) → ReadsFile name 0 before now (shelf_fault found)
    → IsStatusOfImport found result → ReadsInOrder (Import name cpus) files before now result
import_order name cpus files before now (fault.Refused line why) result reads is = subst (ReadsInOrder (Import name cpus) files before now) (sym is) (file_stops name [] before now reads)
import_order name cpus files before now fault.NoFile result reads is = subst (ReadsInOrder (Import name cpus) files before now) (sym is) (name, before, refl, refl, reads)
import_order name cpus files before now fault.ReadFault result reads is =
    subst (ReadsInOrder (Import name cpus) files before now) (sym is)
    (ImportFile, (name, before, refl, refl, reads), ([], takes_events (Import name cpus) None None files [] refl refl (no_events files), rules_there (Import name cpus) files [] (no_events files)))
import_order name cpus files before now (fault.NoMemory none) result reads is = subst (ReadsInOrder (Import name cpus) files before now) (sym is) (file_stops name [] before now reads)
