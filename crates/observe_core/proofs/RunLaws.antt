-- Proofs about the status of a run, by the results of reading a trace, observing it and writing.
use Rattle.std.proofs.Common.{◌≡◌, ◌≢◌, ◌⊎◌, inl, inr, ℕ, ◌<◌, ◌≤◌, List, arith, refl, sym, ap, ◌∙◌, subst, Option, None, Some, Ok, Err}
use Rattle.std.specs.Prelude.{IsErrOf, Result}
use Rattle.std.specs.Io.KnownBytes.{Appends, Keeps}
use Rattle.psi_base.specs.Memory.{no_memory}
use Rattle.outside.specs.Outside.{Files, IsAbsent, Increased, content_of}
use Rattle.outside.specs.Reads.{ReadCall, ReadsFile}
use Rattle.psi_base.specs.declared.event.Refusal.{Refusal}
use Rattle.psi_spec.specs.Grammar.{versions}
use Rattle.psi_spec.specs.Trace.{Trace, limits_of, trace_of}
use Rattle.psi_spec.specs.Within.{last_moment}
use Rattle.plan_laws.proofs.PlanStates.{legal_after}
use Rattle.proc_plan.specs.Plans.{PlansView}
use Rattle.run_spec.specs.Run.{RisesWhere, RunCounts}
use Rattle.trace_file.specs.Reads.{CausesTraceFault, PlansRead, RefusalOf, StopsAtRefusal, ShowsNothing, shelf_fault}
use Rattle.trace_file.specs.declared.trace.TraceFault.{TraceFault}
use Rattle.trace_file.specs.declared.trace.TraceFault.TheVariants as fault
use Rattle.run_outcomes.proofs.RunLaws.{keeps_same, stays}
use Rattle.observe_spec.specs.declared.status.ObserveStatus.{ObserveStatus}
use Rattle.observe_spec.specs.declared.status.ObserveStatus.TheVariants as status
use Rattle.observe_spec.specs.Observed.{IsObservedText}
use Rattle.observe_spec.specs.Run.{ObservingEnds, ObserverFailuresAreCounted, Observes, ReadsTraceInOrder, StopsObserving, TakesRequestedTrace, accepts, most_samples, timing_on, samples_requested, observed_tick_length}
use Rattle.observe_spec.specs.Words.{Request}
use Rattle.observe_core.specs.Results.{IsPlannedFor, IsStatusOf, WritesObserved}

-- ---- a trace that was read

-- the plans that were read represent a trace that may be replayed with observers
pub planned_for : (plans : PlansView) (number : ℕ) (path : List ℕ) (known : Option (List ℕ)) → (read : PlansRead plans number observed_tick_length known) → IsPlannedFor plans read.trace number path
planned_for plans number path known read = record {
  numbered = read.numbered;
  version = read.version;
  planned = record {
    counted = read.counted;
    represents = read.represents;
    accepted = read.accepted;
    some = omega arith;
    short = omega arith;
    due = omega arith;
  };
}

-- the trace that was read is the trace of the request
pub takes_trace : (request : Request) (files : Option Files) (plans : PlansView) (number : ℕ) → (read : PlansRead plans number observed_tick_length (content_of files request.trace)) → TakesRequestedTrace request files read.trace
takes_trace request files plans number read = record {
  cpus = read.counted;
  known = read.known_verbs;
  accepted = read.accepted;
  read = read.read;
}

-- the end of the trace is at most the last possible time
pub finish_early : (plans : PlansView) (trace : Trace) (number : ℕ) (path : List ℕ) → IsPlannedFor plans trace number path → plans.finish ≤ last_moment
finish_early plans trace number path is =
    let legal = legal_after (limits_of observed_tick_length trace.cpus) trace.events is.planned.accepted.legal in
    omega (arith, is.planned.represents.finish, legal.early)

-- ---- counts

-- the counts of a shelf are unchanged if no read failed
counts_same : (before now : RunCounts) (result : ObserveStatus) → now.shelf.faults ≡ before.shelf.faults → now.shelf.absent ≡ before.shelf.absent
    → (result ≡ status.ReadFault → ⊥) → (result ≡ status.NoFile → ⊥) → RisesWhere (result ≡ status.WriteFault) before.writes now.writes → ObserverFailuresAreCounted before now result
counts_same before now result faults absent no_read no_file writes = record {
  faults = stays (result ≡ status.ReadFault) before.shelf.faults now.shelf.faults no_read faults;
  absent = stays (result ≡ status.NoFile) before.shelf.absent now.shelf.absent no_file absent;
  writes = writes;
}

-- all counts are unchanged if neither a read nor a write failed
pub none_counted : (counts : RunCounts) (result : ObserveStatus) → (result ≡ status.ReadFault → ⊥) → (result ≡ status.NoFile → ⊥) → (result ≡ status.WriteFault → ⊥) → ObserverFailuresAreCounted counts counts result
none_counted counts result no_read no_file no_write = counts_same counts counts result refl refl no_read no_file (stays (result ≡ status.WriteFault) counts.writes counts.writes no_write refl)

-- ---- a trace that was observed

pub runs_observed : (request : Request) (files : Option Files) (before now : RunCounts) (had has : Option (List ℕ)) (trace : Trace) (result : ObserveStatus) → TakesRequestedTrace request files trace → (IsAbsent files request.trace → ⊥)
    → now.shelf.faults ≡ before.shelf.faults → now.shelf.absent ≡ before.shelf.absent → WritesObserved request trace before.writes now.writes had has result → Observes request files before now had has result
runs_observed request files before now had has trace status.Done takes held faults absent wrote = record {
  ends = (trace, takes, held, wrote.0, (wrote.1.0, wrote.1.1, wrote.1.2.0));
  counts = counts_same before now status.Done faults absent (λ is. cc is) (λ is. cc is) (stays _ before.writes now.writes (λ is. cc is) wrote.1.2.1);
}
runs_observed request files before now had has trace status.WriteFault takes held faults absent wrote = record {
  ends = (trace, takes, held, wrote.0, (wrote.1.0, wrote.1.1, wrote.1.2.0));
  counts = counts_same before now status.WriteFault faults absent (λ is. cc is) (λ is. cc is) (record { increased = λ _. wrote.1.2.1; same = λ not. absurd (not refl) });
}
runs_observed request files before now had has trace (status.TooManySamples samples) takes held faults absent wrote = record {
  ends = (wrote.0, held, (trace, takes, wrote.2, wrote.3));
  counts = counts_same before now (status.TooManySamples samples) faults absent (λ is. cc is) (λ is. cc is) (stays _ before.writes now.writes (λ is. cc is) wrote.1);
}
runs_observed request files before now had has trace (status.NoMemory _) takes held faults absent wrote = record {
  ends = wrote.0;
  counts = counts_same before now (status.NoMemory no_memory) faults absent (λ is. cc is) (λ is. cc is) (stays _ before.writes now.writes (λ is. cc is) wrote.1);
}
runs_observed request files before now had has trace status.Usage takes held faults absent wrote = absurd wrote.1.2
runs_observed request files before now had has trace status.NoFile takes held faults absent wrote = absurd wrote.1.2
runs_observed request files before now had has trace status.ReadFault takes held faults absent wrote = absurd wrote.1.2
runs_observed request files before now had has trace (status.Trace line why) takes held faults absent wrote = absurd wrote.1.2

-- ---- a trace that couldn't be read

pub runs_refused : {T : Type 0} → (request : Request) (files : Option Files) (before now : RunCounts) (had : Option (List ℕ)) (found : TraceFault) (result : ObserveStatus)
    → ((bytes : List ℕ) → content_of files request.trace ≡ Some bytes → RefusalOf found (trace_of accepts bytes)) → (IsAbsent files request.trace → ShowsNothing {A = Unit {0}} (Err found))
    → (IsErrOf {T = T} (Err found) fault.NoFile → content_of files request.trace ≡ None) → CausesTraceFault {A = T} before.shelf now.shelf (Err found) → now.writes ≡ before.writes
    → IsStatusOf found result → Observes request files before now had had result
runs_refused request files before now had (fault.Refused refusal) result refused lacking missed causes writes is =
    subst (Observes request files before now had had) (sym is) (record {
      ends = (keeps_same had, lacking, refused);
      counts = counts_same before now (status.Trace refusal.line refusal.cause) (causes.faults_same (λ e. cc e)) (causes.absent_same (λ e. cc e)) (λ e. cc e) (λ e. cc e) (stays _ before.writes now.writes (λ e. cc e) writes);
    })
runs_refused request files before now had fault.NoFile result refused lacking missed causes writes is =
    subst (Observes request files before now had had) (sym is) (record {
      ends = (keeps_same had, missed refl);
      counts = record {
        faults = stays _ before.shelf.faults now.shelf.faults (λ e. cc e) (causes.faults_same (λ e. cc e));
        absent = record { increased = λ _. causes.missed refl; same = λ not. absurd (not refl) };
        writes = stays _ before.writes now.writes (λ e. cc e) writes;
      };
    })
runs_refused request files before now had fault.ReadFault result refused lacking missed causes writes is =
    subst (Observes request files before now had had) (sym is) (record {
      ends = keeps_same had;
      counts = record {
        faults = record { increased = λ _. causes.failed refl; same = λ not. absurd (not refl) };
        absent = stays _ before.shelf.absent now.shelf.absent (λ e. cc e) (causes.absent_same (λ e. cc e));
        writes = stays _ before.writes now.writes (λ e. cc e) writes;
      };
    })
runs_refused request files before now had (fault.NoMemory _) result refused lacking missed causes writes is =
    subst (Observes request files before now had had) (sym is) (record {
      ends = keeps_same had;
      counts = counts_same before now (status.NoMemory no_memory) (causes.faults_same (λ e. cc e)) (causes.absent_same (λ e. cc e)) (λ e. cc e) (λ e. cc e) (stays _ before.writes now.writes (λ e. cc e) writes);
    })

-- ---- the end of reading

-- if a trace was observed, no line was rejected, and no read failed
pub observed_stops : (request : Request) (files : Option Files) (bytes_read read_now : ℕ) (trace : Trace) (before now : ℕ) (had has : Option (List ℕ)) (result : ObserveStatus) → WritesObserved request trace before now had has result → StopsObserving request files bytes_read read_now result
observed_stops request files bytes_read read_now trace before now had has status.Done wrote = tt
observed_stops request files bytes_read read_now trace before now had has status.WriteFault wrote = tt
observed_stops request files bytes_read read_now trace before now had has (status.TooManySamples samples) wrote = tt
observed_stops request files bytes_read read_now trace before now had has (status.NoMemory _) wrote = tt
observed_stops request files bytes_read read_now trace before now had has status.Usage wrote = tt
observed_stops request files bytes_read read_now trace before now had has status.NoFile wrote = tt
observed_stops request files bytes_read read_now trace before now had has status.ReadFault wrote = absurd wrote.1.2
observed_stops request files bytes_read read_now trace before now had has (status.Trace line why) wrote = absurd wrote.1.2

-- if the trace couldn't be read, the run stops reading at the rejected line
pub refused_stops : (request : Request) (files : Option Files) (bytes_read read_now : ℕ) (found : TraceFault) (result : ObserveStatus) → StopsAtRefusal {A = Unit {0}} observed_tick_length (content_of files request.trace) bytes_read read_now (Err found)
    → IsStatusOf found result → StopsObserving request files bytes_read read_now result
refused_stops request files bytes_read read_now (fault.Refused refusal) result stops is = subst (StopsObserving request files bytes_read read_now) (sym is) (omega (arith, stops))
refused_stops request files bytes_read read_now fault.NoFile result stops is = subst (StopsObserving request files bytes_read read_now) (sym is) tt
refused_stops request files bytes_read read_now fault.ReadFault result stops is = subst (StopsObserving request files bytes_read read_now) (sym is) (λ bytes refusal shows refuses. stops bytes refusal shows refuses)
refused_stops request files bytes_read read_now (fault.NoMemory _) result stops is = subst (StopsObserving request files bytes_read read_now) (sym is) tt

-- ---- the order of reads

-- if a trace was observed, no read failed
pub observed_order : (request : Request) (log log_now : List ReadCall) (trace : Trace) (before now : ℕ) (had has : Option (List ℕ)) (result : ObserveStatus) → ReadsFile request.trace 0 log log_now None → WritesObserved request trace before now had has result
    → ReadsTraceInOrder request log log_now result
observed_order request log log_now trace before now had has status.Done reads wrote = reads
observed_order request log log_now trace before now had has status.WriteFault reads wrote = reads
observed_order request log log_now trace before now had has (status.TooManySamples samples) reads wrote = reads
observed_order request log log_now trace before now had has (status.NoMemory _) reads wrote = reads
observed_order request log log_now trace before now had has status.Usage reads wrote = reads
observed_order request log log_now trace before now had has status.NoFile reads wrote = absurd wrote.1.2
observed_order request log log_now trace before now had has status.ReadFault reads wrote = absurd wrote.1.2
observed_order request log log_now trace before now had has (status.Trace line why) reads wrote = reads

-- if the trace couldn't be read, the status reports the failed or rejected read
pub refused_order : (request : Request) (log log_now : List ReadCall) (found : TraceFault) (result : ObserveStatus) → ReadsFile request.trace 0 log log_now (shelf_fault found) → IsStatusOf found result → ReadsTraceInOrder request log log_now result
refused_order request log log_now (fault.Refused refusal) result reads is = subst (ReadsTraceInOrder request log log_now) (sym is) reads
refused_order request log log_now fault.NoFile result reads is = subst (ReadsTraceInOrder request log log_now) (sym is) reads
refused_order request log log_now fault.ReadFault result reads is = subst (ReadsTraceInOrder request log log_now) (sym is) reads
refused_order request log log_now (fault.NoMemory _) result reads is = subst (ReadsTraceInOrder request log log_now) (sym is) reads

-- memory ran out before any file was read
pub runs_lacking : (request : Request) (files : Option Files) (counts : RunCounts) (had : Option (List ℕ)) → Observes request files counts counts had had (status.NoMemory no_memory)
runs_lacking request files counts had = record {
  ends = keeps_same had;
  counts = none_counted counts (status.NoMemory no_memory) (λ e. cc e) (λ e. cc e) (λ e. cc e);
}

-- ---- conclusions from a status

-- words that are a request don't end with Usage
pub not_usage : (request : Request) (files : Option Files) (old new : Option (List ℕ)) (result : ObserveStatus) → ObservingEnds request files old new result → result ≡ status.Usage → ⊥
not_usage request files old new result ends is = subst (ObservingEnds request files old new) is ends

-- a text of the trace was written
pub observed : (request : Request) (files : Option Files) (old new : Option (List ℕ)) (bytes : List ℕ) → content_of files request.trace ≡ Some bytes → ObservingEnds request files old new status.Done
    → (trace : Trace) × (trace_of accepts bytes ≡ Ok trace) × ((text : List ℕ) × IsObservedText trace (timing_on request.path) request.path request.observers text × Appends old new text)
observed request files old new bytes shows ends = (ends.0, ends.1.read bytes shows, ends.4)

-- the bytes spell the trace that was read
same_trace : (request : Request) (files : Option Files) (bytes : List ℕ) (one other : Trace) → content_of files request.trace ≡ Some bytes → TakesRequestedTrace request files one → trace_of accepts bytes ≡ Ok other → one ≡ other
same_trace request files bytes one other shows takes read = let both : Ok one ≡ Ok other = sym (takes.read bytes shows) ∙ read in cc both

pub completes : (request : Request) (files : Option Files) (before now : RunCounts) (old new : Option (List ℕ)) (result : ObserveStatus) (bytes : List ℕ) (trace : Trace) → Observes request files before now old new result
    → content_of files request.trace ≡ Some bytes → trace_of accepts bytes ≡ Ok trace → samples_requested request trace ≤ most_samples → (Increased before.shelf.faults now.shelf.faults → ⊥) → (Increased before.writes now.writes → ⊥)
    → (result ≡ status.Done) ⊎ (result ≡ status.NoMemory no_memory)
completes request files before now old new status.Done bytes trace runs shows read few no_read no_write = inl refl
completes request files before now old new (status.NoMemory _) bytes trace runs shows read few no_read no_write = inr refl
completes request files before now old new status.WriteFault bytes trace runs shows read few no_read no_write = absurd (no_write (runs.counts.writes.increased refl))
completes request files before now old new status.ReadFault bytes trace runs shows read few no_read no_write = absurd (no_read (runs.counts.faults.increased refl))
completes request files before now old new status.NoFile bytes trace runs shows read few no_read no_write = absurd (let none = runs.ends.1 in let no : ⊥ = cc (shows, none) in no)
completes request files before now old new (status.Trace line why) bytes trace runs shows read few no_read no_write = absurd (let refused = runs.ends.2 bytes shows in let no : ⊥ = cc (read, refused) in no)
completes request files before now old new (status.TooManySamples samples) bytes trace runs shows read few no_read no_write =
    let taken = runs.ends.2 in
    let same = ap (samples_requested request) (same_trace request files bytes taken.0 trace shows taken.1 read) in
    let is = taken.2 in
    let many = taken.3 in
    absurd (let no : ⊥ = omega (arith, same, is, many, few) in no)
completes request files before now old new status.Usage bytes trace runs shows read few no_read no_write = absurd runs.ends

pub too_many : (request : Request) (files : Option Files) (before now : RunCounts) (old new : Option (List ℕ)) (result : ObserveStatus) (bytes : List ℕ) (trace : Trace) → Observes request files before now old new result
    → content_of files request.trace ≡ Some bytes → trace_of accepts bytes ≡ Ok trace → most_samples < samples_requested request trace → (Increased before.shelf.faults now.shelf.faults → ⊥)
    → (result ≡ status.TooManySamples (samples_requested request trace)) ⊎ (result ≡ status.NoMemory no_memory)
too_many request files before now old new (status.TooManySamples samples) bytes trace runs shows read many no_read =
    let taken = runs.ends.2 in
    let same = ap (samples_requested request) (same_trace request files bytes taken.0 trace shows taken.1 read) in
    inl (ap (λ n. status.TooManySamples n) (taken.2 ∙ same))
too_many request files before now old new (status.NoMemory _) bytes trace runs shows read many no_read = inr refl
too_many request files before now old new status.Done bytes trace runs shows read many no_read =
    let few = runs.ends.3 in
    let same = ap (samples_requested request) (same_trace request files bytes runs.ends.0 trace shows runs.ends.1 read) in
    absurd (let no : ⊥ = omega (arith, same, many, few) in no)
too_many request files before now old new status.WriteFault bytes trace runs shows read many no_read =
    let few = runs.ends.3 in
    let same = ap (samples_requested request) (same_trace request files bytes runs.ends.0 trace shows runs.ends.1 read) in
    absurd (let no : ⊥ = omega (arith, same, many, few) in no)
too_many request files before now old new status.ReadFault bytes trace runs shows read many no_read = absurd (no_read (runs.counts.faults.increased refl))
too_many request files before now old new status.NoFile bytes trace runs shows read many no_read = absurd (let none = runs.ends.1 in let no : ⊥ = cc (shows, none) in no)
too_many request files before now old new (status.Trace line why) bytes trace runs shows read many no_read = absurd (let refused = runs.ends.2 bytes shows in let no : ⊥ = cc (read, refused) in no)
too_many request files before now old new status.Usage bytes trace runs shows read many no_read = absurd runs.ends

pub refuses : (request : Request) (files : Option Files) (before now : RunCounts) (old new : Option (List ℕ)) (result : ObserveStatus) (bytes : List ℕ) (refusal : Refusal) → Observes request files before now old new result
    → content_of files request.trace ≡ Some bytes → trace_of accepts bytes ≡ Err refusal → (Increased before.shelf.faults now.shelf.faults → ⊥)
    → (result ≡ status.Trace refusal.line refusal.cause) ⊎ (result ≡ status.NoMemory no_memory)
refuses request files before now old new (status.Trace line why) bytes refusal runs shows read no_read =
    let found = runs.ends.2 bytes shows in
    let same : Err (record { line = line; cause = why }) ≡ Err refusal = sym found ∙ read in
    let one : record { line = line; cause = why } ≡ refusal = cc same in
    inl (ap (λ (r : Refusal). status.Trace r.line r.cause) one)
refuses request files before now old new (status.NoMemory _) bytes refusal runs shows read no_read = inr refl
refuses request files before now old new status.Done bytes refusal runs shows read no_read = absurd (let taken = runs.ends.1.read bytes shows in let no : ⊥ = cc (taken, read) in no)
refuses request files before now old new status.WriteFault bytes refusal runs shows read no_read = absurd (let taken = runs.ends.1.read bytes shows in let no : ⊥ = cc (taken, read) in no)
refuses request files before now old new (status.TooManySamples samples) bytes refusal runs shows read no_read = absurd (let taken = runs.ends.2.1.read bytes shows in let no : ⊥ = cc (taken, read) in no)
refuses request files before now old new status.ReadFault bytes refusal runs shows read no_read = absurd (no_read (runs.counts.faults.increased refl))
refuses request files before now old new status.NoFile bytes refusal runs shows read no_read = absurd (let none = runs.ends.1 in let no : ⊥ = cc (shows, none) in no)
refuses request files before now old new status.Usage bytes refusal runs shows read no_read = absurd runs.ends

pub quiet : (request : Request) (files : Option Files) (old new : Option (List ℕ)) (result : ObserveStatus) → ObservingEnds request files old new result → result ≢ status.Done → result ≢ status.WriteFault → Keeps old new
quiet request files old new status.Done ends not_done no_fault = absurd (not_done refl)
quiet request files old new status.WriteFault ends not_done no_fault = absurd (no_fault refl)
quiet request files old new (status.Trace line why) ends not_done no_fault = ends.0
quiet request files old new (status.TooManySamples samples) ends not_done no_fault = ends.0
quiet request files old new status.NoFile ends not_done no_fault = ends.0
quiet request files old new status.ReadFault ends not_done no_fault = ends
quiet request files old new (status.NoMemory _) ends not_done no_fault = ends
quiet request files old new status.Usage ends not_done no_fault = absurd ends
