-- The contract of a run of psi_observe: what each status guarantees about the trace and the output,
-- and which failure counts increase.
use Rattle.std.specs.Prelude.{◌≡◌, ◌⊎◌, ℕ, ◌+◌, ◌-◌, ◌*◌, ◌<◌, ◌≤◌, List, Option, None, Some, Ok, Err, ⊤}
use Rattle.std.specs.Io.KnownBytes.{Appends, Keeps}
use Rattle.psi_base.specs.Memory.{no_memory}
use Rattle.outside.specs.Outside.{AppendsPrefix, Files, Increased, IsAbsent, content_of}
use Rattle.outside.specs.Reads.{ReadCall, ReadsFile}
use Rattle.outside.specs.declared.shelf.ShelfFault.TheVariants as shelf
use Rattle.psi_base.specs.declared.event.Refusal.{Refusal}
use Rattle.psi_spec.specs.Grammar.{verbs_of, versions}
use Rattle.psi_spec.specs.Trace.{Accepts, AreKnown, IsAccepted, IsCpuCount, Trace, accepts_with, limits_of, trace_of}
use Rattle.run_spec.specs.declared.command.Options.{Options}
use Rattle.run_spec.specs.MostRead.{most_until}
use Rattle.run_spec.specs.Outputs.{timing_of}
use Rattle.run_spec.specs.Replay.{Timing, tick_count}
use Rattle.run_spec.specs.Run.{RisesWhere, RunCounts}
use Rattle.run_spec.specs.Stops.{IsNotWhole}
use Rattle.observe_spec.specs.declared.status.ObserveStatus.{ObserveStatus}
use Rattle.observe_spec.specs.declared.status.ObserveStatus.TheVariants as status
use Rattle.observe_spec.specs.Observed.{IsObservedText}
use Rattle.observe_spec.specs.Words.{Request}

-- ---- how a trace is replayed

-- `options_on path`: the default options of `replay`, except that the group with the path `path` is
-- watched. No group is watched if `path` is `None`.
abbrev pub options_on : Option (List ℕ) → Options
options_on path = record {
  rules = None;
  drop_in = None;
  tick_ms = 2000;
  interval_s = 5;
  report_s = 10;
  workers = 64;
  live = path;
  live_count = 1;
}

-- The timing of a replay in which observers watch the group with path `path`.
abbrev pub timing_on : List ℕ → Timing
timing_on path = timing_of (options_on (Some path))

-- The length (ns) of a tick. A trace may last at most a million ticks.
abbrev pub observed_tick_length : ℕ
observed_tick_length = 2000000000

-- The traces that psi_observe accepts: all versions with all their verbs, for the tick length
-- `observed_tick_length`.
abbrev pub accepts : Accepts
accepts = accepts_with versions observed_tick_length

-- `trace` is a valid trace for the request: the verbs of its events belong to its version, and its
-- events are legal. If the content of the file is known, `trace` is the result of parsing this
-- content.
pub record TakesRequestedTrace (request : Request) (files : Option Files) (trace : Trace) : Type 0 where
  pub cpus : IsCpuCount trace.cpus
  pub known : AreKnown (verbs_of trace.version) trace.events
  pub accepted : IsAccepted (limits_of observed_tick_length trace.cpus) trace.events
  pub read : (bytes : List ℕ) → content_of files request.trace ≡ Some bytes → trace_of accepts bytes ≡ Ok trace

-- ---- the number of samples

-- The maximum number of samples in a run.
abbrev pub most_samples : ℕ
most_samples = 1000000

-- The number of samples if the path is live at every tick: one for each tick, observer and
-- processor.
abbrev pub samples_requested : Request → Trace → ℕ
samples_requested request trace = tick_count trace (timing_on request.path) * request.observers * trace.cpus

-- ---- what each status guarantees

-- The trace's file isn't known to be missing.
abbrev pub IsTraceThere : Request → Option Files → Type 0
IsTraceThere request files = IsAbsent files request.trace → ⊥

-- Some valid output satisfies the property `IsSo`, for some accepted trace with at most a million
-- samples. The trace's file isn't known to be missing.
abbrev pub HasObservedOutput : Request → Option Files → (List ℕ → Type 0) → Type 0
HasObservedOutput request files IsSo =
    (trace : Trace) × TakesRequestedTrace request files trace × IsTraceThere request files
    × (samples_requested request trace ≤ most_samples)
    × ((text : List ℕ) × IsObservedText trace (timing_on request.path) request.path request.observers text × IsSo text)

-- What a status guarantees, given the content of the file (if known) and the bytes of the output
-- before and after the run. Done: a complete valid output was written. WriteFault: only a prefix of
-- a valid output was written. Trace: the status reports the first rejected line of the trace.
-- TooManySamples: the status reports the number of samples, which is too large. NoFile: the trace's
-- file is missing. With any status except Done and WriteFault, nothing was written.
abbrev pub ObservingEnds : Request → Option Files → Option (List ℕ) → Option (List ℕ) → ObserveStatus → Type 0
ObservingEnds request files old new status.Done = HasObservedOutput request files (λ text. Appends old new text)
ObservingEnds request files old new status.WriteFault = HasObservedOutput request files (λ text. AppendsPrefix old new text)
ObservingEnds request files old new (status.Trace line why) =
    Keeps old new × IsTraceThere request files
    × ((bytes : List ℕ) → content_of files request.trace ≡ Some bytes → trace_of accepts bytes ≡ Err (record { line = line; cause = why }))
ObservingEnds request files old new (status.TooManySamples samples) =
    Keeps old new × IsTraceThere request files
    × ((trace : Trace) × TakesRequestedTrace request files trace × (samples ≡ samples_requested request trace) × (most_samples < samples))
ObservingEnds request files old new status.NoFile = Keeps old new × (content_of files request.trace ≡ None)
ObservingEnds request files old new status.ReadFault = Keeps old new
ObservingEnds request files old new (status.NoMemory _) = Keeps old new
ObservingEnds request files old new status.Usage = ⊥

-- Each failure count increased if and only if the status reports a failure of this kind. So no
-- failure is silently ignored.
pub record ObserverFailuresAreCounted (before now : RunCounts) (result : ObserveStatus) : Type 0 where
  pub faults : RisesWhere (result ≡ status.ReadFault) before.shelf.faults now.shelf.faults
  pub absent : RisesWhere (result ≡ status.NoFile) before.shelf.absent now.shelf.absent
  pub writes : RisesWhere (result ≡ status.WriteFault) before.writes now.writes

-- The contract of a run for a request: what its status guarantees, and which failure counts
-- increase.
pub record Observes (request : Request) (files : Option Files) (before now : RunCounts) (old new : Option (List ℕ))
    (result : ObserveStatus) : Type 0 where
  pub ends : ObservingEnds request files old new result
  pub counts : ObserverFailuresAreCounted before now result

-- ---- results for accepted and rejected traces

-- If the trace is accepted and the number of samples is at most a million, the run ends with the
-- status Done, unless a read or a write fails or memory runs out.
abbrev pub ObservesAll : Request → Option Files → RunCounts → RunCounts → ObserveStatus → Type 0
ObservesAll request files before now result = (bytes : List ℕ) (trace : Trace)
    → content_of files request.trace ≡ Some bytes → trace_of accepts bytes ≡ Ok trace → samples_requested request trace ≤ most_samples
    → (Increased before.shelf.faults now.shelf.faults → ⊥) → (Increased before.writes now.writes → ⊥)
    → (result ≡ status.Done) ⊎ (result ≡ status.NoMemory no_memory)

-- If the trace is accepted and the number of samples is more than a million, the run ends with the
-- status TooManySamples, unless a read fails or memory runs out.
abbrev pub RejectsManySamples : Request → Option Files → RunCounts → RunCounts → ObserveStatus → Type 0
RejectsManySamples request files before now result = (bytes : List ℕ) (trace : Trace)
    → content_of files request.trace ≡ Some bytes → trace_of accepts bytes ≡ Ok trace → most_samples < samples_requested request trace
    → (Increased before.shelf.faults now.shelf.faults → ⊥)
    → (result ≡ status.TooManySamples (samples_requested request trace)) ⊎ (result ≡ status.NoMemory no_memory)

-- If the trace is rejected, the run ends with a status that reports its first rejected line, unless
-- a read fails or memory runs out.
abbrev pub RejectsTrace : Request → Option Files → RunCounts → RunCounts → ObserveStatus → Type 0
RejectsTrace request files before now result = (bytes : List ℕ) (refusal : Refusal)
    → content_of files request.trace ≡ Some bytes → trace_of accepts bytes ≡ Err refusal
    → (Increased before.shelf.faults now.shelf.faults → ⊥)
    → (result ≡ status.Trace refusal.line refusal.cause) ⊎ (result ≡ status.NoMemory no_memory)

-- ---- where reading stops

-- Reading stops at the first rejected line; `bytes_read` and `read_now` are the numbers of bytes
-- read before the run and at its end. If the run reports a rejected line, it read at most the lines
-- before that line and the buffered bytes. If the run ends with ReadFault although the content has
-- a rejected line, that line was incomplete in the bytes read.
abbrev pub StopsObserving : Request → Option Files → ℕ → ℕ → ObserveStatus → Type 0
StopsObserving request files bytes_read read_now (status.Trace line why) = read_now ≤ bytes_read + most_until line
StopsObserving request files bytes_read read_now status.ReadFault =
    (bytes : List ℕ) (refusal : Refusal) → content_of files request.trace ≡ Some bytes → trace_of accepts bytes ≡ Err refusal
    → IsNotWhole refusal.line (read_now - bytes_read) bytes
StopsObserving request files bytes_read read_now _ = ⊤

-- ---- the order of reads

-- The log of read calls grew by the reads of the trace, in order from the first byte. Nothing is
-- read after a failed read, which the status reports.
abbrev pub ReadsTraceInOrder : Request → List ReadCall → List ReadCall → ObserveStatus → Type 0
ReadsTraceInOrder request before now status.ReadFault = ReadsFile request.trace 0 before now (Some shelf.Failed)
ReadsTraceInOrder request before now status.NoFile = ReadsFile request.trace 0 before now (Some shelf.NoFile)
ReadsTraceInOrder request before now _ = ReadsFile request.trace 0 before now None
