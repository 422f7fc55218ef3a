-- Laws that follow from the definitions: about the samples that observers take, and about runs of
-- psi_observe.
use Rattle.std.specs.Prelude.{◌≡◌, ℕ, ◌<◌, ◌≤◌, List, [], ◌∷◌, length, slice_get, Option, None, Some, ◌⊎◌, codes, true}
use Rattle.psi_spec.specs.Changes.{changes_of}
use Rattle.psi_spec.specs.Trace.{Trace, trace_of}
use Rattle.run_spec.specs.Replay.{Timing}
use Rattle.psi_base.specs.Memory.{no_memory}
use Rattle.outside.specs.Outside.{Files, IsAbsent}
use Rattle.run_spec.specs.declared.command.Command.TheVariants.{Replay}
use Rattle.run_spec.specs.Outputs.{or_refused_trace, parse_of}
use Rattle.run_spec.specs.Words.{command_of}
use Rattle.observe_spec.specs.declared.status.ObserveStatus.{ObserveStatus}
use Rattle.observe_spec.specs.Words.{Request, is_trace_name}
use Rattle.observe_spec.specs.Samples.{AreObserved, Look, all_due, looks_by}
use Rattle.observe_spec.specs.Run.{ObservingEnds, accepts, options_on}
use Rattle.observe_spec.specs.declared.status.ObserveStatus.TheVariants as status

-- ---- laws of samples

-- The number of changes in a sample is at most the number of changes of the sample's processor in
-- the whole trace.
abbrev pub CountsAreOfChanges : Type 0
CountsAreOfChanges = (trace : Trace) (timing : Timing) (path : List ℕ) (observers : ℕ) (looks : List Look) →
    AreObserved trace timing path observers looks → (k : ℕ) (look : Look) → slice_get looks k ≡ Some look →
    look.count ≤ length (changes_of look.cpu trace.events)

-- Each observer took exactly as many samples as were due.
abbrev pub EachTakesItsShare : Type 0
EachTakesItsShare = (trace : Trace) (timing : Timing) (path : List ℕ) (observers : ℕ) (looks : List Look) →
    AreObserved trace timing path observers looks → (observer : ℕ) → observer < observers →
    length (looks_by observer looks) ≡ length (all_due trace timing path)

-- ---- laws of runs of psi_observe

-- The command `replay TRACE` without options has the options that psi_observe uses, except that no
-- path is watched.
abbrev pub ReplayHasThese : Type 0
ReplayHasThese = (name : List ℕ) → is_trace_name name ≡ true →
    command_of (codes "replay" ∷ name ∷ []) ≡ Some (Replay name (options_on None))

-- psi_observe parses a trace like `replay TRACE`: it accepts the traces that `replay` accepts, and
-- rejects all other traces with the status of `replay`.
abbrev pub TracesAreThoseOfReplay : Type 0
TracesAreThoseOfReplay = (name bytes : List ℕ) → or_refused_trace (trace_of accepts bytes) ≡ parse_of (Replay name (options_on None)) bytes

-- If the trace's file is known to be missing, the run reports the missing file, fails to read, or
-- runs out of memory.
abbrev pub MissingTraceShows : Type 0
MissingTraceShows = (request : Request) (files : Option Files) (old new : Option (List ℕ)) (result : ObserveStatus) →
    ObservingEnds request files old new result → IsAbsent files request.trace →
    (result ≡ status.NoFile) ⊎ (result ≡ status.ReadFault) ⊎ (result ≡ status.NoMemory no_memory)
