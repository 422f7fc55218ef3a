-- Defines what each status of a run of `psi_observe` means for reading the trace, observing it and
-- writing the output.
use Rattle.std.specs.Prelude.{◌≡◌, ℕ, ◌<◌, ◌≤◌, List, Option}
use Rattle.std.specs.Io.KnownBytes.{Appends, Keeps}
use Rattle.outside.specs.Outside.{AppendsPrefix, Increased}
use Rattle.psi_spec.specs.Header.{IsVersion, version_of}
use Rattle.psi_spec.specs.Trace.{Trace}
use Rattle.proc_plan.specs.Plans.{PlansView}
use Rattle.trace_file.specs.declared.trace.TraceFault.{TraceFault}
use Rattle.trace_file.specs.declared.trace.TraceFault.TheVariants as fault
use Rattle.replay_rules.specs.Planned.{IsPlanned}
use Rattle.observe_spec.specs.declared.status.ObserveStatus.{ObserveStatus}
use Rattle.observe_spec.specs.declared.status.ObserveStatus.TheVariants as status
use Rattle.observe_spec.specs.Observed.{IsObservedText}
use Rattle.observe_spec.specs.Run.{most_samples, timing_on, samples_requested}
use Rattle.observe_spec.specs.Words.{Request}

-- `IsPlannedFor plans trace number path`: `plans` are the plans of the accepted trace `trace`, for
-- a replay while observers sample the group `path`. `number` is the trace's version number.
pub record IsPlannedFor (plans : PlansView) (trace : Trace) (number : ℕ) (path : List ℕ) : Type 0 where
  pub numbered : IsVersion number
  pub version : version_of number ≡ trace.version
  pub planned : IsPlanned plans trace (timing_on path)

-- `IsStatusOf fault result`: `result` is the status of a run that failed to read the trace because
-- of `fault`.
abbrev pub IsStatusOf : TraceFault → ObserveStatus → Type 0
IsStatusOf (fault.Refused refusal) result = result ≡ status.Trace refusal.line refusal.cause
IsStatusOf fault.NoFile result = result ≡ status.NoFile
IsStatusOf fault.ReadFault result = result ≡ status.ReadFault
IsStatusOf (fault.NoMemory none) result = result ≡ status.NoMemory none

-- `WritesText text before now had has status`: the effect of writing `text`. `had` and `has` are
-- the output before and after the call, and `before` and `now` are the numbers of failed writes
-- before and after it. If the status is Done, the whole text was appended and no write failed. If
-- it is WriteFault, a prefix was appended and a write failed. No other status is possible.
abbrev pub WritesText : List ℕ → ℕ → ℕ → Option (List ℕ) → Option (List ℕ) → ObserveStatus → Type 0
WritesText text before now had has status.Done = Appends had has text × (now ≡ before)
WritesText text before now had has status.WriteFault = AppendsPrefix had has text × Increased before now
WritesText text before now had has _ = ⊥

-- `WritesObserved request trace before now had has status`: the effect of observing a trace and
-- writing the samples. `had` and `has` are the output before and after the call, and `before` and
-- `now` are the numbers of failed writes before and after it. If there would be too many samples or
-- memory ran out, nothing was written. In all other cases a possible output was written, or a
-- prefix of a possible output if a write failed.
abbrev pub WritesObserved : Request → Trace → ℕ → ℕ → Option (List ℕ) → Option (List ℕ) → ObserveStatus → Type 0
WritesObserved request trace before now had has (status.TooManySamples samples) =
    Keeps had has × (now ≡ before) × (samples ≡ samples_requested request trace) × (most_samples < samples)
WritesObserved request trace before now had has (status.NoMemory _) = Keeps had has × (now ≡ before)
WritesObserved request trace before now had has result =
    (samples_requested request trace ≤ most_samples)
    × ((text : List ℕ) × IsObservedText trace (timing_on request.path) request.path request.observers text
    × WritesText text before now had has result)
