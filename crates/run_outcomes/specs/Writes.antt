-- Defines how the status of a run of `psi_oomd` follows from the results of reading the files and
-- writing the output.
use Rattle.std.specs.Prelude.{◌≡◌, ◌≤◌, ℕ, List, Option, Result, Ok, Err}
use Rattle.std.specs.Io.KnownBytes.{Appends, Keeps}
use Rattle.outside.specs.Outside.{AppendsPrefix, Increased}
use Rattle.outside.specs.Calls.{PutsAll}
use Rattle.psi_base.specs.declared.event.Event.{Event}
use Rattle.psi_base.specs.declared.event.Fault.{Fault}
use Rattle.psi_base.specs.declared.event.Fault.TheVariants as of_rounds
use Rattle.psi_spec.specs.Trace.{IsAccepted, Trace, limits_of}
use Rattle.psi_spec.specs.World.{Limits}
use Rattle.proc_plan.specs.Plans.{HasTaken, PlannerView}
use Rattle.ruleset_json.specs.declared.types.Rule.{Rule}
use Rattle.run_spec.specs.Outputs.{of_ms}
use Rattle.run_spec.specs.Replay.{IsReplayText, Timing}
use Rattle.run_spec.specs.Whatif.{last_trace}
use Rattle.run_spec.specs.LegalCommand.{IsWithin}
use Rattle.run_spec.specs.declared.command.Options.{Options}
use Rattle.run_spec.specs.declared.status.Status.{Status}
use Rattle.run_spec.specs.declared.status.Status.TheVariants as status
use Rattle.run_spec.specs.declared.status.Which.TheVariants.{TraceFile}
use Rattle.whatif_trace.specs.declared.removal.TooLarge.{TooLarge}
use Rattle.trace_file.specs.declared.trace.TraceFault.{TraceFault}
use Rattle.trace_file.specs.declared.trace.TraceFault.TheVariants as fault

-- The result of writing `text`. `had` and `has` are the output before and after, `before` and `now`
-- the numbers of failed writes. If the status is Done, the whole text was appended. If it is
-- WriteFault, a prefix was appended and a write failed. If memory ran out, nothing was written.
abbrev pub WritesText : List ℕ → ℕ → ℕ → Option (List ℕ) → Option (List ℕ) → Status → Type 0
WritesText text before now had has status.Done = Appends had has text × (now ≡ before)
WritesText text before now had has status.WriteFault = AppendsPrefix had has text × Increased before now
WritesText text before now had has (status.NoMemory _) = Keeps had has × (now ≡ before)
WritesText text before now had has _ = ⊥

-- The result of writing a text that satisfies `IsSo`: the whole text or a prefix of it was appended
-- to the output.
abbrev pub WritesSome : (List ℕ → Type 0) → ℕ → ℕ → Option (List ℕ) → Option (List ℕ) → Status → Type 0
WritesSome IsSo before now had has result = (text : List ℕ) × IsSo text × WritesText text before now had has result

-- A text that satisfies `IsSo` was appended to the output, or a prefix of the text if the call
-- failed.
abbrev pub PutsSome : {T E : Type 0} → (List ℕ → Type 0) → Option (List ℕ) → Option (List ℕ) → Result T E → Type 0
PutsSome IsSo had has result = (text : List ℕ) × IsSo text × PutsAll had has result text

-- The result of `whatif` for a trace. The output of `replay` for the last trace was written. The
-- last trace is the trace without the victims of all kills. Nothing was written if too many events
-- remained or memory ran out.
abbrev pub WritesLast : Trace → Timing → List Rule → ℕ → ℕ → Option (List ℕ) → Option (List ℕ) → Status → Type 0
WritesLast trace timing rules before now had has (status.TooLarge events) =
    (last_trace trace timing rules ≡ Err events) × Keeps had has × (now ≡ before)
WritesLast trace timing rules before now had has (status.NoMemory _) = Keeps had has × (now ≡ before)
WritesLast trace timing rules before now had has result =
    (last : Trace) × (last_trace trace timing rules ≡ Ok last) × WritesSome (IsReplayText last timing rules) before now had has result

-- The status of a run that failed to read the trace.
abbrev pub IsStatusOf : TraceFault → Status → Type 0
IsStatusOf (fault.Refused refusal) result = result ≡ status.Trace refusal.line refusal.cause
IsStatusOf fault.NoFile result = result ≡ status.NoFile TraceFile
IsStatusOf fault.ReadFault result = result ≡ status.ReadFault
IsStatusOf (fault.NoMemory none) result = result ≡ status.NoMemory none

-- The status of a `whatif` run that failed to remove the victims of kills: too many events
-- remained, or memory ran out.
abbrev pub IsStatusOfRounds : Fault TooLarge → Status → Type 0
IsStatusOfRounds (of_rounds.Refused large) result = result ≡ status.TooLarge large.events
IsStatusOfRounds (of_rounds.NoMemory none) result = result ≡ status.NoMemory none

-- Precondition for replaying a trace with these options: `planner` has split the trace by
-- processor, the trace is accepted with the tick length of the options, and the options are in
-- range.
pub record IsToReplay (planner : PlannerView) (options : Options) (limits : Limits) (events : List Event) : Type 0 where
  pub taken : HasTaken planner limits events
  pub ended : IsAccepted limits events
  pub latest : limits ≡ limits_of (of_ms options.tick_ms) limits.cpus
  pub some : 1 ≤ options.tick_ms
  pub short : options.tick_ms ≤ 60000
  pub interval : 1 ≤ options.interval_s
  pub often : options.interval_s ≤ 3600
  pub workers : IsWithin 1 64 options.workers
