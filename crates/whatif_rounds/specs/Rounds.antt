-- Defines the result of a round, and the trace that remains after some rounds. Each round removes
-- the victims of one kill from the trace.
use Rattle.std.specs.Prelude.{◌≡◌, ℕ, List, ◌≤◌, None, Some, Ok, Err, ⊤, slice_get}
use Rattle.psi_base.specs.declared.event.Event.{Event}
use Rattle.psi_base.specs.declared.event.Fault.{Fault}
use Rattle.psi_base.specs.declared.event.Fault.TheVariants as fault
use Rattle.psi_spec.specs.Header.{version_of}
use Rattle.psi_spec.specs.Trace.{IsAccepted, IsCpuCount, Trace, limits_of}
use Rattle.ruleset_json.specs.declared.types.Rule.{Rule}
use Rattle.run_spec.specs.Outputs.{of_ms, timing_of}
use Rattle.run_spec.specs.Whatif.{all_kills, last_trace}
use Rattle.run_spec.specs.LegalCommand.{IsWithin}
use Rattle.run_spec.specs.declared.command.Options.{Options}
use Rattle.proc_plan.specs.Plans.{PlansView}
use Rattle.replay_rules.specs.Planned.{IsPlanned}
use Rattle.whatif_trace.specs.declared.removal.TooLarge.{TooLarge}
use Rattle.whatif_rounds.specs.declared.rounds.Round.{Round}
use Rattle.whatif_rounds.specs.declared.rounds.Round.TheVariants as found

-- The options of a replay are in range.
pub record MayReplay (options : Options) : Type 0 where
  pub some : 1 ≤ options.tick_ms
  pub short : options.tick_ms ≤ 60000
  pub interval : 1 ≤ options.interval_s
  pub often : options.interval_s ≤ 3600
  pub workers : IsWithin 1 64 options.workers

-- The trace is accepted with the tick length in the options.
pub record IsTraceAt (options : Options) (trace : Trace) : Type 0 where
  pub counted : IsCpuCount trace.cpus
  pub accepted : IsAccepted (limits_of (of_ms options.tick_ms) trace.cpus) trace.events

-- Builds a trace from its version, its number of processors and its events.
abbrev pub trace_from : ℕ → ℕ → List Event → Trace
trace_from number cpus events = record { version = version_of number; cpus = cpus; events = events }

-- `plans` has the plans of `trace`, and the trace can be replayed with the options.
abbrev pub ArePlansOf : PlansView → Options → Trace → Type 0
ArePlansOf plans options trace = IsPlanned plans trace (timing_of options)

-- The result of searching for a kill in the round `number`: the kill with the index `number`, or
-- `Last` with the plans of the trace if there is no such kill.
abbrev pub Finds : Options → List Rule → ℕ → Trace → Round → Type 0
Finds options rules number trace (found.Kill kill) = slice_get (all_kills trace (timing_of options) rules) number ≡ Some kill
Finds options rules number trace (found.Last plans) =
    (slice_get (all_kills trace (timing_of options) rules) number ≡ None) × ArePlansOf plans options trace

-- `plans` has the plans of the trace that remains after the last round.
abbrev pub AreLastPlans : Options → List Rule → Trace → PlansView → Type 0
AreLastPlans options rules trace plans =
    (last : Trace) × (last_trace trace (timing_of options) rules ≡ Ok last) × (last.version ≡ trace.version)
    × ArePlansOf plans options last

-- A `TooLarge` fault has the number of events that remain after a round, and this number is above
-- the limit. An out-of-memory fault is always allowed.
abbrev pub IsOutgrown : Options → List Rule → Trace → Fault TooLarge → Type 0
IsOutgrown options rules trace (fault.Refused large) = last_trace trace (timing_of options) rules ≡ Err large.events
IsOutgrown options rules trace (fault.NoMemory _) = ⊤
