-- Laws of `whatif`: the output of the last trace, and the trace that is stored before the rounds
-- begin.
use Rattle.std.proofs.Common.{◌≡◌, ℕ, List, refl, sym, subst}
use Rattle.std.specs.Prelude.{Option, Ok}
use Rattle.psi_base.specs.declared.event.Event.{Event}
use Rattle.psi_base.specs.declared.event.Fault.{Fault}
use Rattle.psi_base.specs.declared.event.Fault.TheVariants as fault
use Rattle.psi_spec.specs.Trace.{IsAccepted, IsCpuCount, Trace, limits_of}
use Rattle.psi_spec.specs.World.{Limits, World}
use Rattle.ruleset_json.specs.declared.types.Rule.{Rule}
use Rattle.run_spec.specs.Outputs.{of_ms, timing_of}
use Rattle.run_spec.specs.Replay.{IsReplayText, Timing}
use Rattle.run_spec.specs.Whatif.{last_trace}
use Rattle.run_spec.specs.declared.command.Options.{Options}
use Rattle.run_spec.specs.declared.status.Status.{Status}
use Rattle.run_spec.specs.declared.status.Status.TheVariants as status
use Rattle.whatif_trace.specs.declared.removal.TooLarge.{TooLarge}
use Rattle.whatif_rounds.specs.Rounds.{IsOutgrown, IsTraceAt, trace_from}
use Rattle.trace_file.specs.Reads.{HasKept}
use Rattle.run_outcomes.specs.Writes.{IsStatusOfRounds, WritesLast, WritesSome}
use Rattle.run_outcomes.proofs.RunLaws.{keeps_same}

-- If the last trace exists and one of its outputs was written, the contract `WritesLast` holds.
pub last_written : (trace last : Trace) (timing : Timing) (rules : List Rule) (before now : ℕ) (had has : Option (List ℕ)) (result : Status) → last_trace trace timing rules ≡ Ok last
    → WritesSome (IsReplayText last timing rules) before now had has result → WritesLast trace timing rules before now had has result
last_written trace last timing rules before now had has status.Done is wrote = (last, is, wrote)
last_written trace last timing rules before now had has status.WriteFault is wrote = (last, is, wrote)
last_written trace last timing rules before now had has (status.NoMemory _) is wrote = wrote.2
last_written trace last timing rules before now had has _ is wrote = absurd wrote.2

-- If the rounds failed, nothing was written, and the contract `WritesLast` holds.
pub none_left : (options : Options) (trace : Trace) (rules : List Rule) (writes : ℕ) (had : Option (List ℕ)) (found : Fault TooLarge) (result : Status) → IsOutgrown options rules trace found
    → IsStatusOfRounds found result → WritesLast trace (timing_of options) rules writes writes had had result
none_left options trace rules writes had (fault.Refused large) result is known =
    subst (WritesLast trace (timing_of options) rules writes writes had had) (sym known) (is, keeps_same had, refl)
none_left options trace rules writes had (fault.NoMemory _) result is known =
    subst (WritesLast trace (timing_of options) rules writes writes had had) (sym known) (keeps_same had, refl)

-- The trace that was stored is accepted.
pub kept_accepted : (options : Options) (version cpus_kept cpus : ℕ) (kept events : List Event) (limits_now : Limits) (w : World) → IsCpuCount cpus → IsAccepted (limits_of (of_ms options.tick_ms) cpus) events
    → HasKept cpus_kept kept limits_now w (limits_of (of_ms options.tick_ms) cpus) events → IsTraceAt options (trace_from version cpus_kept kept)
kept_accepted options version cpus_kept cpus kept events limits_now w counted accepted so = record {
  counted = subst IsCpuCount (sym so.cpus_are) counted;
  accepted = subst (λ n. IsAccepted (limits_of (of_ms options.tick_ms) n) kept) (sym so.cpus_are) (subst (IsAccepted (limits_of (of_ms options.tick_ms) cpus)) (sym so.kept_are) accepted);
}

-- An output that was written for the stored trace is an output for the trace that was read.
pub kept_written : (version cpus_kept cpus : ℕ) (kept events : List Event) (limits limits_now : Limits) (w : World) (timing : Timing) (rules : List Rule) (before now : ℕ) (had has : Option (List ℕ)) (result : Status) → limits.cpus ≡ cpus
    → HasKept cpus_kept kept limits_now w limits events → WritesLast (trace_from version cpus_kept kept) timing rules before now had has result
    → WritesLast (trace_from version cpus events) timing rules before now had has result
kept_written version cpus_kept cpus kept events limits limits_now w timing rules before now had has result is so wrote =
    let one = subst (λ n. WritesLast (trace_from version n kept) timing rules before now had has result) so.cpus_are wrote in
    let other = subst (λ n. WritesLast (trace_from version n kept) timing rules before now had has result) is one in
    subst (λ es. WritesLast (trace_from version cpus es) timing rules before now had has result) so.kept_are other
