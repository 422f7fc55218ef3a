-- Laws of the plans of a trace that is to be replayed with given options.
use Rattle.std.proofs.Common.{ℕ, ◌≤◌, List, arith, refl, subst}
use Rattle.psi_base.specs.declared.event.Event.{Event}
use Rattle.psi_spec.specs.Grammar.{Version}
use Rattle.psi_spec.specs.Trace.{IsAccepted, limits_of}
use Rattle.psi_spec.specs.World.{Limits}
use Rattle.proc_plan.specs.Plans.{HasTaken, PlannerView, PlansView, RepresentTaken}
use Rattle.run_spec.specs.LegalCommand.{IsWithin}
use Rattle.run_spec.specs.Outputs.{of_ms, timing_of}
use Rattle.run_spec.specs.declared.command.Options.{Options}
use Rattle.replay_rules.specs.Planned.{IsPlanned}
use Rattle.trace_file.specs.Reads.{trace_with}
use Rattle.run_outcomes.specs.Writes.{IsToReplay}

-- a planned trace that is accepted with the tick length of the options can be replayed with these
-- options
pub to_replay : (planner : PlannerView) (options : Options) (cpus : ℕ) (events : List Event) → HasTaken planner (limits_of (of_ms options.tick_ms) cpus) events → IsAccepted (limits_of (of_ms options.tick_ms) cpus) events
    → 1 ≤ options.tick_ms → options.tick_ms ≤ 60000 → 1 ≤ options.interval_s → options.interval_s ≤ 3600 → IsWithin 1 64 options.workers → IsToReplay planner options (limits_of (of_ms options.tick_ms) cpus) events
to_replay planner options cpus events taken ended some short interval often workers = record {
  taken = taken;
  ended = ended;
  latest = refl;
  some = some;
  short = short;
  interval = interval;
  often = often;
  workers = workers;
}

-- the plans of a planned trace represent it
pub planned : (version : Version) (planner : PlannerView) (plans : PlansView) (options : Options) (limits : Limits) (events : List Event) → IsToReplay planner options limits events → RepresentTaken planner plans → IsPlanned plans (trace_with version limits.cpus events) (timing_of options)
planned version planner plans options limits events is represents = record {
  counted = is.taken.counted;
  represents = represents limits events is.taken;
  accepted = subst (λ l. IsAccepted l events) is.latest is.ended;
  some = omega (arith, is.some);
  short = omega (arith, is.short);
  due = omega (arith, is.interval);
}
