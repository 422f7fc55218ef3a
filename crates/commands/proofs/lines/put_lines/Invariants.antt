use Rattle.std.proofs.Common.{◌≡◌, ◌≤◌, ◌<◌, ℕ, length}
use Rattle.std.specs.Prelude.{Ok}
use Rattle.std.specs.List.{flat_map, range_with_len}
use Rattle.std.specs.Io.KnownBytes.{Appends}
use Rattle.psi_spec.specs.Header.{version_of}
use Rattle.proc_plan.specs.Plans.{plan_at}
use Rattle.outside.specs.Outside.{HasCause, SameInner}
use Rattle.commands.specs.Lines.{HasMadeAll, plan_lines}
use Rattle.replay_workers.specs.Crew.{clocks_at}
use Rattle.commands.proofs.lines.put_lines.Given as goal

abbrev pub invariant-cpus : goal.invariant-cpus
invariant-cpus g l = record {
  each : length l.clocks ≡ length l.fn.clocks;
  all : (cpu : ℕ) → l.place ≤ cpu → cpu < length l.clocks → HasMadeAll (plan_at l.plans cpu) (clocks_at l.clocks cpu);
  sent : Appends (g.K.Sink.has l.fn.out) (g.K.Sink.has l.out) (flat_map (λ cpu. plan_lines (version_of l.version) l.plans.lives l.order l.last (plan_at l.plans cpu) cpu) (range_with_len 0 l.place));
  cause : HasCause {T = Unit {0}} {E = Unit {0}} (g.K.Sink.faults l.fn.out) (g.K.Sink.faults l.out) (Ok tt);
  below : SameInner (g.K.Sink.below l.fn.out) (g.K.Sink.below l.out);
}
