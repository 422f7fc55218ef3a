use Rattle.std.proofs.Common.{◌≡◌, ◌<◌, ℕ, length}
use Rattle.plan_laws.specs.Plan.{IsPlan}
use Rattle.proc_plan.specs.Plans.{plan_at}
use Rattle.replay_workers.specs.Crew.{clocks_at}
use Rattle.replay_workers.proofs.clocks.first_clocks.Given as goal

abbrev pub invariant-cpus : goal.invariant-cpus
invariant-cpus l = record {
  each : length l.clocks.items ≡ l.cpu;
  fresh : (cpu : ℕ) → cpu < length l.clocks.items → clocks_at l.clocks.items cpu ≡ record { plan = plan_at l.plans cpu; made = 0 };
  whole : (cpu : ℕ) → cpu < length l.clocks.items → IsPlan (plan_at l.plans cpu);
  slots : (cpu : ℕ) → cpu < length l.clocks.items → length (plan_at l.plans cpu).parents ≡ length l.plans.lives;
}
