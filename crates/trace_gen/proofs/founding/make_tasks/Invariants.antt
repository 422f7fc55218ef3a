use Rattle.std.proofs.Common.{◌≡◌, ◌++◌, map}
use Rattle.std.specs.List.{range_with_len}
use Rattle.psi_spec.specs.World.{after}
use Rattle.run_spec.specs.Generated.{at_start, made_task}
use Rattle.trace_gen.proofs.founding.make_tasks.Given as goal

abbrev pub invariant-tasks : goal.invariant-tasks
invariant-tasks l = record {
  items : l.events.items ≡ l.fn.events.items ++ map (λ pid. at_start (made_task l.shape pid)) (range_with_len 1 l.index);
  world : l.table.world ≡ after l.events.items;
  limits : l.table.limits ≡ l.fn.table.limits;
}
