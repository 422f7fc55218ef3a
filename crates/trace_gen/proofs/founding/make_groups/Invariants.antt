use Rattle.std.proofs.Common.{◌≡◌}
use Rattle.psi_spec.specs.World.{after}
use Rattle.trace_gen.specs.Generating.{made_groups}
use Rattle.trace_gen.proofs.founding.make_groups.Given as goal

abbrev pub invariant-groups : goal.invariant-groups
invariant-groups l = record {
  items : l.events.items ≡ made_groups l.fn.shape l.number;
  world : l.table.world ≡ after l.events.items;
  limits : l.table.limits ≡ l.fn.table.limits;
}
