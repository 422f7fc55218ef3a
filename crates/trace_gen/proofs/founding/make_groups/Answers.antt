use Rattle.std.proofs.Common.{[], ◌∙◌, arith}
use Rattle.run_spec.specs.Generated.{at_start, made_group}
use Rattle.trace_gen.proofs.Drawing.{one_in_row}
use Rattle.trace_gen.proofs.FirstEvents.{group_legal}
use Rattle.trace_gen.proofs.founding.make_groups.Goals as goal

pub groups-preserved : goal.groups-preserved
groups-preserved c = record {
  items = one_in_row (λ number. at_start (made_group number)) [] c.groups.events.items c.play.new.events.items 0 c.groups.number c.groups.number c.in_ok-made_group.field-0 (omega arith) c.groups.invariant.items c.in_ok-play.ensures.items c.in_ok-made_group.ensures;
  world = c.in_ok-play.ensures.world;
  limits = c.in_ok-play.ensures.limits ∙ c.groups.invariant.limits;
}

pub play-requires-clause-legal : goal.play-requires-clause-legal
play-requires-clause-legal c =
    group_legal c.args.shape c.requires.shaped c.groups.number (omega arith) c.groups.table c.groups.events.items c.in_ok-made_group.field-0 (c.groups.invariant.limits ∙ c.requires.limits) c.groups.invariant.world c.groups.invariant.items c.in_ok-made_group.ensures
