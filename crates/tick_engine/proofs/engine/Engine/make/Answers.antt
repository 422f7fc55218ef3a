use Rattle.std.proofs.Common.{◌≡◌, length, arith}
use Rattle.std.specs.Prelude.{map}
use Rattle.std.proofs.lemmas.List.{length-map}
use Rattle.aggregate.specs.Table.{new_table}
use Rattle.tick_engine.specs.Step.{new_watch, unsampled_group}
use Rattle.tick_engine.proofs.MakeLaws as first
use Rattle.tick_engine.proofs.engine.Engine.make.Goals as goal

-- The components that were made are the specified components.
rows_are : (c : goal.In_ok-with_capacity) → c.in_ok-make.field-0 ≡ new_table c.args.cpus (length c.args.lives.now)
rows_are c = c.in_ok-make.ensures

groups_are : (c : goal.In_ok-with_capacity) → c.in_ok-groups_of.field-0.items ≡ map unsampled_group c.args.lives.now
groups_are c = c.in_ok-groups_of.ensures

watches_are : (c : goal.In_ok-with_capacity) → c.in_ok-watches_of.field-0.items ≡ map new_watch c.args.triggers.now
watches_are c = c.in_ok-watches_of.ensures

pub invariant_of-result : goal.invariant_of-result
invariant_of-result c =
    let room = c.in_ok-with_capacity.ensures.exact in
    rw (rows_are c, groups_are c, watches_are c, c.in_ok-with_capacity.ensures.items) (
      record { room = omega (arith, length-map c.args.triggers.now new_watch, room) },
      first.first_is c.args.cpus c.args.lives.now c.args.triggers.now c.requires.few_cpus c.requires.few_groups c.requires.triggers,
    )

pub returns : goal.returns
returns c = rw (rows_are c, groups_are c, watches_are c, c.in_ok-with_capacity.ensures.items) (first.first_is_in c.args.cpus c.args.lives.now c.args.triggers.now)
