use Rattle.std.proofs.Common.{rules, ◌∙◌}
use Rattle.std.proofs.Math.ListN.{get_or-map}
use Rattle.proc_plan.specs.Room.{ChangesView, no_room}
use Rattle.proc_plan.proofs.planner.Planner.new.Goals as goal

pub returns : goal.returns
returns c = record {
  limits_are = search rules;
  counted = c.requires.counted;
  short = c.requires.short;
  fit = tt;
  legal = tt;
  world = search rules;
  changes = λ cpu below. get_or-map (λ (changes : ChangesView). changes.list) c.in_ok-no_changes.field-0.items cpu no_room ∙ c.in_ok-no_changes.ensures.none cpu;
  triggers = search rules;
  sides = search rules;
}
