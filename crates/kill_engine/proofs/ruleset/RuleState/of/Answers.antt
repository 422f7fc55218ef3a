use Rattle.std.proofs.Common.{[], ◌∙◌, ap, refl, subst}
use Rattle.kill_spec.specs.Kills.{kills_of}
use Rattle.kill_engine.specs.Rulesets.{GroupsRepresent, match_tables}
use Rattle.kill_engine.proofs.ruleset.RuleState.of.Goals as goal

pub returns : goal.returns
unfolding kills_of
returns c = λ number. record { groups = subst (λ specs. GroupsRepresent c.args.lives.now [] c.in_ok-groups.groups.items specs) c.items.ensures.items c.in_ok-groups.ensures; actions = refl; tables = c.in_ok-tables.ensures ∙ ap (match_tables c.args.lives.now) c.items-2.ensures.items; rests = refl }
