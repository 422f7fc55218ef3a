use Rattle.std.proofs.Common.{[], take}
use Rattle.kill_engine.specs.Rulesets.{GroupsRepresent}
use Rattle.kill_engine.proofs.ruleset.groups_of.Given as goal

abbrev pub invariant-specs : goal.invariant-specs
invariant-specs l = GroupsRepresent l.lives [] l.groups.items (take l.spec-index l.specs)
