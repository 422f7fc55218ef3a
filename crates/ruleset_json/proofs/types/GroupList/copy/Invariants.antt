use Rattle.std.proofs.Common.{◌≡◌, take}
use Rattle.ruleset_json.proofs.types.GroupList.copy.Given as goal

abbrev pub invariant-groups : goal.invariant-groups
invariant-groups l = l.copies.items ≡ take l.group-index l.groups
