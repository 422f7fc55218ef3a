use Rattle.std.proofs.Common.{◌≡◌, take}
use Rattle.ruleset_json.proofs.types.ActionList.copy.Given as goal

abbrev pub invariant-actions : goal.invariant-actions
invariant-actions l = l.copies.items ≡ take l.action-index l.actions
