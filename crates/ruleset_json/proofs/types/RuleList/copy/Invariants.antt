use Rattle.std.proofs.Common.{◌≡◌, take}
use Rattle.ruleset_json.proofs.types.RuleList.copy.Given as goal

abbrev pub invariant-rules : goal.invariant-rules
invariant-rules l = l.copies.items ≡ take l.rule-index l.rules
