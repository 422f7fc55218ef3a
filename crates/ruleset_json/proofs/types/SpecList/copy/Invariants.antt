use Rattle.std.proofs.Common.{◌≡◌, take}
use Rattle.ruleset_json.proofs.types.SpecList.copy.Given as goal

abbrev pub invariant-specs : goal.invariant-specs
invariant-specs l = l.copies.items ≡ take l.spec-index l.specs
