use Rattle.std.proofs.Common.{[], take}
use Rattle.kill_engine.specs.Rulesets.{DetectorsRepresent}
use Rattle.kill_engine.proofs.group.GroupState.of.Given as goal

abbrev pub invariant-specs : goal.invariant-specs
invariant-specs l = DetectorsRepresent l.lives [] l.detectors.items (take l.spec-index l.specs)
