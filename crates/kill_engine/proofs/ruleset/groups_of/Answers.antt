use Rattle.std.proofs.Common.{List, [], take, get_or, arith, subst}
use Rattle.std.proofs.lemmas.List.{take_more}
use Rattle.std.proofs.lemmas.Slice.Zip.{all_zipped_more}
use Rattle.ruleset_json.specs.declared.types.DetectorGroup.{DetectorGroup}
use Rattle.detectors.specs.Views.{DetectorView}
use Rattle.kill_engine.specs.Rulesets.{DetectorsRepresent}
use Rattle.kill_engine.proofs.ruleset.groups_of.Goals as goal

pub specs-preserved : goal.specs-preserved
specs-preserved c =
    let i = c.specs.spec-index in
    let next : DetectorGroup = get_or c.args.specs.now i c.spec-item.result in
    let mine : DetectorsRepresent c.args.lives.now [] c.in_ok-group.group c.spec-item.result.detectors = subst (λ specs. DetectorsRepresent c.args.lives.now [] c.in_ok-group.group specs) c.items.ensures.items c.in_ok-group.ensures in
    let stands : DetectorsRepresent c.args.lives.now [] c.in_ok-group.group next.detectors = subst (λ (group : DetectorGroup). DetectorsRepresent c.args.lives.now [] c.in_ok-group.group group.detectors) c.spec-item.is mine in
    rw (take_more c.args.specs.now i c.spec-item.result (omega arith), c.in_ok-push.ensures.items)
    (all_zipped_more (λ (group : List DetectorView) (spec : DetectorGroup). DetectorsRepresent c.args.lives.now [] group spec.detectors) c.specs.groups.items (take i c.args.specs.now) c.in_ok-group.group next c.specs.invariant stands)
