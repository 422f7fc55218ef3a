use Rattle.std.proofs.Common.{[], take, get_or, arith, refl, subst}
use Rattle.std.proofs.lemmas.List.{take_more}
use Rattle.std.proofs.lemmas.Slice.Zip.{all_zipped_more}
use Rattle.ruleset_json.specs.declared.types.DetectorSpec.{DetectorSpec}
use Rattle.detectors.specs.Views.{DetectorView}
use Rattle.detectors.specs.Stands.{Represents}
use Rattle.kill_engine.proofs.group.GroupState.of.Goals as goal

pub specs-preserved : goal.specs-preserved
specs-preserved c =
    let i = c.specs.spec-index in
    let next : DetectorSpec = get_or c.args.specs.now i c.spec-item.result in
    let stands : Represents c.in_ok-detector.detector c.args.lives.now next [] =
    subst (λ spec. Represents c.in_ok-detector.detector c.args.lives.now spec []) c.spec-item.is (c.in_ok-detector.ensures c.args.lives.now refl) in
    rw (take_more c.args.specs.now i c.spec-item.result (omega arith), c.in_ok-push.ensures.items)
    (all_zipped_more (λ (detector : DetectorView) (spec : DetectorSpec). Represents detector c.args.lives.now spec []) c.specs.detectors.items (take i c.args.specs.now) c.in_ok-detector.detector next c.specs.invariant stands)
