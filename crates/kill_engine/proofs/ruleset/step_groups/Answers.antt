use Rattle.std.proofs.Common.{◌≡◌, List, ◌∷◌, get_or, set, arith, sym, ◌∙◌, subst, below_more, get_or-set_other, get_or-set_same}
use Rattle.std.specs.Prelude.{All}
use Rattle.std.proofs.lemmas.List.{get_or_default}
use Rattle.psi_spec.specs.declared.machine.GroupLife.{GroupLife}
use Rattle.ruleset_json.specs.declared.types.DetectorGroup.{DetectorGroup}
use Rattle.kill_spec.specs.Detectors.{group_holds}
use Rattle.detectors.specs.Views.{DetectorView}
use Rattle.kill_engine.specs.Rulesets.{DetectorsRepresent, IsStateReady}
use Rattle.kill_engine.proofs.ZipLaws as laws
use Rattle.kill_engine.proofs.ruleset.step_groups.Goals as goal

pub step-fires-requires : goal.step-fires-requires
step-fires-requires c =
    let i = c.groups.group-index in
    let before : get_or c.args.groups.now i c.group-item.result ≡ get_or c.groups.groups i c.group-item.result = sym (c.groups.invariant.left i c.group-item.result (omega arith)) in
    record { ready = subst (λ group. All (IsStateReady c.args.reading.now) group) before (c.requires.ready i c.group-item.result (omega arith)) }

pub groups-preserved : goal.groups-preserved
groups-preserved c =
    let i = c.groups.group-index in
    let old : List (List DetectorView) = c.args.groups.now in
    let lives : List GroupLife = c.args.reading.now.lives in
    let item : List DetectorView = get_or c.groups.groups i c.group-item.result in
    let stepped : (d : List DetectorView) → get_or (set c.groups.groups i c.step-fires.new.self) i d ≡ c.step-fires.new.self = λ d. get_or-set_same c.groups.groups i c.step-fires.new.self d (omega arith) in
    let before : (d : List DetectorView) → get_or old i d ≡ item = λ d. sym (c.groups.invariant.left i d (omega arith)) ∙ get_or_default c.groups.groups i d c.group-item.result (omega arith) in
    record {
      take = below_more _ i
          (λ k below d. rw (get_or-set_other c.groups.groups i k c.step-fires.new.self d (omega arith)) (c.groups.invariant.take k below d))
          (λ d. rw (stepped d, before d) c.step-fires.ensures.take);
      at = below_more _ i
          (λ k below d. rw (get_or-set_other c.groups.groups i k c.step-fires.new.self d (omega arith)) (c.groups.invariant.at k below d))
          (λ d. rw (stepped d) c.step-fires.ensures.at);
      left = λ k d above. get_or-set_other c.groups.groups i k c.step-fires.new.self d (omega arith) ∙ c.groups.invariant.left k d (omega arith);
      answer = λ specs history represents. laws.any_more (λ (group : List DetectorView) (spec : DetectorGroup). DetectorsRepresent lives history group spec.detectors) (λ spec. group_holds lives spec c.args.reading.now.seen history) old specs i item c.groups.fires c.step-fires.result _ represents (omega arith)
          (λ spec stands. c.step-fires.ensures.answer spec.detectors history (subst (λ group. DetectorsRepresent lives history group spec.detectors) (before item) stands))
          (c.groups.invariant.answer specs history represents);
    }

pub returns-clause-answer : goal.returns-clause-answer
returns-clause-answer c = λ specs history represents.
    laws.any_end (λ (group : List DetectorView) (spec : DetectorGroup). DetectorsRepresent c.args.reading.now.lives history group spec.detectors) (λ spec. group_holds c.args.reading.now.lives spec c.args.reading.now.seen history) c.args.groups.now specs c.groups.group-index c.groups.fires _ represents (omega arith) (c.groups.invariant.answer specs history represents)

pub returns-clause-take : goal.returns-clause-take
returns-clause-take c = λ specs history represents.
    laws.zipped_map (λ (group : List DetectorView) (spec : DetectorGroup). DetectorsRepresent c.args.reading.now.lives history group spec.detectors)
    (λ (group : List DetectorView) (spec : DetectorGroup). DetectorsRepresent c.args.reading.now.lives (c.args.reading.now.seen ∷ history) group spec.detectors)
    c.args.groups.now c.groups.groups specs (omega arith) (λ k d spec below stands. c.groups.invariant.take k (omega arith) d spec.detectors history stands) represents
