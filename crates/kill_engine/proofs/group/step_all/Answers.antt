use Rattle.std.proofs.Common.{◌≡◌, List, ◌∷◌, length, get_or, set, arith, sym, ◌∙◌, subst, below_more, get_or-set_other, get_or-set_same}
use Rattle.std.specs.Prelude.{Some}
use Rattle.psi_spec.specs.declared.machine.GroupLife.{GroupLife}
use Rattle.std.proofs.lemmas.List.{get_or_default}
use Rattle.ruleset_json.specs.declared.types.DetectorSpec.{DetectorSpec}
use Rattle.kill_spec.specs.Detectors.{is_true}
use Rattle.detectors.specs.Views.{DetectorView}
use Rattle.detectors.specs.Stands.{Represents}
use Rattle.kill_engine.specs.Rulesets.{IsAt, IsStateReady}
use Rattle.kill_engine.proofs.ZipLaws as laws
use Rattle.kill_engine.proofs.group.step_all.Goals as goal

pub detectors-preserved : goal.detectors-preserved
detectors-preserved c =
    let i = c.detectors.detector-index in
    let old : List DetectorView = c.args.detectors.now in
    let lives : List GroupLife = c.args.reading.now.lives in
    let item : DetectorView = get_or c.detectors.detectors i c.detector-item.result in
    let stepped : (d : DetectorView) → get_or (set c.detectors.detectors i c.step-hold.new.self) i d ≡ c.step-hold.new.self = λ d. get_or-set_same c.detectors.detectors i c.step-hold.new.self d (omega arith) in
    let before : (d : DetectorView) → get_or old i d ≡ item = λ d. sym (c.detectors.invariant.left i d (omega arith)) ∙ get_or_default c.detectors.detectors i d c.detector-item.result (omega arith) in
    let ready : IsStateReady c.args.reading.now item = subst (λ d. IsStateReady c.args.reading.now d) (before item) (c.requires.ready i item (omega arith)) in
    let now : IsAt (Some c.args.reading.now.seen.at) (length lives) c.step-hold.new.self = record { last = c.step-hold.ensures.last; places = c.step-hold.ensures.slots ∙ sym ready.slots } in
    record {
      take = below_more _ i
          (λ k below d. rw (get_or-set_other c.detectors.detectors i k c.step-hold.new.self d (omega arith)) (c.detectors.invariant.take k below d))
          (λ d. rw (stepped d, before d) c.step-hold.ensures.stands);
      at = below_more _ i
          (λ k below d. rw (get_or-set_other c.detectors.detectors i k c.step-hold.new.self d (omega arith)) (c.detectors.invariant.at k below d))
          (λ d. rw (stepped d) now);
      left = λ k d above. get_or-set_other c.detectors.detectors i k c.step-hold.new.self d (omega arith) ∙ c.detectors.invariant.left k d (omega arith);
      answer = λ specs history represents. laws.all_more (λ (detector : DetectorView) (spec : DetectorSpec). Represents detector lives spec history) (λ spec. is_true lives spec c.args.reading.now.seen history) old specs i item c.detectors.hold c.step-hold.result _ represents (omega arith)
          (λ spec stands. c.step-hold.ensures.answer spec history (subst (λ d. Represents d lives spec history) (before item) stands))
          (c.detectors.invariant.answer specs history represents);
    }

pub returns-clause-answer : goal.returns-clause-answer
returns-clause-answer c = λ specs history represents.
    laws.all_end (λ (detector : DetectorView) (spec : DetectorSpec). Represents detector c.args.reading.now.lives spec history) (λ spec. is_true c.args.reading.now.lives spec c.args.reading.now.seen history) c.args.detectors.now specs c.detectors.detector-index c.detectors.hold _ represents (omega arith) (c.detectors.invariant.answer specs history represents)

pub returns-clause-take : goal.returns-clause-take
returns-clause-take c = λ specs history represents.
    laws.zipped_map (λ (detector : DetectorView) (spec : DetectorSpec). Represents detector c.args.reading.now.lives spec history)
    (λ (detector : DetectorView) (spec : DetectorSpec). Represents detector c.args.reading.now.lives spec (c.args.reading.now.seen ∷ history))
    c.args.detectors.now c.detectors.detectors specs (omega arith) (λ k d spec below stands. c.detectors.invariant.take k (omega arith) d spec history stands) represents
