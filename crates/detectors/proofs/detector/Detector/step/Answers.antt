use Rattle.std.proofs.Common.{◌∙◌, ap, length, subst}
use Rattle.detectors.specs.Views.{DetectorView}
use Rattle.detectors.specs.Tables.{IsTaken, begun}
use Rattle.detectors.specs.Stands.{IsDetector}
use Rattle.detectors.proofs.Finding.{AreWithin}
use Rattle.detectors.proofs.Standing.{answered, is_next_in}
use Rattle.detectors.proofs.detector.Detector.step.Goals as goal

-- The invariant holds for the detector after it has computed its table of matches.
known : (c : goal.After-answer) → IsDetector (begun c.args.self.now c.args.reading.now.lives)
known c = subst IsDetector (c.self.view_is ∙ c.begin.ensures) c.self.invariant

within : (c : goal.After-answer) →
    AreWithin (length c.args.reading.now.lives) c.args.reading.now.seen.groups
within c = λ k d below. (c.take.ensures.reading.each k d below).slot

pub returns-clause-stands : goal.returns-clause-stands
returns-clause-stands c = λ spec history stands.
    let reading = c.args.reading.now in
    let P : DetectorView → Type 0 = λ detector. IsTaken detector reading c.take.new.self in
    is_next_in c.args.self.now reading c.take.new.self spec history (known c).run (known c).increased c.requires.later (within c)
    (subst P c.begin.ensures c.take.ensures.taken) stands

pub returns-clause-answer : goal.returns-clause-answer
returns-clause-answer c = λ spec history stands.
    let reading = c.args.reading.now in
    let P : DetectorView → Type 0 = λ detector. IsTaken detector reading c.take.new.self in
    let next = is_next_in c.args.self.now reading c.take.new.self spec history (known c).run (known c).increased c.requires.later
    (within c) (subst P c.begin.ensures c.take.ensures.taken) stands in
    let greatest = ap (λ (detector : DetectorView). detector.greatest) (c.self.view_is ∙ c.begin.ensures) ∙ stands.greatest in
    c.answer.ensures ∙ answered c.take.new.self reading.lives spec reading.seen history c.self.inside.greatest (within c) next greatest
