use Rattle.std.proofs.Common.{◌≡◌, ◌∙◌, length, subst}
use Rattle.std.specs.Prelude.{true}
use Rattle.detectors.specs.Inner.{groups_at}
use Rattle.detectors.specs.Views.{IsReadingView, ReadingView, reading_of, seen_at}
use Rattle.detectors.proofs.Placing.{few_groups, few_buffered, whole}
use Rattle.detectors.proofs.reading.Reading.places.Goals as goal

pub returns-clause-groups : goal.returns-clause-groups
returns-clause-groups c =
    let groups = c.self.inside.groups.items in
    let all : groups_at groups c.items.result.now ≡ groups =
    rw c.items.ensures (c.self.invariant.2.each.passed ∙ whole groups) in
    subst (λ (v : ReadingView). groups_at v.seen.groups c.items.result.now ≡ v.seen.groups) c.self.view_is all

pub returns-clause-few : goal.returns-clause-few
returns-clause-few c =
    let old = c.self.inside in
    rw c.items.ensures
    (few_buffered (reading_of old.lives.items (seen_at old.at old.host old.groups.items)) (λ group. true)
    (length old.lives.items) old.all c.self.invariant.1 c.self.invariant.2.each)

pub returns-clause-all : goal.returns-clause-all
returns-clause-all c = few_groups c.args.self.now (subst IsReadingView c.self.view_is c.self.invariant.1)
