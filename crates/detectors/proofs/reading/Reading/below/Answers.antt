use Rattle.std.proofs.Common.{◌<◌, length, subst, sym}
use Rattle.detectors.specs.Inner.{AreHeld, child_count, is_child}
use Rattle.detectors.specs.Views.{IsReadingView, ReadingView, reading_of, seen_at}
use Rattle.detectors.proofs.Placing.{few_groups, few_buffered}
use Rattle.detectors.proofs.reading.Reading.below.Goals as goal

pub returns-clause-few : goal.returns-clause-few
returns-clause-few c =
    let old = c.self.inside in
    let lives = old.lives.items in
    let slot = c.args.slot.0 in
    let inside : slot < length lives =
    subst (λ (v : ReadingView). slot < length v.lives) (sym c.self.view_is) c.requires in
    let held = subst (AreHeld (is_child lives slot) old.groups.items (child_count lives slot)) (sym c.index.ensures)
    (c.self.invariant.2.children slot c.index.result.now inside) in
    rw c.items.ensures
    (few_buffered (reading_of lives (seen_at old.at old.host old.groups.items)) (is_child lives slot)
    (child_count lives slot) c.index.result.now c.self.invariant.1 held)

pub returns-clause-all : goal.returns-clause-all
returns-clause-all c = few_groups c.args.self.now (subst IsReadingView c.self.view_is c.self.invariant.1)
