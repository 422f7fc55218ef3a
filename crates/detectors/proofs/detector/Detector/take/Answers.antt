use Rattle.std.proofs.Common.{◌≡◌, ◌∙◌, ◌++◌, ap, drop, length, subst, sym, take, arith}
use Rattle.std.proofs.lemmas.List.{take_at}
use Rattle.detectors.specs.Views.{DetectorView, IsAfter}
use Rattle.detectors.specs.Tables.{found}
use Rattle.detectors.proofs.Runs.{increased_by, run_by}
use Rattle.detectors.proofs.Greatest.{found_within, greatest_within}
use Rattle.detectors.proofs.detector.Detector.take.Goals as goal

-- The whole table of scan counts was written back.
scans_whole : (c : goal.After-self-5-1) →
    take c.self.inside.scans.len (c.take_rise-self-inside.new.scans
    ++ drop (length c.take_rise-self-inside.new.scans) c.self.inside.scans.items) ≡ c.take_rise-self-inside.new.scans
scans_whole c =
    let old = c.self.inside in
    let long : old.scans.len ≡ length old.scans.items = omega (arith, c.deref_mut.ensures.len, ap length c.deref_mut.ensures.value) in
    let same : length c.take_rise-self-inside.new.scans ≡ length old.scans.items =
    omega (arith, c.take_rise-self-inside.auto.scans, ap length c.deref_mut.ensures.value) in
    take_at c.take_rise-self-inside.new.scans _ old.scans.len (same ∙ sym long)

scans_long : (c : goal.After-self-5-1) →
    length c.take_rise-self-inside.new.scans ≡ length c.self.inside.scans.items
scans_long c = omega (arith, c.take_rise-self-inside.auto.scans, ap length c.deref_mut.ensures.value)

later : (c : goal.After-self-5-1) → IsAfter c.self.inside.last c.at-now.result
later c =
    let P : DetectorView → Type 0 = λ detector. IsAfter detector.last c.args.reading.now.seen.at in
    rw c.at-now.ensures (subst P (sym c.self.view_is) c.requires.later)

pub invariant_of-self : goal.invariant_of-self
invariant_of-self c =
    let old = c.self.inside in
    let reading = c.args.reading.now in
    rw (scans_whole c) record {
      run = rw c.run_after-self-inside.ensures
          (run_by old.run old.last c.has_condition-holds.result c.at-now.result c.self.invariant.run (later c));
      increased = rw c.take_rise-self-inside.ensures.increased
          (increased_by old.increased old.last _ c.at-now.result c.self.invariant.increased (later c));
      greatest = rw (c.greatest_of-self-inside.ensures, c.groups-groups.ensures.groups)
          (greatest_within old.spec (length reading.lives) (found c.deref-2.result.now reading.seen.groups)
          (found_within (length reading.lives) c.deref-2.result.now reading.seen.groups c.groups-groups.ensures.within.each));
      scans = scans_long c ∙ c.self.invariant.scans;
    }
