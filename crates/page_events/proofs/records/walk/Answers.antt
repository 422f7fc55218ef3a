use Rattle.std.proofs.Common.{refl, sym, ◌∙◌}
use Rattle.page_events.proofs.Steps.{skip_shrinks, step_ends, step_gives, step_skips}
use Rattle.page_events.proofs.records.walk.Goals as goal

pub returns-in-End : goal.returns-in-End
returns-in-End c = (sym c.parts.invariant.records ∙ step_ends c.args.end c.parts.time c.parts.rest.now (sym c.in-End.ensures), refl)

pub parts-smaller : goal.parts-smaller
parts-smaller c = skip_shrinks c.args.end c.parts.time c.in-Skipped.next c.parts.rest.now c.in-Skipped.after.now (sym c.in-Skipped.ensures)

pub parts-preserved : goal.parts-preserved
parts-preserved c = record {
  records = sym (step_skips c.args.end c.parts.time c.in-Skipped.next c.parts.rest.now c.in-Skipped.after.now (sym c.in-Skipped.ensures)) ∙ c.parts.invariant.records;
}

pub returns-in-Found : goal.returns-in-Found
returns-in-Found c =
    sym c.parts.invariant.records ∙ step_gives c.args.end c.in-Found.byte c.parts.time c.in-Found.time c.parts.rest.now c.in-Found.bytes.now c.in-Found.rest.now (sym c.in-Found.ensures)
