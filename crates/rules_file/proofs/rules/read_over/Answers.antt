use Rattle.std.proofs.Common.{Ok, sym, ap, ◌∙◌}
use Rattle.dropin_rules.specs.Joined.{dropped_in}
use Rattle.rules_file.proofs.RulesRuns.{over_read, over_refused, unread_over}
use Rattle.rules_file.proofs.rules.read_over.Goals as goal

pub returns-in-Ok-dropped-clause-answer : goal.returns-in-Ok-dropped-clause-answer
returns-in-Ok-dropped-clause-answer g c =
    over_read c.args.base _ c.args.name.now (g.S.Shelf.holds c.args.shelf.now) _ _ _ c.in-Ok.ensures.answer c.in_ranges.ensures.fit
    (ap (dropped_in c.args.base) (sym c.deref.ensures.value) ∙ c.in-Ok-dropped.ensures ∙ ap Ok (sym c.in_ranges.ensures.same))

pub returns-in-Err-Refused-clause-answer : goal.returns-in-Err-Refused-clause-answer
returns-in-Err-Refused-clause-answer g c =
    let found = rw c.in-Err-Refused.field-0-is at c.in-Err-Refused.ensures in
    over_refused c.args.base _ c.args.name.now (g.S.Shelf.holds c.args.shelf.now) _ _ _ c.in-Ok.ensures.answer (ap (dropped_in c.args.base) (sym c.deref.ensures.value) ∙ found)

pub returns-in-Err-clause-answer : goal.returns-in-Err-clause-answer
returns-in-Err-clause-answer g c = unread_over c.args.base c.args.name.now (g.S.Shelf.holds c.args.shelf.now) _ _ _ c.in-Err.ensures.answer
