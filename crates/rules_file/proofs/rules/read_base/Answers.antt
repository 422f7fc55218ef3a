use Rattle.std.proofs.Common.{Ok, sym, ap, ◌∙◌}
use Rattle.ruleset_json.specs.Rules.{rules_of}
use Rattle.rules_file.proofs.RulesRuns.{base_read, base_refused, unread_base}
use Rattle.rules_file.proofs.rules.read_base.Goals as goal

pub returns-in-Ok-read-clause-answer : goal.returns-in-Ok-read-clause-answer
returns-in-Ok-read-clause-answer g c =
    base_read _ c.args.name.now (g.S.Shelf.holds c.args.shelf.now) _ _ _ c.in-Ok.ensures.answer c.in_ranges.ensures.fit
    (ap rules_of (sym c.deref.ensures.value) ∙ c.in-Ok-read.ensures.exact ∙ ap Ok (sym c.in_ranges.ensures.same))

pub returns-in-Err-Refused-clause-answer : goal.returns-in-Err-Refused-clause-answer
returns-in-Err-Refused-clause-answer g c =
    let found = rw c.in-Err-Refused.field-0-is at c.in-Err-Refused.ensures.exact in
    base_refused _ c.args.name.now (g.S.Shelf.holds c.args.shelf.now) _ _ _ c.in-Ok.ensures.answer (ap rules_of (sym c.deref.ensures.value) ∙ found)

pub returns-in-Err-clause-answer : goal.returns-in-Err-clause-answer
returns-in-Err-clause-answer g c = unread_base c.args.name.now (g.S.Shelf.holds c.args.shelf.now) _ _ _ c.in-Err.ensures.answer
