use Rattle.std.proofs.Common.{◌∙◌, ap, sym}
use Rattle.ruleset_json.specs.declared.types.After.{After}
use Rattle.victim_rank.proofs.Chosen.{victim_below, victim_none, victim_plain}
use Rattle.victim_rank.proofs.choice.victim.Goals as goal

pub returns-in_default : goal.returns-in_default
returns-in_default c = λ history past.
    let chosen = rw c.candidates-scope.ensures at (c.choose.ensures history past) in
    victim_none c.args.lives.now c.args.action.now c.args.reading.now.seen history
    (sym c.in_default.is ∙ chosen)

pub returns-then-after_of : goal.returns-then-after_of
returns-then-after_of c = λ history past.
    let chosen = rw (c.candidates-scope.ensures, c.in-Some.is) at (c.choose.ensures history past) in
    victim_below c.args.lives.now c.args.action.now c.args.reading.now.seen history c.in-Some.chosen
    c.descend.result (sym (ap (λ (after : After). after.recursive) c.after_of.ensures) ∙
    c.if-after_of.true) chosen (rw c.candidates-scope.ensures at (c.descend.ensures history past))

pub returns-else-after_of : goal.returns-else-after_of
returns-else-after_of c = λ history past.
    let chosen = rw (c.candidates-scope.ensures, c.in-Some.is) at (c.choose.ensures history past) in
    victim_plain c.args.lives.now c.args.action.now c.args.reading.now.seen history c.in-Some.chosen
    (sym (ap (λ (after : After). after.recursive) c.after_of.ensures) ∙ c.if-after_of.false) chosen
