use Rattle.std.proofs.Common.{◌≡◌, refl, get_or, length, rules, ap, slice_set, ◌∙◌, arith, ◌<◌}
use Rattle.std.proofs.lemmas.List.{length-set}
use Rattle.std.proofs.lemmas.List.Elements.{All-set}
use Rattle.ruleset_json.specs.Replaced.{replaced}
use Rattle.ruleset_json.specs.RuleRanges.{FitsRule}
use Rattle.ruleset_json.proofs.Replacing.{replaces, stands}
use Rattle.ruleset_json.proofs.types.RuleList.replace.Goals as goal

pub invariant_of-self : goal.invariant_of-self
invariant_of-self c =
    let same = length-set c.self.inside.rules.items c.args.rule c.put_actions.new.self in
    let below : c.args.rule < length c.self.inside.rules.items = rw c.self.view_is c.requires in
    let old = stands c.self.inside.rules.items c.args.rule c.index_mut-rule.result.now c.index_mut-rule.ensures.value below c.self.invariant.each in
    record {
      few = omega (arith, same, c.self.invariant.few);
      each = All-set FitsRule c.self.inside.rules.items c.args.rule c.put_actions.new.self (c.put_actions.ensures.fits (c.put_groups.ensures.fits old)) c.self.invariant.each;
    }

pub returns : goal.returns
returns c =
    let below : c.args.rule < length c.self.inside.rules.items = rw c.self.view_is c.requires in
    let put : c.put_actions.new.self ≡ replaced c.args.groups c.args.actions (get_or c.self.inside.rules.items c.args.rule c.index_mut-rule.result.now) =
    rw (c.put_actions.ensures.value, c.put_groups.ensures.value, ← c.index_mut-rule.ensures.value) refl in
    rw (← c.self.view_is) (ap (slice_set c.self.inside.rules.items c.args.rule) put ∙ replaces c.self.inside.rules.items c.args.rule c.args.groups c.args.actions c.index_mut-rule.result.now below)
