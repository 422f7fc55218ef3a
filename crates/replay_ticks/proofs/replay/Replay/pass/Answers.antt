use Rattle.std.proofs.Common.{sym, subst}
use Rattle.replay_ticks.specs.Replays.{IsReplay}
use Rattle.replay_ticks.proofs.TickLaws as laws
use Rattle.replay_ticks.proofs.replay.Replay.pass.Goals as goal

pub advance-requires-clause-left : goal.advance-requires-clause-left
advance-requires-clause-left g c = λ _ _.
    let trace = c.requires.0 in
    let timing = c.requires.1 in
    let rules = c.requires.2 in
    let i = c.requires.3 in
    let is = subst (λ replay. IsReplay replay trace timing rules i) (sym c.self.view_is) c.requires.4 in
    (trace, timing, rules, i, c.requires.4, laws.one_left _ trace timing rules i is c.if-self.false)

pub returns : goal.returns
returns g c = λ trace timing rules i maybe_rules.
    let is = subst (λ replay. IsReplay replay trace timing rules i) (sym c.self.view_is) maybe_rules in
    let left = laws.one_left _ trace timing rules i is c.if-self.false in
    let made = c.advance.ensures.made trace timing rules i maybe_rules left in
    (left, made.0, made.1 (c.next_slot-slot.ensures.slot trace timing rules i maybe_rules left))
