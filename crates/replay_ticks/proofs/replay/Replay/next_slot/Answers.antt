use Rattle.std.proofs.Common.{sym, subst, ◌∙◌}
use Rattle.replay_ticks.specs.Replays.{IsReplay}
use Rattle.replay_ticks.proofs.LiveLaws.{no_slot, slot_is}
use Rattle.replay_ticks.proofs.TickLaws as laws
use Rattle.replay_ticks.proofs.replay.Replay.next_slot.Goals as goal

pub returns-then-self-clause-slot : goal.returns-then-self-clause-slot
returns-then-self-clause-slot c = λ trace timing rules i maybe_rules left.
    let is = subst (λ replay. IsReplay replay trace timing rules i) (sym c.self.view_is) maybe_rules in
    absurd (laws.still_open _ trace timing rules i is left c.if-self.true)

pub tick_moment-next-requires : goal.tick_moment-next-requires
tick_moment-next-requires c =
    let is = subst (λ replay. IsReplay replay c.requires.0 c.requires.1 c.requires.2 c.requires.3) (sym c.self.view_is) c.requires.4 in
    laws.moment_fits _ c.requires.0 c.requires.1 c.requires.2 c.requires.3 is c.if-self.false

pub returns-in-Some-clause-slot : goal.returns-in-Some-clause-slot
returns-in-Some-clause-slot c = λ trace timing rules i maybe_rules left.
    let is = subst (λ replay. IsReplay replay trace timing rules i) (sym c.self.view_is) maybe_rules in
    slot_is _ c.lives.result.now _ _ _ trace timing i c.tick_moment-next.result c.watched_slot.result is.planned is.watching c.in-Some.is c.lives.ensures.lives
    (c.tick_moment-next.ensures ∙ laws.moment_is _ trace timing rules i is) c.watched_slot.ensures.slot

pub returns-in-None-clause-slot : goal.returns-in-None-clause-slot
returns-in-None-clause-slot c = λ trace timing rules i maybe_rules left.
    let is = subst (λ replay. IsReplay replay trace timing rules i) (sym c.self.view_is) maybe_rules in
    no_slot _ _ trace timing i is.watching c.in-None.is
