use Rattle.std.proofs.Common.{◌+◌, ◌<◌, length, arith, ap, sym, subst}
use Rattle.std.specs.Prelude.{IfSome}
use Rattle.psi_base.specs.declared.event.Slot.{Slot}
use Rattle.proc_plan.specs.Plans.{PlansView}
use Rattle.replay_ticks.specs.Replays.{IsLiveTick, IsReached, IsReplay, ReplayView}
use Rattle.replay_ticks.proofs.KillLaws.{kills_fit}
use Rattle.replay_ticks.proofs.LiveLaws.{live_next, watching_next}
use Rattle.replay_ticks.proofs.TickLaws as laws
use Rattle.replay_ticks.proofs.replay.Replay.advance.Goals as goal

pub look_ahead-requires-clause-slot : goal.look_ahead-requires-clause-slot
look_ahead-requires-clause-slot g c = λ _ _.
    let trace = c.requires.left.0 in
    let timing = c.requires.left.1 in
    let rules = c.requires.left.2 in
    let i = c.requires.left.3 in
    let is = subst (λ replay. IsReplay replay trace timing rules i) (sym c.self.view_is) c.requires.left.4 in
    subst (λ (plans : PlansView). IfSome c.args.watched (λ (slot : Slot). slot.0 < length plans.lives)) (sym is.ahead.same)
    (subst (λ (replay : ReplayView). IfSome c.args.watched (λ (slot : Slot). slot.0 < length replay.plans.lives)) (sym c.self.view_is) c.requires.slot)

pub look_ahead-requires-clause-go : goal.look_ahead-requires-clause-go
look_ahead-requires-clause-go g c = λ _ _.
    let trace = c.requires.left.0 in
    let timing = c.requires.left.1 in
    let rules = c.requires.left.2 in
    let i = c.requires.left.3 in
    let is = subst (λ replay. IsReplay replay trace timing rules i) (sym c.self.view_is) c.requires.left.4 in
    let open_left = laws.still_open _ trace timing rules i is c.requires.left.5 in
    (trace, timing, laws.to_go _ trace timing rules i is open_left, laws.to_watch _ trace timing rules i is)

pub overflow_add-self : goal.overflow_add-self
overflow_add-self g c =
    let trace = c.requires.left.0 in
    let timing = c.requires.left.1 in
    let rules = c.requires.left.2 in
    let i = c.requires.left.3 in
    let is = subst (λ replay. IsReplay replay trace timing rules i) (sym c.self.view_is) c.requires.left.4 in
    let few = laws.ticks_few _ trace timing (i + 1) is.planned (omega (arith, c.requires.left.5)) in
    let made = is.made in
    omega (arith, few, made)

pub tick_moment-at-requires : goal.tick_moment-at-requires
tick_moment-at-requires g c =
    let trace = c.requires.left.0 in
    let timing = c.requires.left.1 in
    let rules = c.requires.left.2 in
    let i = c.requires.left.3 in
    let is = subst (λ replay. IsReplay replay trace timing rules i) (sym c.self.view_is) c.requires.left.4 in
    let open_left = laws.still_open _ trace timing rules i is c.requires.left.5 in
    laws.moment_fits _ trace timing rules i is open_left

pub sample-requires : goal.sample-requires
sample-requires g c =
    let trace = c.requires.left.0 in
    let timing = c.requires.left.1 in
    let rules = c.requires.left.2 in
    let i = c.requires.left.3 in
    let is = subst (λ replay. IsReplay replay trace timing rules i) (sym c.self.view_is) c.requires.left.4 in
    let open_left = laws.still_open _ trace timing rules i is c.requires.left.5 in
    let ready = (c.look_ahead.ensures.reached trace timing (laws.to_go _ trace timing rules i is open_left) (laws.to_watch _ trace timing rules i is)).0 in
    (trace, timing, i, laws.to_sample _ c.look_ahead.new.crew trace timing rules i c.tick_moment-at.result is open_left c.tick_moment-at.ensures ready)

pub overflow_add-self-2 : goal.overflow_add-self-2
overflow_add-self-2 g c =
    let trace = c.requires.left.0 in
    let timing = c.requires.left.1 in
    let rules = c.requires.left.2 in
    let i = c.requires.left.3 in
    let is = subst (λ replay. IsReplay replay trace timing rules i) (sym c.self.view_is) c.requires.left.4 in
    let open_left = laws.still_open _ trace timing rules i is c.requires.left.5 in
    let ready = (c.look_ahead.ensures.reached trace timing (laws.to_go _ trace timing rules i is open_left) (laws.to_watch _ trace timing rules i is)).0 in
    let sampled = laws.sampled_is _ c.look_ahead.new.crew c.sample.new.crew c.sample.new.rows c.sample.new.engine trace timing rules i is ready
    (c.sample.ensures.sampled trace timing i (laws.to_sample _ c.look_ahead.new.crew trace timing rules i c.tick_moment-at.result is open_left c.tick_moment-at.ensures ready)) in
    let fits = laws.count_fits _ c.sample.new.crew c.sample.new.rows c.sample.new.engine trace timing rules i is open_left sampled in
    omega (arith, fits, ap length c.fired.ensures)

pub tick-requires : goal.tick-requires
tick-requires g c =
    let trace = c.requires.left.0 in
    let timing = c.requires.left.1 in
    let rules = c.requires.left.2 in
    let i = c.requires.left.3 in
    let is = subst (λ replay. IsReplay replay trace timing rules i) (sym c.self.view_is) c.requires.left.4 in
    let open_left = laws.still_open _ trace timing rules i is c.requires.left.5 in
    let ready = (c.look_ahead.ensures.reached trace timing (laws.to_go _ trace timing rules i is open_left) (laws.to_watch _ trace timing rules i is)).0 in
    let sampled = laws.sampled_is _ c.look_ahead.new.crew c.sample.new.crew c.sample.new.rows c.sample.new.engine trace timing rules i is ready
    (c.sample.ensures.sampled trace timing i (laws.to_sample _ c.look_ahead.new.crew trace timing rules i c.tick_moment-at.result is open_left c.tick_moment-at.ensures ready)) in
    (trace, timing, rules, i, laws.to_judge _ c.sample.new.crew c.sample.new.rows c.sample.new.engine c.deref.result.now trace timing rules i c.tick_moment-at.result is c.tick_moment-at.ensures c.deref.ensures.value sampled)

pub overflow_add-self-3 : goal.overflow_add-self-3
overflow_add-self-3 g c =
    let trace = c.requires.left.0 in
    let timing = c.requires.left.1 in
    let rules = c.requires.left.2 in
    let i = c.requires.left.3 in
    let is = subst (λ replay. IsReplay replay trace timing rules i) (sym c.self.view_is) c.requires.left.4 in
    let open_left = laws.still_open _ trace timing rules i is c.requires.left.5 in
    let ready = (c.look_ahead.ensures.reached trace timing (laws.to_go _ trace timing rules i is open_left) (laws.to_watch _ trace timing rules i is)).0 in
    let sampled = laws.sampled_is _ c.look_ahead.new.crew c.sample.new.crew c.sample.new.rows c.sample.new.engine trace timing rules i is ready
    (c.sample.ensures.sampled trace timing i (laws.to_sample _ c.look_ahead.new.crew trace timing rules i c.tick_moment-at.result is open_left c.tick_moment-at.ensures ready)) in
    let to_judge = laws.to_judge _ c.sample.new.crew c.sample.new.rows c.sample.new.engine c.deref.result.now trace timing rules i c.tick_moment-at.result is c.tick_moment-at.ensures c.deref.ensures.value sampled in
    let here = c.tick.ensures.judged trace timing rules i to_judge in
    let killed = laws.kills_are c.tick.new.self trace timing rules (i + 1) c.kills.result.now here c.kills.ensures in
    let fits = kills_fit _ trace timing rules i _ is.planned is.fit (laws.one_left _ trace timing rules i is open_left) is.kills in
    omega (arith, fits, ap length killed)

pub returns-clause-made : goal.returns-clause-made
returns-clause-made g c = λ trace timing rules i maybe_rules left.
    let is = subst (λ replay. IsReplay replay trace timing rules i) (sym c.self.view_is) maybe_rules in
    let open_left = laws.still_open _ trace timing rules i is left in
    let went = c.look_ahead.ensures.reached trace timing (laws.to_go _ trace timing rules i is open_left) (laws.to_watch _ trace timing rules i is) in
    let ready = went.0 in
    let reached = subst (λ n. IsReached c.args.watched c.self.inside.crew c.look_ahead.new.crew trace timing n) is.made went.1 in
    let sampled = laws.sampled_is _ c.look_ahead.new.crew c.sample.new.crew c.sample.new.rows c.sample.new.engine trace timing rules i is ready
    (c.sample.ensures.sampled trace timing i (laws.to_sample _ c.look_ahead.new.crew trace timing rules i c.tick_moment-at.result is open_left c.tick_moment-at.ensures ready)) in
    let watching = watching_next c.args.watched c.self.inside.crew c.look_ahead.new.crew c.sample.new.crew c.self.inside.live trace timing i is.watching reached c.sample.ensures.handed in
    let to_judge = laws.to_judge _ c.sample.new.crew c.sample.new.rows c.sample.new.engine c.deref.result.now trace timing rules i c.tick_moment-at.result is c.tick_moment-at.ensures c.deref.ensures.value sampled in
    let here = c.tick.ensures.judged trace timing rules i to_judge in
    let next = laws.is_ticked _ c.sample.new.crew c.sample.new.rows c.sample.new.engine c.tick.new.self trace timing rules i is open_left sampled watching here in (
      rw (c.fired.ensures, c.kills.ensures) next,
      λ found. subst (λ (old : ReplayView). IsLiveTick old.crew c.sample.new.crew trace timing (i + 1)) c.self.view_is (live_next c.args.watched c.self.inside.crew c.look_ahead.new.crew c.sample.new.crew trace timing i reached c.sample.ensures.handed found),
    )
