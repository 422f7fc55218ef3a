use Rattle.std.proofs.Common.{◌≡◌, ◌<◌, length, ap, arith, rules, subst, sym, ◌∙◌}
use Rattle.std.proofs.lemmas.List.{length-set}
use Rattle.plan_laws.specs.Plan.{IsClock}
use Rattle.proc_plan.specs.Plans.{plan_at}
use Rattle.replay_ticks.specs.Replays.{ReplayView}
use Rattle.observe_core.specs.Driving.{HasMet, made_by}
use Rattle.observe_core.proofs.ReadyLaws.{lasts_more, lasts_none, prepared_more, prepared_none}
use Rattle.observe_core.proofs.ready.ready.Goals as goal

pub cpus-init : goal.cpus-init
cpus-init c = record {
  same = search rules;
  prepared_changes = prepared_none (made_by c.args.replay.now.crew) c.args.watcher.now;
  many = search rules;
  lasts = lasts_none c.args.replay.now.plans c.args.slot.0 (made_by c.args.replay.now.crew) c.args.lasts.now.items;
}

pub cpus-preserved : goal.cpus-preserved
cpus-preserved c =
    let i = c.cpus.invariant in
    let k = c.cpus.place in
    let mid = c.meet.ensures.same ∙ i.same in
    let met = subst (λ (replay : ReplayView). HasMet k (made_by replay.crew k) c.cpus.watcher c.meet.new.watcher) i.same c.meet.ensures.met in
    let count = c.last.ensures.count ∙ ap (λ (replay : ReplayView). made_by replay.crew k) mid in
    let clock = subst (λ (replay : ReplayView). IsClock c.last.result.clock (plan_at replay.plans k) c.args.slot.0 c.last.result.count) mid c.last.ensures.clock in
    let below : k < length c.cpus.lasts.items = search rules in
    let room : k < length c.args.watcher.now.readers = omega (arith, below, i.many, c.requires.lasts_are, c.requires.readers_are) in
    record {
      same = c.last.ensures.same ∙ mid;
      prepared_changes = prepared_more (made_by c.args.replay.now.crew) k c.args.watcher.now c.cpus.watcher c.meet.new.watcher i.prepared_changes met room;
      many = length-set c.cpus.lasts.items k c.last.result ∙ i.many;
      lasts = lasts_more c.args.replay.now.plans c.args.slot.0 (made_by c.args.replay.now.crew) k c.cpus.lasts.items c.last.result i.lasts below count clock;
    }
