use Rattle.std.proofs.Common.{◌<◌, length, arith, rules, subst, ◌∙◌}
use Rattle.replay_ticks.specs.Replays.{ReplayView}
use Rattle.observer_log.specs.Watch.{WatcherView}
use Rattle.observe_core.specs.Driving.{HasSettled, made_by}
use Rattle.observe_core.proofs.SettleLaws.{unchanged, within_more}
use Rattle.observe_core.proofs.settle.settle_readers.Goals as goal

pub cpus-init : goal.cpus-init
cpus-init c = record {
  same = search rules;
  watcher = search rules;
  within = λ cpu below. absurd (omega (arith, below));
}

pub cpus-preserved : goal.cpus-preserved
cpus-preserved c =
    let i = c.cpus.invariant in
    let k = c.cpus.place in
    let start = c.args.watcher.now in
    let made = made_by c.args.replay.now.crew in
    let settled : HasSettled k (made k) start c.settle.new.watcher = subst (λ (z : ReplayView × WatcherView). HasSettled k (made_by z.0.crew k) z.1 c.settle.new.watcher) (λ x. (i.same x, i.watcher x)) c.settle.ensures.settled in
    let below : k < c.args.cpus = search rules in
    let room : k < length start.readers = omega (arith, below, c.requires.all, c.requires.readers_are) in
    record {
      same = c.settle.ensures.same ∙ i.same;
      watcher = unchanged k (made k) start c.settle.new.watcher settled room;
      within = within_more made k start i.within settled.within;
    }
