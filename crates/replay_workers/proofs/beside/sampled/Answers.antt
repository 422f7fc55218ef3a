use Rattle.std.proofs.Common.{◌<◌, arith, length, rules, subst, sym, ◌∙◌}
use Rattle.std.proofs.lemmas.List.{get_or_default, length-set}
use Rattle.replay_workers.specs.Watches.{HasSampled, MaySample, WatcherView, no_watcher}
use Rattle.replay_workers.proofs.Steps.{each_changed, left_changed}
use Rattle.replay_workers.proofs.beside.sampled.Goals as goal

pub sample-requires-after_bounds : goal.sample-requires-after_bounds
sample-requires-after_bounds g c κs within =
    let i = c.watchers.invariant in
    let index = c.watchers.watcher-index in
    let below : index < length c.watchers.watcher-items = search rules in
    let start = i.left index (omega arith) in
    subst (MaySample c.args.slot.0) (sym (get_or_default c.watchers.watcher-items index c.watcher-item.result no_watcher below ∙ start)) (c.requires index (omega (arith, below, i.many)))

pub watchers-preserved : goal.watchers-preserved
watchers-preserved g c =
    let i = c.watchers.invariant in
    let start = c.args.watchers.items in
    let now = c.watchers.watcher-items in
    let index = c.watchers.watcher-index in
    let below : index < length now = search rules in
    let same = get_or_default now index c.watcher-item.result no_watcher below ∙ i.left index (omega arith) in
    record {
      many = length-set now index c.sample.new.self ∙ i.many;
      sampled = each_changed (λ k (old new : WatcherView). HasSampled c.args.slot.0 old new) start now index c.sample.new.self no_watcher below i.sampled (subst (λ (old : WatcherView). HasSampled c.args.slot.0 old c.sample.new.self) same c.sample.ensures);
      left = left_changed start now index c.sample.new.self no_watcher i.left;
    }
