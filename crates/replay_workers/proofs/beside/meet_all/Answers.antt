use Rattle.std.proofs.Common.{◌<◌, List, arith, length, rules, subst, ◌∙◌}
use Rattle.std.specs.Prelude.{slice_index_or}
use Rattle.std.proofs.lemmas.List.{get_or_default, length-set}
use Rattle.replay_workers.specs.Lanes.{LaneView, lane_of}
use Rattle.replay_workers.specs.Watches.{HasMet, WatcherView, no_watcher}
use Rattle.replay_workers.proofs.Steps.{each_changed, left_changed}
use Rattle.replay_workers.proofs.beside.meet_all.Goals as goal

pub watchers-preserved : goal.watchers-preserved
watchers-preserved c =
    let i = c.watchers.invariant in
    let lanes = c.args.batches.now in
    let start = c.args.watchers.now in
    let now = c.watchers.watchers in
    let index = c.watchers.watcher-index in
    let new = c.meet.new.watcher in
    let slot = c.args.slot.0 in
    let below : index < length now = search rules in
    let same = get_or_default now index c.watcher-item.result no_watcher below ∙ i.left index (omega arith) in
    let own = (c.requires.pairs index (omega (arith, below, i.many))).cpu_is in
    let here = subst (λ (old : WatcherView). HasMet slot (lane_of c.watchers.batches old.cpu).on old new) same c.meet.ensures.met in
    record {
      same = c.meet.ensures.same ∙ i.same;
      many = length-set now index new ∙ i.many;
      met = each_changed (λ k (old changed : WatcherView). HasMet slot (lane_of lanes k).on old changed) start now index new no_watcher below i.met
          (subst (λ k. HasMet slot (lane_of lanes k).on (slice_index_or start index no_watcher) new) own (subst (λ (batches : List (List LaneView)). HasMet slot (lane_of batches (slice_index_or start index no_watcher).cpu).on (slice_index_or start index no_watcher) new) i.same here));
      left = left_changed start now index new no_watcher i.left;
    }
