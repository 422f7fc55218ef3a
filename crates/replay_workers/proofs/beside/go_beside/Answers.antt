use Rattle.std.proofs.Common.{◌≡◌, ◌++◌, List, ap, arith, drop, length, subst, take, ◌∙◌}
use Rattle.replay_workers.specs.Lanes.{LaneView}
use Rattle.replay_workers.specs.Watches.{AreSettled, HaveMet, HaveSampled, WatcherView}
use Rattle.replay_workers.proofs.Watched.{have_watched, written_back}
use Rattle.replay_workers.proofs.beside.go_beside.Goals as goal

pub returns-clause-watched : goal.returns-clause-watched
returns-clause-watched g c =
    let slot = c.args.slot.0 in
    let start = c.args.watchers.items in
    let lanes = c.join-batches.result.0 in
    let new = c.join-batches.result.1 in
    let same_lanes : c.settle_all.new.batches ≡ lanes.items = c.settle_all.ensures.lanes ∙ c.deref_mut-3.ensures.value in
    let same : c.settle_all.new.watchers ≡ new.items = c.settle_all.ensures.same ∙ c.deref_mut-4.ensures.value in
    let whole_lanes = written_back lanes.items c.settle_all.new.batches lanes.len (omega (arith, c.deref_mut-3.ensures.len, ap length c.settle_all.ensures.lanes)) ∙ same_lanes in
    let whole = written_back new.items c.settle_all.new.watchers new.len (omega (arith, c.deref_mut-4.ensures.len, ap length c.settle_all.ensures.same)) ∙ same in
    let met_watchers = c.meet_all.new.watchers in
    let met_whole : take c.args.watchers.len (met_watchers ++ drop (length met_watchers) start) ≡ met_watchers = written_back start met_watchers c.args.watchers.len (omega (arith, c.deref_mut-2.ensures.len, c.meet_all.ensures.met.many)) in
    let met : HaveMet slot c.args.batches.items start met_watchers = subst (λ (watchers : List WatcherView). HaveMet slot c.args.batches.items watchers met_watchers) c.deref_mut-2.ensures.value (subst (λ (batches : List (List LaneView)). HaveMet slot batches c.deref_mut-2.result.now met_watchers) c.deref_mut.ensures.value c.meet_all.ensures.met) in
    let sampled : HaveSampled slot met_watchers new.items = subst (λ (watchers : List WatcherView). HaveSampled slot watchers new.items) met_whole c.join-batches.ensures.second in
    let settled : AreSettled lanes.items new.items = subst (λ (watchers : List WatcherView). AreSettled lanes.items watchers) c.deref_mut-4.ensures.value (subst (λ (batches : List (List LaneView)). AreSettled batches c.deref_mut-4.result.now) c.deref_mut-3.ensures.value c.settle_all.ensures.settled) in
    rw (whole_lanes, whole) (have_watched c.args.batches.items lanes.items slot start met_watchers new.items met sampled settled)
