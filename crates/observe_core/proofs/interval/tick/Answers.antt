use Rattle.std.proofs.Common.{◌≡◌, ◌+◌, ◌++◌, ◌∙◌, List, [], ap, arith, drop, false, length, subst, sym, take}
use Rattle.std.specs.Prelude.{None, Some}
use Rattle.std.specs.List.{All}
use Rattle.atomic_table.specs.Seated.{TableId}
use Rattle.replay_ticks.specs.Replays.{ReplayView}
use Rattle.observe_core.specs.Observing.{CanWatch, HaveAllWatched, ObserverView}
use Rattle.observe_core.specs.Driving.{AreReady, AreSettled, AreWhole, HasPassed, IsObserved, MaySettle, made_by, slot_in}
use Rattle.observe_core.proofs.TickLaws.{all_can_watch, all_may_settle, passed_next, slot_found, watched_next, written_back}
use Rattle.observe_core.proofs.interval.tick.Goals as goal

pub interval-replay-requires-clause-watch : goal.interval-replay-requires-clause-watch
interval-replay-requires-clause-watch g c κs within =
    let go = c.requires in
    let slot = c.in-Some.slot.0 in
    let replay = c.args.replay in
    let old = c.args.observers.items in
    let mid = c.ready_all.new.observers in
    let ready : AreReady replay.plans slot (made_by replay.crew) old mid = subst (λ (observers : List ObserverView). AreReady replay.plans slot (made_by replay.crew) observers mid) c.deref_mut.ensures.value c.ready_all.ensures.ready in
    let back : take c.args.observers.len (mid ++ drop (length mid) old) ≡ mid = written_back old mid c.args.observers.len (omega (arith, c.deref_mut.ensures.len, c.ready_all.ensures.ready.many)) in
    let can : All (CanWatch go.0.board slot) mid = all_can_watch go.0 go.1 slot replay old mid go.3 c.in-Some.ensures.made ready in
    subst (λ (observers : List ObserverView). All (CanWatch c.args.board.now slot) observers) (sym back) (subst (λ (board : TableId). All (CanWatch board slot) mid) go.2 can)

pub settle_all-requires : goal.settle_all-requires
settle_all-requires g c =
    let go = c.requires in
    let slot = c.in-Some.slot.0 in
    let replay = c.args.replay in
    let old = c.args.observers.items in
    let mid = c.ready_all.new.observers in
    let after = c.interval-replay.result.0 in
    let watched = c.interval-replay.result.1.items in
    let ready : AreReady replay.plans slot (made_by replay.crew) old mid = subst (λ (observers : List ObserverView). AreReady replay.plans slot (made_by replay.crew) observers mid) c.deref_mut.ensures.value c.ready_all.ensures.ready in
    let back : take c.args.observers.len (mid ++ drop (length mid) old) ≡ mid = written_back old mid c.args.observers.len (omega (arith, c.deref_mut.ensures.len, c.ready_all.ensures.ready.many)) in
    let all : HaveAllWatched slot mid watched = subst (λ (observers : List ObserverView). HaveAllWatched slot observers watched) back c.interval-replay.ensures.watched in
    let has : HasPassed replay after = subst (λ (r : ReplayView). HasPassed r after) c.ready_all.ensures.same c.interval-replay.ensures.passed in
    let may : All (λ (observer : ObserverView). observer.failed ≡ false → MaySettle after observer.watcher (length observer.lasts)) watched = all_may_settle go.0 go.1 slot replay after old mid watched go.3 go.4 ready has all in
    subst (λ (observers : List ObserverView). All (λ (observer : ObserverView). observer.failed ≡ false → MaySettle after observer.watcher (length observer.lasts)) observers) (sym c.deref_mut-in-Some.ensures.value) may

pub returns-in-Some-clause-many : goal.returns-in-Some-clause-many
returns-in-Some-clause-many g c =
    let old = c.args.observers.items in
    let mid = c.ready_all.new.observers in
    let watched = c.interval-replay.result.1.items in
    let last = c.settle_all.new.observers in
    let ready : length mid ≡ length old = c.ready_all.ensures.ready.many ∙ ap length c.deref_mut.ensures.value in
    let back : take c.args.observers.len (mid ++ drop (length mid) old) ≡ mid = written_back old mid c.args.observers.len (omega (arith, c.deref_mut.ensures.len, c.ready_all.ensures.ready.many)) in
    let all : length watched ≡ length mid = c.interval-replay.ensures.watched.many ∙ ap length back in
    let settled : length last ≡ length watched = c.settle_all.ensures.settled.many ∙ ap length c.deref_mut-in-Some.ensures.value in
    let again : take c.interval-replay.result.1.len (last ++ drop (length last) watched) ≡ last = written_back watched last c.interval-replay.result.1.len (omega (arith, c.deref_mut-in-Some.ensures.len, c.settle_all.ensures.settled.many)) in
    ap length again ∙ settled ∙ all ∙ ready

pub returns-in-Some-clause-observed : goal.returns-in-Some-clause-observed
returns-in-Some-clause-observed g c = λ set i board is left whole.
    let slot = c.in-Some.slot.0 in
    let replay = c.args.replay in
    let old = c.args.observers.items in
    let mid = c.ready_all.new.observers in
    let after = c.interval-replay.result.0 in
    let watched = c.interval-replay.result.1.items in
    let last = c.settle_all.new.observers in
    let here : slot_in set (i + 1) ≡ Some slot = slot_found set i replay (Some c.in-Some.slot) is.reached (c.in-Some.ensures.slot set.trace set.timing [] i is.reached.replayed left) in
    let ready : AreReady replay.plans slot (made_by replay.crew) old mid = subst (λ (observers : List ObserverView). AreReady replay.plans slot (made_by replay.crew) observers mid) c.deref_mut.ensures.value c.ready_all.ensures.ready in
    let back : take c.args.observers.len (mid ++ drop (length mid) old) ≡ mid = written_back old mid c.args.observers.len (omega (arith, c.deref_mut.ensures.len, c.ready_all.ensures.ready.many)) in
    let all : HaveAllWatched slot mid watched = subst (λ (observers : List ObserverView). HaveAllWatched slot observers watched) back c.interval-replay.ensures.watched in
    let has : HasPassed replay after = subst (λ (r : ReplayView). HasPassed r after) c.ready_all.ensures.same c.interval-replay.ensures.passed in
    let settled : AreSettled (made_by after.crew) watched last = subst (λ (observers : List ObserverView). AreSettled (made_by after.crew) observers last) c.deref_mut-in-Some.ensures.value c.settle_all.ensures.settled in
    let again : take c.interval-replay.result.1.len (last ++ drop (length last) watched) ≡ last = written_back watched last c.interval-replay.result.1.len (omega (arith, c.deref_mut-in-Some.ensures.len, c.settle_all.ensures.settled.many)) in
    let observed : IsObserved set after last (i + 1) = watched_next set i slot replay after old mid watched last is left here ready has all settled (subst AreWhole again whole) in
    subst (λ (observers : List ObserverView). IsObserved set c.settle_all.new.replay observers (i + 1)) (sym again)
    (subst (λ (r : ReplayView). IsObserved set r last (i + 1)) (sym c.settle_all.ensures.same) observed)

pub returns-in-None-clause-observed : goal.returns-in-None-clause-observed
returns-in-None-clause-observed g c = λ set i board is left whole.
    let here : slot_in set (i + 1) ≡ None = slot_found set i c.args.replay None is.reached (c.in-None.ensures.slot set.trace set.timing [] i is.reached.replayed left) in
    let has : HasPassed c.args.replay c.pass_unwatched.new.self = record {
      plans_are = c.pass_unwatched.ensures.plans;
      rows_are = c.pass_unwatched.ensures.rows;
      passed = c.pass_unwatched.ensures.passed;
    } in
    passed_next set i c.args.replay c.pass_unwatched.new.self c.args.observers.items is left here has
