use Rattle.std.proofs.Common.{◌≡◌, ◌≤◌, ◌++◌, List, [], ℕ, ap, arith, drop, length, map, subst, sym, take, ◌∙◌}
use Rattle.std.specs.Prelude.{All}
use Rattle.replay_workers.specs.Crew.{AreAt, AreNotPast, CrewView, last_of, watch_at}
use Rattle.replay_workers.specs.Lanes.{HaveAllGone, LaneView, MayAllGo, clocks_of, rows_of}
use Rattle.replay_workers.specs.Watches.{HaveCleared, IsCrew, WatcherView, watch_seen}
use Rattle.replay_workers.proofs.Dealt.{crew_gone, gone_at, may_go, rows_stay}
use Rattle.replay_workers.proofs.Watched.{none_sampled, watchers_stay, written_back}
use Rattle.replay_workers.proofs.crew.Crew.intervals.Goals as goal

pub go_all-requires-clause-may : goal.go_all-requires-clause-may
go_all-requires-clause-may g c =
    let crew = c.self.inside in
    let within = subst (λ (view : CrewView). c.args.ticks.count ≤ view.room) (sym c.self.view_is) c.requires.within in
    let not_past = subst (λ (view : CrewView). AreNotPast view.plans view.clocks c.args.ticks.first) (sym c.self.view_is) c.requires.not_past in
    let all = subst (All (MayAllGo c.args.ticks)) (sym c.deref_mut.ensures.value) (may_go crew.plans.now crew.batches.items crew.ticks c.args.ticks crew.out crew.room c.self.invariant.lanes within not_past) in
    λ _ _. all

pub invariant_of-self : goal.invariant_of-self
invariant_of-self g c =
    let crew = c.self.inside in
    let lanes = c.go_all.new.batches in
    let watchers = c.clear.new.watchers in
    let within = subst (λ (view : CrewView). c.args.ticks.count ≤ view.room) (sym c.self.view_is) c.requires.within in
    let whole = written_back crew.batches.items lanes crew.batches.len (omega (arith, c.go_all.ensures.many, c.deref_mut.ensures.len, ap length c.deref_mut.ensures.value)) in
    let gone = subst (λ (batches : List (List LaneView)). HaveAllGone c.args.ticks batches lanes) c.deref_mut.ensures.value c.go_all.ensures in
    let cleared = subst (λ (old : List WatcherView). HaveCleared old watchers) c.deref_mut-2.ensures.value c.clear.ensures in
    let watched_whole = written_back crew.watchers.items watchers crew.watchers.len (omega (arith, cleared.many, c.deref_mut-2.ensures.len, ap length c.deref_mut-2.ensures.value)) in
    subst (λ (batches : List (List LaneView)). IsCrew crew.plans.now batches c.args.ticks 0 crew.room crew.requested (take crew.watchers.len (watchers ++ drop (length watchers) crew.watchers.items))) (sym whole)
    (subst (λ (new : List WatcherView). IsCrew crew.plans.now lanes c.args.ticks 0 crew.room crew.requested new) (sym watched_whole) (record {
      lanes = crew_gone crew.plans.now crew.batches.items lanes crew.ticks c.args.ticks crew.out crew.room c.self.invariant.lanes within gone;
      watched = watchers_stay crew.plans.now crew.batches.items lanes crew.ticks c.args.ticks crew.out crew.room crew.requested crew.watchers.items watchers c.self.invariant.lanes gone c.self.invariant.watched cleared.many (λ k below. (cleared.each k below).same);
    }))

pub returns-clause-there : goal.returns-clause-there
returns-clause-there g c =
    let crew = c.self.inside in
    let lanes = c.go_all.new.batches in
    let within = subst (λ (view : CrewView). c.args.ticks.count ≤ view.room) (sym c.self.view_is) c.requires.within in
    let whole = written_back crew.batches.items lanes crew.batches.len (omega (arith, c.go_all.ensures.many, c.deref_mut.ensures.len, ap length c.deref_mut.ensures.value)) in
    let gone = subst (λ (batches : List (List LaneView)). HaveAllGone c.args.ticks batches lanes) c.deref_mut.ensures.value c.go_all.ensures in
    subst (λ (batches : List (List LaneView)). AreAt crew.plans.now (clocks_of batches (length crew.plans.now.plans)) (last_of c.args.ticks)) (sym whole)
    (gone_at crew.plans.now crew.batches.items lanes crew.ticks c.args.ticks crew.out crew.room c.self.invariant.lanes within gone)

pub returns-clause-live : goal.returns-clause-live
returns-clause-live g c =
    let crew = c.self.inside in
    let watchers = c.clear.new.watchers in
    let cleared = subst (λ (old : List WatcherView). HaveCleared old watchers) c.deref_mut-2.ensures.value c.clear.ensures in
    let whole = written_back crew.watchers.items watchers crew.watchers.len (omega (arith, cleared.many, c.deref_mut-2.ensures.len, ap length c.deref_mut-2.ensures.value)) in
    subst (λ (new : List WatcherView). (cpu : ℕ) → (watch_at (map watch_seen new) cpu).samples ≡ []) (sym whole) (none_sampled crew.watchers.items watchers cleared)

pub returns-clause-rows : goal.returns-clause-rows
returns-clause-rows g c =
    let crew = c.self.inside in
    let lanes = c.go_all.new.batches in
    let whole = written_back crew.batches.items lanes crew.batches.len (omega (arith, c.go_all.ensures.many, c.deref_mut.ensures.len, ap length c.deref_mut.ensures.value)) in
    let gone = subst (λ (batches : List (List LaneView)). HaveAllGone c.args.ticks batches lanes) c.deref_mut.ensures.value c.go_all.ensures in
    subst (λ (batches : List (List LaneView)). rows_of batches (length crew.plans.now.plans) ≡ c.args.self.now.rows) (sym whole)
    (rows_stay crew.plans.now crew.batches.items lanes crew.ticks c.args.ticks crew.out crew.room c.self.invariant.lanes gone ∙ ap (λ (view : CrewView). view.rows) c.self.view_is)
