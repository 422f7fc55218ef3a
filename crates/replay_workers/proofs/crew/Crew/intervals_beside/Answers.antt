use Rattle.std.proofs.Common.{◌<◌, ◌≤◌, List, ap, length, subst, sym, ◌∙◌}
use Rattle.std.specs.Prelude.{All, Some}
use Rattle.replay_workers.specs.Crew.{AreNotPast, AreSampled, CrewView}
use Rattle.replay_workers.specs.Lanes.{HaveAllGone, LaneView, MayAllGo}
use Rattle.replay_workers.specs.Watches.{AreWatching, HaveSlot, HaveWatched, WatcherView, crew_of}
use Rattle.replay_workers.proofs.Dealt.{crew_gone, gone_at, may_go, rows_stay}
use Rattle.replay_workers.proofs.Watched.{are_sampled, are_watching, have_slot, watchers_stay}
use Rattle.replay_workers.proofs.crew.Crew.intervals_beside.Goals as goal

pub go_beside-batches-requires-clause-may : goal.go_beside-batches-requires-clause-may
go_beside-batches-requires-clause-may g c =
    let crew = c.self.inside in
    let within = subst (λ (view : CrewView). c.args.ticks.count ≤ view.room) (sym c.self.view_is) c.requires.within in
    let not_past = subst (λ (view : CrewView). AreNotPast view.plans view.clocks c.args.ticks.first) (sym c.self.view_is) c.requires.not_past in
    let all = may_go crew.plans.now crew.batches.items crew.ticks c.args.ticks crew.out crew.room c.self.invariant.lanes within not_past in
    λ _ _. subst (All (MayAllGo c.args.ticks)) (sym (ap (λ batches. batches.items) c.replace-batches.ensures.value)) all

pub go_beside-batches-requires-clause-pairs : goal.go_beside-batches-requires-clause-pairs
go_beside-batches-requires-clause-pairs g c =
    let crew = c.self.inside in
    let all = are_watching crew.plans.now crew.batches.items crew.ticks crew.out crew.room crew.requested crew.watchers.items c.self.invariant.lanes c.self.invariant.watched in
    λ _ _. subst (λ (batches : List (List LaneView)). AreWatching batches c.replace-watchers.result.items) (sym (ap (λ batches. batches.items) c.replace-batches.ensures.value))
    (subst (λ (watchers : List WatcherView). AreWatching crew.batches.items watchers) (sym (ap (λ watchers. watchers.items) c.replace-watchers.ensures.value)) all)

pub go_beside-batches-requires-clause-slot : goal.go_beside-batches-requires-clause-slot
go_beside-batches-requires-clause-slot g c =
    let crew = c.self.inside in
    let known = subst (λ (view : CrewView). c.args.slot.0 < length view.plans.lives) (sym c.self.view_is) c.requires.slot in
    let all = have_slot crew.plans.now crew.batches.items crew.ticks crew.out crew.room crew.requested c.args.slot.0 crew.watchers.items c.self.invariant.lanes c.self.invariant.watched known in
    λ _ _. subst (λ (watchers : List WatcherView). HaveSlot c.args.slot.0 watchers) (sym (ap (λ watchers. watchers.items) c.replace-watchers.ensures.value)) all

pub invariant_of-self : goal.invariant_of-self
invariant_of-self g c =
    let crew = c.self.inside in
    let lanes = c.go_beside-batches.result.0.items in
    let new = c.go_beside-batches.result.1.items in
    let within = subst (λ (view : CrewView). c.args.ticks.count ≤ view.room) (sym c.self.view_is) c.requires.within in
    let batches_are = ap (λ batches. batches.items) c.replace-batches.ensures.value in
    let watchers_are = ap (λ watchers. watchers.items) c.replace-watchers.ensures.value in
    let gone = subst (λ (batches : List (List LaneView)). HaveAllGone c.args.ticks batches lanes) batches_are c.go_beside-batches.ensures.gone in
    let watched = subst (λ (watchers : List WatcherView). HaveWatched c.args.slot.0 crew.batches.items lanes watchers new) watchers_are
    (subst (λ (batches : List (List LaneView)). HaveWatched c.args.slot.0 batches lanes c.replace-watchers.result.items new) batches_are c.go_beside-batches.ensures.watched)
    in
    record {
      lanes = crew_gone crew.plans.now crew.batches.items lanes crew.ticks c.args.ticks crew.out crew.room c.self.invariant.lanes within gone;
      watched = watchers_stay crew.plans.now crew.batches.items lanes crew.ticks c.args.ticks crew.out crew.room crew.requested crew.watchers.items new c.self.invariant.lanes gone c.self.invariant.watched watched.many (λ k below. (watched.each k below).same);
    }

pub returns-clause-there : goal.returns-clause-there
returns-clause-there g c =
    let crew = c.self.inside in
    let lanes = c.go_beside-batches.result.0.items in
    let within = subst (λ (view : CrewView). c.args.ticks.count ≤ view.room) (sym c.self.view_is) c.requires.within in
    let gone = subst (λ (batches : List (List LaneView)). HaveAllGone c.args.ticks batches lanes) (ap (λ batches. batches.items) c.replace-batches.ensures.value) c.go_beside-batches.ensures.gone in
    gone_at crew.plans.now crew.batches.items lanes crew.ticks c.args.ticks crew.out crew.room c.self.invariant.lanes within gone

pub returns-clause-live : goal.returns-clause-live
returns-clause-live g c =
    let crew = c.self.inside in
    let lanes = c.go_beside-batches.result.0.items in
    let new = c.go_beside-batches.result.1.items in
    let within = subst (λ (view : CrewView). c.args.ticks.count ≤ view.room) (sym c.self.view_is) c.requires.within in
    let not_past = subst (λ (view : CrewView). AreNotPast view.plans view.clocks c.args.ticks.first) (sym c.self.view_is) c.requires.not_past in
    let batches_are = ap (λ batches. batches.items) c.replace-batches.ensures.value in
    let watchers_are = ap (λ watchers. watchers.items) c.replace-watchers.ensures.value in
    let gone = subst (λ (batches : List (List LaneView)). HaveAllGone c.args.ticks batches lanes) batches_are c.go_beside-batches.ensures.gone in
    let watched = subst (λ (watchers : List WatcherView). HaveWatched c.args.slot.0 crew.batches.items lanes watchers new) watchers_are
    (subst (λ (batches : List (List LaneView)). HaveWatched c.args.slot.0 batches lanes c.replace-watchers.result.items new) batches_are c.go_beside-batches.ensures.watched)
    in
    subst (λ (view : CrewView). AreSampled (Some c.args.slot) view (crew_of crew.plans.now lanes c.args.ticks 0 crew.room crew.requested new)) c.self.view_is
    (are_sampled crew.plans.now crew.batches.items lanes crew.ticks c.args.ticks crew.out crew.room crew.requested c.args.slot crew.watchers.items new 0 c.self.invariant within not_past gone watched)

pub returns-clause-rows : goal.returns-clause-rows
returns-clause-rows g c =
    let crew = c.self.inside in
    let lanes = c.go_beside-batches.result.0.items in
    let gone = subst (λ (batches : List (List LaneView)). HaveAllGone c.args.ticks batches lanes) (ap (λ batches. batches.items) c.replace-batches.ensures.value) c.go_beside-batches.ensures.gone in
    rows_stay crew.plans.now crew.batches.items lanes crew.ticks c.args.ticks crew.out crew.room c.self.invariant.lanes gone ∙ ap (λ (view : CrewView). view.rows) c.self.view_is
