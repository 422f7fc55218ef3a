-- Proofs about the watchers of lanes, and how an interval changes them.
use Rattle.std.proofs.Common.{◌≡◌, ℕ, ◌<◌, ◌≤◌, List, [], ◌++◌, drop, take, length, map, refl, sym, ap, ◌∙◌, subst, arith, ◌⊎◌, ⊎_elim}
use Rattle.std.specs.Prelude.{Some}
use Rattle.std.specs.List.{All}
use Rattle.std.proofs.Math.ListN.{get_or-eq_default, get_or-map}
use Rattle.std.proofs.Math.Seq.{take-append_seam}
use Rattle.atomic_table.specs.Seated.{TableId}
use Rattle.psi_base.specs.declared.event.Slot.{Slot}
use Rattle.plan_laws.specs.Plan.{IsClock, PlanView}
use Rattle.psi_spec.specs.Changes.{RiseWithin}
use Rattle.proc_plan.specs.Clocks.{OnPlan}
use Rattle.proc_plan.specs.Plans.{PlansView, plan_at}
use Rattle.clock_row.specs.declared.reader.Sample.{Sample}
use Rattle.clock_row.specs.Tries.{IsTried}
use Rattle.replay_workers.specs.declared.ticks.Ticks.{Ticks}
use Rattle.replay_workers.specs.Crew.{AreNotPast, AreSampled, IsSampled, WatchView, clocks_at, counts_sampled, last_of, watch_at}
use Rattle.replay_workers.specs.Lanes.{AreLanes, HaveAllGone, LaneView, clocks_of, lane_of, no_ticks}
use Rattle.replay_workers.specs.Watches.{AreNewWatchers, AreSettled, AreWatchers, AreWatching, HasMet, HasSampled, HasWatched, HaveCleared, HaveMet, HaveSampled, HaveSlot, HaveWatched, IsCrew, IsLaneThere, IsSameWatcher, WatcherView, crew_of, no_watcher, watch_seen, watcher_at}
use Rattle.replay_workers.proofs.Dealt.{clocks_are, clocks_many, gone_at, gone_there, lane_is, lane_there}
use Rattle.plan_laws.proofs.PlanTimes.{changes_more}
use Rattle.replay_workers.proofs.Tries.{no_clocks, no_tries, rise_wider, tried_since}

-- Overwriting a prefix with `new` gives a list that begins with `new`.
pub written_back : {X : Type 0} (xs new : List X) (n : ℕ) → n ≡ length new → take n (new ++ drop (length new) xs) ≡ new
written_back xs new n size = rw size (take-append_seam new (drop (length new) xs))

-- ---- one interval

has_watched : (lane_old lane_new : LaneView) (slot : ℕ) (old met new : WatcherView) → HasMet slot lane_old.on old met → HasSampled slot met new → new.knows.seen ≤ lane_new.on.made → HasWatched slot lane_old lane_new old new
has_watched lane_old lane_new slot old met new one two settled =
    let counts = counts_sampled new.samples in
    record {
      same = record {
        cpu = two.same.cpu ∙ one.same.cpu;
        row = two.same.row ∙ one.same.row;
        plan = two.same.plan ∙ one.same.plan;
        requested = two.same.requested ∙ one.same.requested;
      };
      sampled = record {
        many = two.many ∙ one.same.requested;
        clocks = subst (λ (plan : PlanView). All (λ (sample : Sample). IsClock sample.clock plan slot sample.count) new.samples) one.same.plan two.clocks;
        rise = rise_wider lane_old.on.made new.knows.seen lane_new.on.made counts settled (subst (λ n. RiseWithin n counts new.knows.seen) one.count two.rise);
        tried = tried_since counts lane_old.on.made old.knows met.knows new.knows one.got one.met (subst (λ n. IsTried counts n met.knows new.knows) one.count two.tried);
        few = omega (arith, two.few, one.met, ap length one.got, one.same.requested);
      };
    }

-- The watchers took their samples while the lanes made changes.
pub have_watched : (lanes_old lanes_new : List (List LaneView)) (slot : ℕ) (old met new : List WatcherView) → HaveMet slot lanes_old old met → HaveSampled slot met new → AreSettled lanes_new new → HaveWatched slot lanes_old lanes_new old new
have_watched lanes_old lanes_new slot old met new is sampled settled = record {
  many = sampled.many ∙ is.many;
  each = λ k below.
      let at_met : k < length met = omega (arith, below, is.many) in
      let at_new : k < length new = omega (arith, at_met, sampled.many) in
      has_watched (lane_of lanes_old k) (lane_of lanes_new k) slot (watcher_at old k) (watcher_at met k) (watcher_at new k) (is.each k below) (sampled.each k at_met) (settled k at_new);
}

-- ---- the watchers of a crew

-- Only existing processors are watched.
pub watched_below : (plans : PlansView) (lanes : List (List LaneView)) (requested : ℕ) (watchers : List WatcherView) (cpu : ℕ) → AreWatchers plans lanes requested watchers → cpu < length watchers → cpu < length plans.plans
watched_below plans lanes requested watchers cpu are below =
    let case : (requested ≡ 0) ⊎ (0 < requested) = grind arith in
    ⊎_elim
    (λ none. absurd (let no : ⊥ = omega (arith, below, are.none none) in no))
    (λ some. omega (arith, below, are.all some))
    case

-- Each watcher of a crew watches the lane of its processor.
pub are_watching : (plans : PlansView) (lanes : List (List LaneView)) (ticks : Ticks) (out room requested : ℕ) (watchers : List WatcherView) → AreLanes plans lanes ticks out room → AreWatchers plans lanes requested watchers → AreWatching lanes watchers
are_watching plans lanes ticks out room requested watchers is are = λ k below.
    let inside = watched_below plans lanes requested watchers k are below in
    let own = are.each k below in
    record {
      there = record { some = is.some; place = lane_there plans lanes ticks out room k is inside };
      cpu_is = own.cpu_is;
      row = own.row;
      plan = own.plan ∙ sym (lane_is plans lanes ticks out room k is inside).plan;
    }

-- The plan of each watcher has all slots of the crew's plans.
pub have_slot : (plans : PlansView) (lanes : List (List LaneView)) (ticks : Ticks) (out room requested slot : ℕ) (watchers : List WatcherView) → AreLanes plans lanes ticks out room → AreWatchers plans lanes requested watchers → slot < length plans.lives → HaveSlot slot watchers
have_slot plans lanes ticks out room requested slot watchers is are known = λ k below.
    let inside = watched_below plans lanes requested watchers k are below in
    let slots = (lane_is plans lanes ticks out room k is inside).slots in
    subst (λ (plan : PlanView). slot < length plan.parents) (sym (are.each k below).plan) (omega (arith, known, slots))

-- The watchers still belong to the lanes after the lanes advanced by ticks.
pub watchers_stay : (plans : PlansView) (lanes_old lanes_new : List (List LaneView)) (before ticks : Ticks) (out room requested : ℕ) (old new : List WatcherView) → AreLanes plans lanes_old before out room → HaveAllGone ticks lanes_old lanes_new
    → AreWatchers plans lanes_old requested old → length new ≡ length old → ((k : ℕ) → k < length old → IsSameWatcher (watcher_at old k) (watcher_at new k)) → AreWatchers plans lanes_new requested new
watchers_stay plans lanes_old lanes_new before ticks out room requested old new is gone are many same = record {
  none = λ zero. many ∙ are.none zero;
  all = λ some. many ∙ are.all some;
  each = λ cpu below.
      let inside : cpu < length old = omega (arith, below, many) in
      let own = are.each cpu inside in
      let one = same cpu inside in
      let lane = gone_there plans lanes_old lanes_new before ticks out room cpu is gone (watched_below plans lanes_old requested old cpu are inside) in
      record {
        cpu_is = one.cpu ∙ own.cpu_is;
        row = ap (λ (row : TableId). Some row) one.row ∙ own.row ∙ sym lane.row;
        plan = one.plan ∙ own.plan;
        requested_is = one.requested ∙ own.requested_is;
      };
}

-- ---- what callers see

watch_found : (watchers : List WatcherView) (cpu : ℕ) → watch_at (map watch_seen watchers) cpu ≡ watch_seen (watcher_at watchers cpu)
watch_found watchers cpu = get_or-map watch_seen watchers cpu no_watcher

-- Watchers without samples show none.
no_samples : (watchers : List WatcherView) → ((k : ℕ) → k < length watchers → (watcher_at watchers k).samples ≡ []) → (cpu : ℕ) → (watch_at (map watch_seen watchers) cpu).samples ≡ []
no_samples watchers none cpu =
    let case : (cpu < length watchers) ⊎ (length watchers ≤ cpu) = grind arith in
    ap (λ (watch : WatchView). watch.samples) (watch_found watchers cpu)
    ∙ ⊎_elim (λ below. none cpu below) (λ beyond. ap (λ (watcher : WatcherView). watcher.samples) (get_or-eq_default watchers no_watcher beyond)) case

-- Watchers that discarded their samples show none.
pub none_sampled : (old new : List WatcherView) → HaveCleared old new → (cpu : ℕ) → (watch_at (map watch_seen new) cpu).samples ≡ []
none_sampled old new cleared = no_samples new (λ k below. (cleared.each k (omega (arith, below, cleared.many))).none)

-- New watchers show no samples.
pub new_unsampled : (lanes : List (List LaneView)) (cpus requested : ℕ) (watchers : List WatcherView) → AreNewWatchers lanes cpus requested watchers → (cpu : ℕ) → (watch_at (map watch_seen watchers) cpu).samples ≡ []
new_unsampled lanes cpus requested watchers new = no_samples watchers (λ k below. (new.each k below).none)

-- If `requested` is 0, taking no sample is enough.
nothing_requested : (plan : PlanView) (slot requested before now : ℕ) (watch : WatchView) → requested ≡ 0 → watch.samples ≡ [] → before ≤ now → IsSampled plan slot requested before now watch watch
nothing_requested plan slot requested before now watch zero none forward = record {
  many = ap length none ∙ sym zero;
  clocks = no_clocks plan slot watch.samples none;
  rise = subst (λ (samples : List Sample). RiseWithin before (counts_sampled samples) now) (sym none) forward;
  tried = no_tries before watch.samples watch.reader none;
  few = omega arith;
}

-- A processor has made at least as many changes after the ticks as before.
made_more : (plans : PlansView) (old new : List (List LaneView)) (before ticks : Ticks) (out room cpu : ℕ) → AreLanes plans old before out room → ticks.count ≤ room → AreNotPast plans (clocks_of old (length plans.plans)) ticks.first → HaveAllGone ticks old new → cpu < length plans.plans
    → (clocks_at (clocks_of old (length plans.plans)) cpu).made ≤ (clocks_at (clocks_of new (length plans.plans)) cpu).made
made_more plans old new before ticks out room cpu is within not_past gone below =
    let plan = plan_at plans cpu in
    let early = not_past.not_past cpu (omega (arith, below, clocks_many old (length plans.plans))) in
    let late = (gone_at plans old new before ticks out room is within gone).there cpu (omega (arith, below, clocks_many new (length plans.plans))) in
    let later = changes_more plan ticks.first (last_of ticks) (omega arith) in
    omega (arith, early, late, later)

-- The samples of a crew's watchers are what contracts see after an interval.
pub are_sampled : (plans : PlansView) (lanes_old lanes_new : List (List LaneView)) (before ticks : Ticks) (out room requested : ℕ) (slot : Slot) (old new : List WatcherView) (ready : ℕ) → IsCrew plans lanes_old before out room requested old → ticks.count ≤ room
    → AreNotPast plans (clocks_of lanes_old (length plans.plans)) ticks.first → HaveAllGone ticks lanes_old lanes_new → HaveWatched slot.0 lanes_old lanes_new old new
    → AreSampled (Some slot) (crew_of plans lanes_old before out room requested old) (crew_of plans lanes_new ticks ready room requested new)
are_sampled plans lanes_old lanes_new before ticks out room requested slot old new ready is within not_past gone watched = λ cpu below.
    let cpus = length plans.plans in
    let plan = plan_at plans cpu in
    let made_old = (clocks_at (clocks_of lanes_old cpus) cpu).made in
    let made_new = (clocks_at (clocks_of lanes_new cpus) cpu).made in
    let case : (requested ≡ 0) ⊎ (0 < requested) = grind arith in
    let at_watchers : IsSampled plan slot.0 requested made_old made_new (watch_seen (watcher_at old cpu)) (watch_seen (watcher_at new cpu)) =
    ⊎_elim
    (λ zero.
    let none : length old ≡ 0 = is.watched.none zero in
    let old_none : watcher_at old cpu ≡ no_watcher = get_or-eq_default old no_watcher (omega (arith, none)) in
    let new_none : watcher_at new cpu ≡ no_watcher = get_or-eq_default new no_watcher (omega (arith, none, watched.many)) in
    let forward = made_more plans lanes_old lanes_new before ticks out room cpu is.lanes within not_past gone below in
    subst (λ (w : WatcherView). IsSampled plan slot.0 requested made_old made_new (watch_seen (watcher_at old cpu)) (watch_seen w)) (sym new_none)
    (subst (λ (w : WatcherView). IsSampled plan slot.0 requested made_old made_new (watch_seen w) (watch_seen no_watcher)) (sym old_none) (nothing_requested plan slot.0 requested made_old made_new (watch_seen no_watcher) zero refl forward)))
    (λ some.
    let inside : cpu < length old = omega (arith, below, is.watched.all some) in
    let own = is.watched.each cpu inside in
    let one = (watched.each cpu inside).sampled in
    let made_was : (lane_of lanes_old cpu).on.made ≡ made_old = ap (λ (on : OnPlan). on.made) (sym (clocks_are lanes_old cpus cpu below)) in
    let made_is : (lane_of lanes_new cpu).on.made ≡ made_new = ap (λ (on : OnPlan). on.made) (sym (clocks_are lanes_new cpus cpu below)) in
    subst (λ (p : PlanView). IsSampled p slot.0 requested made_old made_new (watch_seen (watcher_at old cpu)) (watch_seen (watcher_at new cpu))) own.plan
    (subst (λ n. IsSampled (watcher_at old cpu).knows.plan slot.0 n made_old made_new (watch_seen (watcher_at old cpu)) (watch_seen (watcher_at new cpu))) own.requested_is
    (subst (λ n. IsSampled (watcher_at old cpu).knows.plan slot.0 (watcher_at old cpu).requested n made_new (watch_seen (watcher_at old cpu)) (watch_seen (watcher_at new cpu))) made_was
    (subst (λ n. IsSampled (watcher_at old cpu).knows.plan slot.0 (watcher_at old cpu).requested (lane_of lanes_old cpu).on.made n (watch_seen (watcher_at old cpu)) (watch_seen (watcher_at new cpu))) made_is one))))
    case
    in
    subst (λ (w : WatchView). IsSampled plan slot.0 requested made_old made_new w (watch_at (map watch_seen new) cpu)) (sym (watch_found old cpu))
    (subst (λ (w : WatchView). IsSampled plan slot.0 requested made_old made_new (watch_seen (watcher_at old cpu)) w) (sym (watch_found new cpu)) at_watchers)

-- ---- a new crew

-- Each lane of a new crew exists.
pub new_there : (plans : PlansView) (lanes : List (List LaneView)) (room cpu : ℕ) → AreLanes plans lanes no_ticks 0 room → cpu < length plans.plans → IsLaneThere lanes cpu
new_there plans lanes room cpu is below = record { some = is.some; place = lane_there plans lanes no_ticks 0 room cpu is below }

-- New watchers of all processors, or no watchers if `requested` is 0, are the watchers of a crew.
pub watchers_new : (plans : PlansView) (lanes : List (List LaneView)) (room cpus requested : ℕ) (watchers : List WatcherView) → AreLanes plans lanes no_ticks 0 room → (requested ≡ 0 → cpus ≡ 0) → (0 < requested → cpus ≡ length plans.plans) → AreNewWatchers lanes cpus requested watchers
    → AreWatchers plans lanes requested watchers
watchers_new plans lanes room cpus requested watchers is none all new = record {
  none = λ zero. new.many ∙ none zero;
  all = λ some. new.many ∙ all some;
  each = λ cpu below.
      let case : (requested ≡ 0) ⊎ (0 < requested) = grind arith in
      let inside : cpu < length plans.plans = ⊎_elim
      (λ zero. absurd (let no : ⊥ = omega (arith, below, new.many, none zero) in no))
      (λ some. omega (arith, below, new.many, all some))
      case
      in
      let own = new.each cpu below in
      record {
        cpu_is = own.cpu_is;
        row = own.row_is;
        plan = own.plan_is ∙ (lane_is plans lanes no_ticks 0 room cpu is inside).plan;
        requested_is = own.requested_is;
      };
}
