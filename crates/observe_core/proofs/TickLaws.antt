-- Proofs about observers during a replay, from tick to tick.
use Rattle.std.proofs.Common.{◌≡◌, ⊎_elim, ℕ, ◌+◌, ◌<◌, ◌≤◌, false, zero, suc, List, [], ◌∷◌, ◌++◌, drop, length, get_or, take, refl, sym, ap, ◌∙◌, subst, arith, Option, None, Some}
use Rattle.std.specs.Prelude.{slice_get, slice_index_or}
use Rattle.std.specs.List.{All}
use Rattle.std.proofs.Math.Seq.{take-append_seam}
use Rattle.std.proofs.lemmas.List.{length-append}
use Rattle.psi_base.specs.declared.event.Slot.{Slot}
use Rattle.psi_spec.specs.Stall.{number_of_slot}
use Rattle.pressure_spec.specs.Ticks.{tick_moment}
use Rattle.run_spec.specs.Live.{LiveWatch, changes_until}
use Rattle.psi_spec.specs.Trace.{Trace}
use Rattle.run_spec.specs.Replay.{Timing, signals_until, tick_count}
use Rattle.plan_laws.specs.Plan.{IsClock, PlanView}
use Rattle.proc_plan.specs.Plans.{PlansView, plan_at}
use Rattle.clock_row.specs.declared.reader.Sample.{Sample}
use Rattle.replay_rules.specs.Planned.{IsPlanned}
use Rattle.replay_workers.specs.Crew.{CrewView, clocks_at, row_at}
use Rattle.replay_ticks.specs.Replays.{GoesByTick, IsReplay, IsSomeReplay, IsTickLeft, ReplayView, watched_at, watched_path}
use Rattle.replay_ticks.proofs.LiveLaws.{by_tick_is}
use Rattle.observer_log.specs.declared.board.BoardState.{BoardState}
use Rattle.observer_log.specs.Board.{BoardEnd, first_state}
use Rattle.observer_log.specs.Watch.{AreReaders, WatcherView, named_by, reader_at}
use Rattle.observe_core.specs.Observing.{CanLook, CanWatch, HasWatched, HaveAllWatched, ObserverView, last_at}
use Rattle.observe_core.specs.Driving.{AreLasts, AreReady, AreShown, AreWhole, HasObserved, HasPassed, HaveObserved, IsCounted, IsNew, IsObserved, IsPlaced, IsReached, ArePreparedChanges, AreSettled, AreWithin, IsReady, MayReady, MaySettle, Setting, made_by, slot_in, state_at}
use Rattle.observe_core.proofs.ReadyLaws.{either_next}
use Rattle.observe_core.proofs.TakenLaws.{Took, taken_more, taken_none, taken_still}

-- ---- the replay after some ticks

-- a replay that has reached tick `i` is a replay of some trace
pub some_replay : (set : Setting) (i : ℕ) (replay : ReplayView) → IsReached set replay i → IsSomeReplay replay
some_replay set i replay is = (set.trace, set.timing, [], i, is.replayed)

-- the replay can advance if a tick remains
pub can_pass : (set : Setting) (i : ℕ) (replay : ReplayView) → IsReached set replay i → i < tick_count set.trace set.timing → IsTickLeft replay
can_pass set i replay is left = (set.trace, set.timing, [], i, is.replayed, left)

-- there is a plan for each processor of the trace
pub as_many : (set : Setting) (i : ℕ) (replay : ReplayView) → IsReached set replay i → length set.plans.plans ≡ set.trace.cpus
as_many set i replay is = ap (λ (plans : PlansView). length plans.plans) (sym is.plans_are) ∙ is.replayed.planned.represents.each

-- there are at most 64 plans
pub few_plans : (set : Setting) (i : ℕ) (replay : ReplayView) → IsReached set replay i → length set.plans.plans ≤ 64
few_plans set i replay is = let counted = is.replayed.planned.counted.1 in let each = as_many set i replay is in omega (arith, counted, each)

-- the clocks of each processor have made exactly the changes up to the last tick
pub made_until : (set : Setting) (i : ℕ) (replay : ReplayView) → IsReached set replay i → (cpu : ℕ) → cpu < set.trace.cpus → made_by replay.crew cpu ≡ changes_until set.trace set.timing.length cpu i
made_until set i replay is = (by_tick_is replay.crew replay.live set.trace set.timing i (record { path = set.path; count = 1 }) is.watch is.replayed.watching).1

-- each plan has an entry for each group
pub plan_groups : (set : Setting) (i : ℕ) (replay : ReplayView) → IsReached set replay i → (cpu : ℕ) → cpu < length set.plans.plans → length (plan_at set.plans cpu).parents ≡ length set.plans.lives
plan_groups set i replay is = λ cpu below.
    let on = is.replayed.ahead.not_past.on_plans in
    let each = on.each in
    let same = is.plans_are in
    subst (λ (plans : PlansView). length (plan_at plans cpu).parents ≡ length plans.lives) same
    (on.slots cpu (let many : length replay.plans.plans ≡ length set.plans.plans = ap (λ (plans : PlansView). length plans.plans) same in omega (arith, below, each, many)))

-- the slot found for the next tick is the slot that the path has
pub slot_found : (set : Setting) (i : ℕ) (replay : ReplayView) (slot : Option Slot) → IsReached set replay i
    → number_of_slot slot ≡ watched_at set.trace (watched_path set.timing.watch) (tick_moment set.timing.length (i + 1)) → slot_in set (i + 1) ≡ number_of_slot slot
slot_found set i replay slot is found =
    sym (found ∙ ap (λ (watch : Option LiveWatch). watched_at set.trace (watched_path watch) (tick_moment set.timing.length (i + 1))) is.watch)

-- after its next tick the replay has reached tick i + 1
pub reached_next : (set : Setting) (i : ℕ) (old new : ReplayView) → IsReached set old i → i < tick_count set.trace set.timing → HasPassed old new → IsReached set new (i + 1)
reached_next set i old new is left passed = record {
  plans_are = passed.plans_are ∙ is.plans_are;
  rows_are = passed.rows_are ∙ is.rows_are;
  replayed = passed.passed set.trace set.timing [] i is.replayed left;
  watch = is.watch;
}

-- ---- one observer

-- an observer can be prepared for the slot
pub may_ready : (set : Setting) (i number slot : ℕ) (replay : ReplayView) (observer : ObserverView) → IsReached set replay i → IsPlaced set number observer → slot < length replay.plans.lives → MayReady replay slot observer.watcher observer.lasts
may_ready set i number slot replay observer is placed inside =
    let plans : set.plans ≡ replay.plans = sym is.plans_are in
    let many : length set.plans.plans ≡ length replay.plans.plans = ap (λ (p : PlansView). length p.plans) plans in
    let few = few_plans set i replay is in
    record {
      some = some_replay set i replay is;
      few = omega (arith, many, few);
      slot_is = inside;
      plans_are = placed.plans_are ∙ plans;
      readers_are = placed.readers_are.many ∙ many;
      rows_are = λ cpu below. placed.rows_are cpu (omega (arith, below, many)) ∙ ap (λ rows. row_at rows cpu) (sym is.rows_are);
      lasts_are = placed.lasts_are ∙ many;
    }

-- a prepared observer can watch the slot
pub can_watch : (set : Setting) (i number slot : ℕ) (replay : ReplayView) (old mid : ObserverView) → IsReached set replay i → IsPlaced set number old → slot < length replay.plans.lives
    → IsReady replay.plans slot (made_by replay.crew) old mid → CanWatch set.board slot mid
can_watch set i number slot replay old mid is placed inside ready =
    let plans : mid.watcher.plans ≡ set.plans = ready.prepared_changes.plans_are ∙ placed.plans_are in
    let many : length mid.watcher.plans.plans ≡ length set.plans.plans = ap (λ (p : PlansView). length p.plans) plans in
    let few = few_plans set i replay is in
    let lasts = placed.lasts_are in
    let lives : length replay.plans.lives ≡ length set.plans.lives = ap (λ (p : PlansView). length p.lives) is.plans_are in
    let back : set.plans ≡ mid.watcher.plans = sym plans in
    record {
      board_is = ap (λ (pass : BoardEnd). pass.board) ready.pass_is ∙ placed.board_is;
      backed = let parts = ready.parts_are ∙ placed.backed in omega (arith, parts);
      can = record {
        few = omega (arith, many, few);
        lasts_are = ready.many ∙ lasts ∙ sym many;
        readers_are = subst (λ (p : PlansView). AreReaders p mid.watcher.readers) back (record {
          many = ready.prepared_changes.readers_are ∙ placed.readers_are.many;
          name = λ cpu below. ready.prepared_changes.names cpu ∙ placed.readers_are.name cpu below;
        });
        slots = λ cpu below.
            let groups = plan_groups set i replay is cpu (omega (arith, below, many)) in
            let there : slot < length (plan_at set.plans cpu).parents = omega (arith, inside, lives, groups) in
            subst (λ (p : PlansView). slot < length (plan_at p cpu).parents) back there;
        clocks = λ cpu below.
            let clock = ready.lasts_are.clocks cpu (omega (arith, below, many, lasts)) in
            subst (λ (p : PlansView). IsClock (last_at mid.lasts cpu).clock (plan_at p cpu) slot (last_at mid.lasts cpu).count) (is.plans_are ∙ back) clock;
        seen = λ cpu below.
            let inside : cpu < length old.lasts = omega (arith, below, many, lasts) in
            ready.lasts_are.counts cpu inside ∙ sym (ready.prepared_changes.seen cpu inside);
      };
    }

-- the samples that the observer took in the interval
took : (set : Setting) (i number slot : ℕ) (replay : ReplayView) (after : ℕ → ℕ) (old mid new : ObserverView) → IsReached set replay i → IsPlaced set number old → IsReady replay.plans slot (made_by replay.crew) old mid
    → HasWatched slot mid new → new.failed ≡ false → AreWithin after (length new.lasts) new.watcher → Took set slot number (made_by replay.crew) after mid.lasts old.watcher mid.watcher new.watcher
took set i number slot replay after old mid new is placed ready watched whole within = record {
  number_is = placed.number_is;
  plans_are = placed.plans_are;
  many = ready.many ∙ placed.lasts_are;
  prepared_changes = subst (λ (n : ℕ). ArePreparedChanges (made_by replay.crew) n old.watcher mid.watcher) (sym ready.many) ready.prepared_changes;
  lasts_are = subst (λ (n : ℕ). AreLasts set.plans slot (made_by replay.crew) n mid.lasts) (sym ready.many) (subst (λ (plans : PlansView). AreLasts plans slot (made_by replay.crew) (length old.lasts) mid.lasts) is.plans_are ready.lasts_are);
  looked = watched.looked whole;
  within = subst (λ (n : ℕ). AreWithin after n new.watcher) (ap length watched.lasts_are) within;
}

-- the constant properties of the observer still hold
placed_next : (set : Setting) (number slot : ℕ) (replay : ReplayView) (old mid new : ObserverView) → IsPlaced set number old → IsReady replay.plans slot (made_by replay.crew) old mid → HasWatched slot mid new → new.failed ≡ false → IsPlaced set number new
placed_next set number slot replay old mid new placed ready watched whole =
    let looked = watched.looked whole in
    record {
      number_is = looked.observer_is ∙ ready.prepared_changes.observer_is ∙ placed.number_is;
      plans_are = looked.plans_are ∙ ready.prepared_changes.plans_are ∙ placed.plans_are;
      readers_are = record {
        many = looked.readers_are ∙ ready.prepared_changes.readers_are ∙ placed.readers_are.many;
        name = λ cpu below. looked.names cpu ∙ ready.prepared_changes.names cpu ∙ placed.readers_are.name cpu below;
      };
      rows_are = λ cpu below. ap (λ row. Some row) (looked.rows cpu ∙ ready.prepared_changes.rows cpu) ∙ placed.rows_are cpu below;
      lasts_are = ap length watched.lasts_are ∙ ready.many ∙ placed.lasts_are;
      board_is = watched.board_is ∙ ap (λ (pass : BoardEnd). pass.board) ready.pass_is ∙ placed.board_is;
      backed = watched.parts_are ∙ ready.parts_are ∙ placed.backed;
      whole = whole;
    }

-- the replay may learn what the observer has seen
may_settle : (set : Setting) (i number : ℕ) (replay : ReplayView) (observer : ObserverView) → IsReached set replay i → IsPlaced set number observer → MaySettle replay observer.watcher (length observer.lasts)
may_settle set i number replay observer is placed =
    let plans : set.plans ≡ replay.plans = sym is.plans_are in
    let many : length set.plans.plans ≡ length replay.plans.plans = ap (λ (p : PlansView). length p.plans) plans in
    let few = few_plans set i replay is in
    record {
      some = some_replay set i replay is;
      few = omega (arith, many, few);
      all = placed.lasts_are ∙ many;
      plans_are = placed.plans_are ∙ plans;
      readers_are = placed.readers_are.many ∙ many;
      rows_are = λ cpu below. placed.rows_are cpu (omega (arith, below, many)) ∙ ap (λ rows. row_at rows cpu) (sym is.rows_are);
    }

-- the observer's share still counts its entries
counted_next : (slot : ℕ) (plans : PlansView) (made : ℕ → ℕ) (old mid new : ObserverView) → IsReady plans slot made old mid → HasWatched slot mid new → new.failed ≡ false → IsCounted old → IsCounted new
counted_next slot plans made old mid new ready watched whole was = λ stood.
    let looked = watched.looked whole in
    let before = was (sym ready.fell_is ∙ watched.stood stood) in
    let added = watched.added whole stood in
    let amount = ready.amount_is in
    let same : length mid.watcher.own ≡ length old.watcher.own = ap length ready.prepared_changes.own_is in
    let own : length new.watcher.own ≡ length mid.watcher.own + length looked.taken = ap length looked.own_is ∙ length-append mid.watcher.own looked.taken in
    let taken = looked.taken_are.many in
    omega (arith, before, added, amount, same, own, taken)

-- the observer has taken the samples due at one more tick, at which it watched
observed_next : (set : Setting) (i number slot : ℕ) (replay passed : ReplayView) (old mid new : ObserverView) → IsReached set replay i → IsReached set passed (i + 1) → slot_in set (i + 1) ≡ Some slot → HasObserved set i number old
    → IsReady replay.plans slot (made_by replay.crew) old mid → HasWatched slot mid new → new.failed ≡ false → AreWithin (made_by passed.crew) (length new.lasts) new.watcher → HasObserved set (i + 1) number new
observed_next set i number slot replay passed old mid new is next here was ready watched whole within = record {
  placed = placed_next set number slot replay old mid new was.placed ready watched whole;
  taken = taken_more set i slot number (made_by replay.crew) (made_by passed.crew) mid.lasts old.watcher mid.watcher new.watcher (took set i number slot replay (made_by passed.crew) old mid new is was.placed ready watched whole within)
      here (as_many set i replay is) (made_until set i replay is) (made_until set (i + 1) passed next) was.taken;
  counted = counted_next slot replay.plans (made_by replay.crew) old mid new ready watched whole was.counted;
}

-- ---- all observers

-- overwriting a prefix with `new` gives a list that begins with `new`
pub written_back : {X : Type 0} (xs new : List X) (n : ℕ) → n ≡ length new → take n (new ++ drop (length new) xs) ≡ new
written_back xs new n size = rw size (take-append_seam new (drop (length new) xs))

-- all observers can be prepared for the slot
pub all_may_ready : (set : Setting) (i slot : ℕ) (replay : ReplayView) (observers : List ObserverView) → IsObserved set replay observers i → slot < length replay.plans.lives
    → All (λ (observer : ObserverView). MayReady replay slot observer.watcher observer.lasts) observers
all_may_ready set i slot replay observers is inside = λ k d below. may_ready set i k slot replay (get_or observers k d) is.reached (is.observed k d below).placed inside

-- all prepared observers can watch the slot
pub all_can_watch : (set : Setting) (i slot : ℕ) (replay : ReplayView) (old mid : List ObserverView) → IsObserved set replay old i → slot < length replay.plans.lives → AreReady replay.plans slot (made_by replay.crew) old mid
    → All (CanWatch set.board slot) mid
all_can_watch set i slot replay old mid is inside ready = λ k d below.
    let many = ready.many in
    let before : k < length old = omega (arith, below, many) in
    can_watch set i k slot replay (get_or old k d) (get_or mid k d) is.reached (is.observed k d before).placed inside (ready.each k d before)

-- after an interval, the replay may learn what each observer has seen, unless it ran out of memory
pub all_may_settle : (set : Setting) (i slot : ℕ) (replay passed : ReplayView) (old mid new : List ObserverView) → IsObserved set replay old i → i < tick_count set.trace set.timing
    → AreReady replay.plans slot (made_by replay.crew) old mid → HasPassed replay passed → HaveAllWatched slot mid new
    → All (λ (observer : ObserverView). observer.failed ≡ false → MaySettle passed observer.watcher (length observer.lasts)) new
all_may_settle set i slot replay passed old mid new is left ready has all = λ k d below whole.
    let many = ready.many in
    let as_many = all.many in
    let before : k < length old = omega (arith, below, many, as_many) in
    let between : k < length mid = omega (arith, below, as_many) in
    let placed = placed_next set k slot replay (get_or old k d) (get_or mid k d) (get_or new k d) (is.observed k d before).placed (ready.each k d before) (all.each k d between) whole in
    may_settle set (i + 1) k passed (get_or new k d) (reached_next set i replay passed is.reached left has) placed

-- all observers have taken the samples due at one more tick, at which they watched
pub watched_next : (set : Setting) (i slot : ℕ) (replay passed : ReplayView) (old mid new last : List ObserverView) → IsObserved set replay old i → i < tick_count set.trace set.timing → slot_in set (i + 1) ≡ Some slot
    → AreReady replay.plans slot (made_by replay.crew) old mid → HasPassed replay passed → HaveAllWatched slot mid new → AreSettled (made_by passed.crew) new last → AreWhole last → IsObserved set passed last (i + 1)
watched_next set i slot replay passed old mid new last is left here ready has all settled whole =
    let next = reached_next set i replay passed is.reached left has in
    record {
      reached = next;
      observed = λ k d below.
          let many = ready.many in
          let as_many = all.many in
          let still = settled.many in
          let before : k < length old = omega (arith, below, many, as_many, still) in
          let between : k < length mid = omega (arith, below, as_many, still) in
          let after : k < length new = omega (arith, below, still) in
          let same : get_or last k d ≡ get_or new k d = (settled.each k d after).same in
          let well : (get_or new k d).failed ≡ false = ap (λ (observer : ObserverView). observer.failed) (sym same) ∙ whole k d below in
          let within = (settled.each k d after).within well in
          subst (HasObserved set (i + 1) k) (sym same)
          (observed_next set i k slot replay passed (get_or old k d) (get_or mid k d) (get_or new k d) is.reached next here (is.observed k d before) (ready.each k d before) (all.each k d between) well within);
    }

-- all observers have taken the samples due at one more tick, at which the path isn't live
pub passed_next : (set : Setting) (i : ℕ) (replay passed : ReplayView) (observers : List ObserverView) → IsObserved set replay observers i → i < tick_count set.trace set.timing → slot_in set (i + 1) ≡ None → HasPassed replay passed → IsObserved set passed observers (i + 1)
passed_next set i replay passed observers is left none has = record {
  reached = reached_next set i replay passed is.reached left has;
  observed = λ k d below. record {
    placed = (is.observed k d below).placed;
    taken = taken_still set i k (get_or observers k d).watcher none (is.observed k d below).taken;
    counted = (is.observed k d below).counted;
  };
}

-- new observers have taken the samples due before the first tick, that is none
pub observed_first : (set : Setting) (replay : ReplayView) (observers : List ObserverView) → IsReached set replay 0 → ((k : ℕ) (d : ObserverView) → k < length observers → IsNew set k (slice_index_or observers k d)) → IsObserved set replay observers 0
observed_first set replay observers is new = record {
  reached = is;
  observed = λ k d below. record {
    placed = (new k d below).placed;
    taken = taken_none set k (get_or observers k d).watcher (new k d below).none;
    counted = λ stood. (new k d below).nothing ∙ sym (ap length (new k d below).none);
  };
}

-- ---- the board

-- before the first tick the board has shown the first state
first_shown : (trace : Trace) (timing : Timing) (k : ℕ) → k ≤ 0 → slice_get (first_state ∷ []) k ≡ Some (state_at trace timing k)
first_shown trace timing zero within = refl
first_shown trace timing (suc k) within = absurd (omega (arith, within))

pub shown_first : (trace : Trace) (timing : Timing) (states : List BoardState) → states ≡ first_state ∷ [] → AreShown trace timing 0 states
shown_first trace timing states is = subst (AreShown trace timing 0) (sym is) (record {
  many = refl;
  each = first_shown trace timing;
})

state_last : (states : List BoardState) (state : BoardState) → slice_get (states ++ state ∷ []) (length states) ≡ Some state
state_last [] state = refl
state_last (first ∷ states) state = state_last states state

state_before : (states : List BoardState) (state : BoardState) (k : ℕ) → k < length states → slice_get (states ++ state ∷ []) k ≡ slice_get states k
state_before [] state k below = absurd (omega (arith, below))
state_before (first ∷ states) state zero below = refl
state_before (first ∷ states) state (suc k) below = state_before states state k (omega (arith, below))

-- the board shows the state of the next tick after the earlier states
pub shown_next : (trace : Trace) (timing : Timing) (i tick events : ℕ) (old new : List BoardState) → AreShown trace timing i old → tick ≡ i + 1 → events ≡ signals_until trace timing (i + 1) → new ≡ old ++ record { tick = tick; events = events; kills = 0 } ∷ []
    → AreShown trace timing (i + 1) new
shown_next trace timing i tick events old new shown ticks signals is =
    let state : BoardState = record { tick = tick; events = events; kills = 0 } in
    let same : state ≡ state_at trace timing (i + 1) =
    ap (λ (n : ℕ). let s : BoardState = record { tick = n; events = events; kills = 0 } in s) ticks ∙ ap (λ (n : ℕ). let s : BoardState = record { tick = i + 1; events = n; kills = 0 } in s) signals in
    record {
      many = ap length is ∙ length-append old (state ∷ []) ∙ ap (λ (n : ℕ). n + 1) shown.many;
      each = λ k within. ap (λ (l : List BoardState). slice_get l k) is ∙ ⊎_elim
          (λ (before : k < i + 1). state_before old state k (let many = shown.many in omega (arith, before, many)) ∙ shown.each k (omega (arith, before)))
          (λ (last : k ≡ i + 1).
          ap (slice_get (old ++ state ∷ [])) (last ∙ sym shown.many) ∙ state_last old state ∙ ap (λ (s : BoardState). Some s) (same ∙ ap (state_at trace timing) (sym last)))
          (either_next k (i + 1) (omega (arith, within)));
    }
