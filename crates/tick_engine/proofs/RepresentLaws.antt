-- Proves that an engine's state is correct after one more tick. An engine represents a list of
-- ticks if taking these ticks leads to its state.
use Rattle.std.proofs.Common.{◌≡◌, ℕ, zero, suc, ◌≤◌, ◌<◌, List, [], ◌∷◌, ◌++◌, length, get_or, refl, sym, ap, subst, ◌∙◌, arith, true, false}
use Rattle.std.specs.Prelude.{All, Bool, Option, None, Some, map, nat_le, ◌&&◌, ◌||◌, if◌then◌else◌, slice_get}
use Rattle.std.specs.List.{range_with_len}
use Rattle.std.proofs.lemmas.List.{length-append, length-map, get_or-map, same_from_push}
use Rattle.std.proofs.lemmas.List.Folds.{Any-from_list_any, list_any-append, list_any_at}
use Rattle.std.proofs.lemmas.List.Elements.{All-cons, All-map, All-nil, filter_agree}
use Rattle.std.proofs.lemmas.Bool.{false≢true}
use Rattle.psi_base.specs.declared.event.TriggerSpec.{TriggerSpec}
use Rattle.psi_base.specs.Missing.{is_some_and}
use Rattle.psi_spec.specs.declared.machine.GroupLife.{GroupLife}
use Rattle.psi_spec.specs.Groups.{is_live_at}
use Rattle.pressure_spec.specs.Ticks.{Tick, no_row}
use Rattle.pressure_spec.specs.NextTick.{AreNextTicks, IsNextTick, last_tick, no_tick}
use Rattle.pressure_spec.specs.Share.{at_state, no_totals, plus, shares}
use Rattle.pressure_spec.specs.Samples.{last_totals, fired_at, growths, has_fired, history_of, life_of, row_at, totals_after, trigger_over, watched_state}
use Rattle.pressure_spec.specs.Signal.{TriggerState, fires, new_trigger, trigger_step}
use Rattle.pressure_spec.proofs.SampleLaws as samples
use Rattle.tick_engine.specs.declared.group.Group.{Group}
use Rattle.tick_engine.specs.declared.watch.TriggerWatch.{TriggerWatch}
use Rattle.tick_engine.specs.Step.{AreGroupsWithin, AreStepped, begun_signals, begun_trigger, engine_group, fired_among, group_step, is_live_group, no_watch, sampled, stepped, watch_begun, watch_in, watch_signals, watch_stepped, watched_total}
use Rattle.aggregate.specs.Table.{HasSizes}
use Rattle.psi_spec.specs.Within.{IsTriggerWithin}
use Rattle.psi_spec.specs.Within.{last_moment}
use Rattle.tick_engine.specs.Engine.{AreWatchesWithin, EngineView, IsEngine, Represents, group_after, has_begun, watch_after}

-- ---- groups

-- Stepping the state of a group after `ticks` gives its state after one more tick.
pub group_next : (cpus : ℕ) (lives : List GroupLife) (ticks : List Tick) (tick : Tick) (slot : ℕ) → slot < length lives →
    group_step (last_tick (no_tick cpus (length lives)) ticks) tick slot (group_after cpus lives ticks slot) ≡ group_after cpus lives (ticks ++ tick ∷ []) slot
group_next cpus lives ticks tick slot below =
    let life = life_of lives slot in
    let last = last_tick (no_tick cpus (length lives)) ticks in
    let row : samples.last_row slot (no_row cpus) ticks ≡ row_at last slot = samples.last_row_at cpus (length lives) slot ticks below in
    let group = group_after cpus lives ticks slot in
    let added = shares (growths (row_at last slot) (row_at tick slot)) in
    let live : is_live_at life tick.at ≡ true → sampled group tick.at added ≡ group_after cpus lives (ticks ++ tick ∷ []) slot = λ live.
    let totals : totals_after cpus lives (ticks ++ tick ∷ []) slot ≡ plus (totals_after cpus lives ticks slot) added =
    samples.totals_live cpus lives ticks tick slot live ∙ ap (λ row. plus (totals_after cpus lives ticks slot) (shares (growths row (row_at tick slot)))) row in
    rw (samples.averages_live cpus lives ticks tick slot live, totals) refl in
    let gone : is_live_at life tick.at ≡ false → group ≡ group_after cpus lives (ticks ++ tick ∷ []) slot = λ gone.
    rw (samples.averages_gone cpus lives ticks tick slot gone, samples.totals_gone cpus lives ticks tick slot gone) refl in
    elim (is_live_at life tick.at) as (λ test. is_live_at life tick.at ≡ test → (if test then sampled group tick.at added else group) ≡ group_after cpus lives (ticks ++ tick ∷ []) slot) [ true ↦ live | false ↦ gone ] refl

-- ---- triggers

-- An active trigger is stepped at one more tick if its group is live.
pub trigger_next_live : (cpus : ℕ) (lives : List GroupLife) (ticks : List Tick) (tick : Tick) (spec : TriggerSpec) → spec.at ≤ tick.at → is_live_at (life_of lives spec.slot.0) tick.at ≡ true →
    trigger_step (trigger_over spec (history_of cpus lives ticks spec.slot.0)) tick.at (at_state (totals_after cpus lives (ticks ++ tick ∷ []) spec.slot.0) (watched_state spec)) ≡ trigger_over spec (history_of cpus lives (ticks ++ tick ∷ []) spec.slot.0)
trigger_next_live cpus lives ticks tick spec there live =
    let entry = samples.entry_at cpus lives ticks tick spec.slot.0 in
    let late : samples.NotBefore spec.at (entry ∷ []) = All-cons (λ (entry : ℕ × List ℕ). spec.at ≤ entry.0) entry [] there (All-nil _) in
    sym (ap (trigger_over spec) (samples.history_live cpus lives ticks tick spec.slot.0 live) ∙ samples.trigger_over-append spec (history_of cpus lives ticks spec.slot.0) (entry ∷ []) late)

-- The line of an active trigger isn't later than the last tick.
begun_by : (spec : TriggerSpec) (before : Tick) (ticks : List Tick) → AreNextTicks before ticks → has_begun ticks spec ≡ true → spec.at ≤ (last_tick before ticks).at
begun_by spec before ticks ordered begun_trigger =
    let any = Any-from_list_any (λ (tick : Tick). nat_le spec.at tick.at) ticks begun_trigger in
    let there : spec.at ≤ any.1.at = grind (arith, any.4) in
    let late = samples.none_is_later before ticks ordered any.0 any.1 any.2 in
    omega (arith, there, late, ap (λ (tick : Tick). tick.at) any.3)

-- If a trigger isn't active, all ticks are before its line in the trace.
unbegun_before : (spec : TriggerSpec) (ticks : List Tick) → has_begun ticks spec ≡ false → All (λ (tick : Tick). tick.at < spec.at) ticks
unbegun_before spec ticks none = λ k d below.
    let at = (get_or ticks k d).at in
    let begun_trigger : nat_le spec.at at ≡ true → at < spec.at = λ there. absurd (false≢true (sym none ∙ list_any_at (λ (tick : Tick). nat_le spec.at tick.at) ticks k d below there)) in
    let early : nat_le spec.at at ≡ false → at < spec.at = λ ahead. grind (arith, ahead) in
    elim (nat_le spec.at at) as (λ test. nat_le spec.at at ≡ test → at < spec.at) [ true ↦ begun_trigger | false ↦ early ] refl

-- The state of the trigger, or `None` if the trigger isn't active.
abbrev pub trigger_if : Bool → TriggerState → Option TriggerState
trigger_if there trigger = if there then Some trigger else None

-- If a trigger is active or becomes active at a tick, its state is the specified state after the
-- earlier ticks.
begun_is : (cpus : ℕ) (lives : List GroupLife) (ticks : List Tick) (tick : Tick) (spec : TriggerSpec) (groups : List Group) →
    AreNextTicks (no_tick cpus (length lives)) ticks → (last_tick (no_tick cpus (length lives)) ticks).at < tick.at →
    engine_group groups spec.slot.0 ≡ group_after cpus lives ticks spec.slot.0 →
    begun_trigger groups tick.at spec (watch_after cpus lives ticks spec).trigger ≡ trigger_if (nat_le spec.at tick.at) (trigger_over spec (history_of cpus lives ticks spec.slot.0))
begun_is cpus lives ticks tick spec groups ordered later group =
    let history = history_of cpus lives ticks spec.slot.0 in
    let trigger = trigger_over spec history in
    let there : has_begun ticks spec ≡ true → begun_trigger groups tick.at spec (Some trigger) ≡ trigger_if (nat_le spec.at tick.at) trigger = λ is.
    let by = begun_by spec (no_tick cpus (length lives)) ticks ordered is in
    rw (samples.is_there spec.at tick.at (omega (arith, by, later))) refl in
    let new : has_begun ticks spec ≡ false → begun_trigger groups tick.at spec None ≡ trigger_if (nat_le spec.at tick.at) trigger = λ none.
    let early = samples.history_before cpus lives ticks spec.slot.0 spec.at (unbegun_before spec ticks none) in
    let value : watched_total groups spec ≡ at_state (last_totals no_totals history) (watched_state spec) =
    ap (λ (group : Group). at_state group.totals (watched_state spec)) group ∙ ap (λ totals. at_state totals (watched_state spec)) (sym (samples.history_last cpus lives ticks spec.slot.0)) in
    let first : new_trigger spec.at (watched_total groups spec) spec.threshold_us spec.window_us ≡ trigger =
    ap (λ value. new_trigger spec.at value spec.threshold_us spec.window_us) value ∙ sym (samples.trigger_over_first spec history early) in
    ap (trigger_if (nat_le spec.at tick.at)) first in
    elim (has_begun ticks spec) as (λ test. has_begun ticks spec ≡ test → begun_trigger groups tick.at spec (if test then Some trigger else None) ≡ trigger_if (nat_le spec.at tick.at) trigger) [ true ↦ there | false ↦ new ] refl

-- After one more tick, a trigger is active if and only if its line isn't later than the tick.
begun_next : (spec : TriggerSpec) (before : Tick) (ticks : List Tick) (tick : Tick) → AreNextTicks before ticks → (last_tick before ticks).at < tick.at → has_begun (ticks ++ tick ∷ []) spec ≡ nat_le spec.at tick.at
begun_next spec before ticks tick ordered later =
    let test = λ (tick : Tick). nat_le spec.at tick.at in
    let split : has_begun (ticks ++ tick ∷ []) spec ≡ (has_begun ticks spec || has_begun (tick ∷ []) spec) = list_any-append test ticks (tick ∷ []) in
    let there : has_begun ticks spec ≡ true → (has_begun ticks spec || has_begun (tick ∷ []) spec) ≡ nat_le spec.at tick.at = λ is.
    let by = begun_by spec before ticks ordered is in
    rw (is, samples.is_there spec.at tick.at (omega (arith, by, later))) refl in
    let not_yet : has_begun ticks spec ≡ false → (has_begun ticks spec || has_begun (tick ∷ []) spec) ≡ nat_le spec.at tick.at = λ none. rw none (grind arith) in
    split ∙ elim (has_begun ticks spec) as (λ is. has_begun ticks spec ≡ is → (has_begun ticks spec || has_begun (tick ∷ []) spec) ≡ nat_le spec.at tick.at) [ true ↦ there | false ↦ not_yet ] refl

-- The conditions under which the state of a trigger can be stepped at the next tick.
pub record CanWatch (cpus : ℕ) (lives : List GroupLife) (ticks : List Tick) (tick : Tick) (old new : List Group) (spec : TriggerSpec) : Type 0 where
  pub ordered : AreNextTicks (no_tick cpus (length lives)) ticks
  pub later : (last_tick (no_tick cpus (length lives)) ticks).at < tick.at
  pub group_before : engine_group old spec.slot.0 ≡ group_after cpus lives ticks spec.slot.0
  pub group_now : engine_group new spec.slot.0 ≡ group_after cpus lives (ticks ++ tick ∷ []) spec.slot.0

-- Stepping the state of a trigger after `ticks` gives its state after one more tick.
trigger_next : (cpus : ℕ) (lives : List GroupLife) (ticks : List Tick) (tick : Tick) (spec : TriggerSpec) → spec.at ≤ tick.at →
    (if is_live_at (life_of lives spec.slot.0) tick.at
    then trigger_step (trigger_over spec (history_of cpus lives ticks spec.slot.0)) tick.at (at_state (totals_after cpus lives (ticks ++ tick ∷ []) spec.slot.0) (watched_state spec))
    else trigger_over spec (history_of cpus lives ticks spec.slot.0)) ≡ trigger_over spec (history_of cpus lives (ticks ++ tick ∷ []) spec.slot.0)
trigger_next cpus lives ticks tick spec there =
    let live = is_live_at (life_of lives spec.slot.0) tick.at in
    let old = trigger_over spec (history_of cpus lives ticks spec.slot.0) in
    let step = trigger_step old tick.at (at_state (totals_after cpus lives (ticks ++ tick ∷ []) spec.slot.0) (watched_state spec)) in
    let new = trigger_over spec (history_of cpus lives (ticks ++ tick ∷ []) spec.slot.0) in
    let stays : live ≡ false → old ≡ new = λ gone. ap (trigger_over spec) (sym (samples.history_gone cpus lives ticks tick spec.slot.0 gone)) in
    elim live as (λ test. live ≡ test → (if test then step else old) ≡ new) [ true ↦ trigger_next_live cpus lives ticks tick spec there | false ↦ stays ] refl

if_some : {A : Type 0} (test : Bool) (a b c : A) → (if test then a else b) ≡ c → (if test then Some a else Some b) ≡ Some c
if_some true a b c is = ap Some is
if_some false a b c is = ap Some is

if_same : {A : Type 0} (test : Bool) (a : A) → (if test then a else a) ≡ a
if_same true a = refl
if_same false a = refl

-- An active trigger is stepped if its group is live, and an inactive trigger stays inactive.
stepped_if : (live there : Bool) (trigger after : TriggerState) (now total : ℕ) → (there ≡ true → (if live then trigger_step trigger now total else trigger) ≡ after) →
    (if live then stepped (trigger_if there trigger) now total else trigger_if there trigger) ≡ trigger_if there after
stepped_if live true trigger after now total is = if_some live (trigger_step trigger now total) trigger after (is refl)
stepped_if live false trigger after now total is = if_same live None

-- Stepping a trigger watch (a trigger and its state) after `ticks` gives the watch after one more
-- tick.
pub watch_next : (cpus : ℕ) (lives : List GroupLife) (ticks : List Tick) (tick : Tick) (old new : List Group) (spec : TriggerSpec) → CanWatch cpus lives ticks tick old new spec →
    watch_stepped new tick.at (watch_begun old tick.at (watch_after cpus lives ticks spec)) ≡ watch_after cpus lives (ticks ++ tick ∷ []) spec
watch_next cpus lives ticks tick old new spec can =
    let slot = spec.slot.0 in
    let there = nat_le spec.at tick.at in
    let trigger = trigger_over spec (history_of cpus lives ticks slot) in
    let later = trigger_over spec (history_of cpus lives (ticks ++ tick ∷ []) slot) in
    let state : Group → Option TriggerState → Option TriggerState = λ group trigger. if is_live_group group tick.at then stepped trigger tick.at (at_state group.totals (watched_state spec)) else trigger in
    let watch : Option TriggerState → TriggerWatch = λ trigger. record { spec = spec; trigger = trigger } in
    let first = begun_is cpus lives ticks tick spec old can.ordered can.later can.group_before in
    let begun_now = begun_next spec (no_tick cpus (length lives)) ticks tick can.ordered can.later in
    let total = at_state (totals_after cpus lives (ticks ++ tick ∷ []) slot) (watched_state spec) in
    let step = stepped_if (is_live_at (life_of lives slot) tick.at) there trigger later tick.at total (λ is. trigger_next cpus lives ticks tick spec (samples.from_there spec.at tick.at is)) in
    ap (λ group. watch (state group (begun_trigger old tick.at spec (watch_after cpus lives ticks spec).trigger))) can.group_now
    ∙ ap (λ trigger. watch (state (group_after cpus lives (ticks ++ tick ∷ []) slot) trigger)) first
    ∙ ap watch step
    ∙ ap (λ begun_trigger. watch (trigger_if begun_trigger later)) (sym begun_now)

signals_if : (live there : Bool) (trigger : TriggerState) (now total : ℕ) → (live && begun_signals (trigger_if there trigger) now total) ≡ (live && there && fires trigger now total)
signals_if true true trigger now total = refl
signals_if true false trigger now total = refl
signals_if false true trigger now total = refl
signals_if false false trigger now total = refl

-- A trigger watch signals at one more tick if and only if its trigger fires.
pub signals_next : (cpus : ℕ) (lives : List GroupLife) (ticks : List Tick) (tick : Tick) (old new : List Group) (spec : TriggerSpec) → CanWatch cpus lives ticks tick old new spec →
    watch_signals new tick.at (watch_begun old tick.at (watch_after cpus lives ticks spec)) ≡ has_fired cpus lives ticks tick spec
unfolding has_fired
signals_next cpus lives ticks tick old new spec can =
    let slot = spec.slot.0 in
    let trigger = trigger_over spec (history_of cpus lives ticks slot) in
    let test : Group → Option TriggerState → Bool = λ group trigger. is_live_group group tick.at && begun_signals trigger tick.at (at_state group.totals (watched_state spec)) in
    let first = begun_is cpus lives ticks tick spec old can.ordered can.later can.group_before in
    let total = at_state (totals_after cpus lives (ticks ++ tick ∷ []) slot) (watched_state spec) in
    ap (λ group. test group (begun_trigger old tick.at spec (watch_after cpus lives ticks spec).trigger)) can.group_now
    ∙ ap (test (group_after cpus lives (ticks ++ tick ∷ []) slot)) first
    ∙ signals_if (is_live_at (life_of lives slot) tick.at) (nat_le spec.at tick.at) trigger tick.at total

-- ---- all triggers

-- Two functions that agree on each element of a list map the list to the same list.
map_agree : {A B : Type 0} (f g : A → B) → (xs : List A) → All (λ x. f x ≡ g x) xs → map f xs ≡ map g xs
map_agree f g [] all = refl
map_agree f g (x ∷ xs) all =
    let here = all 0 x (omega arith) in
    let rest = map_agree f g xs (λ k d below. all (suc k) d (omega arith)) in
    cc (here, rest)

map_map : {A B C : Type 0} (f : B → C) (g : A → B) → (xs : List A) → map f (map g xs) ≡ map (λ x. f (g x)) xs
map_map f g [] = refl
map_map f g (x ∷ xs) = ap (λ rest. f (g x) ∷ rest) (map_map f g xs)

-- A dummy trigger never signals.
signals_not : (groups : List Group) (now : ℕ) → watch_signals groups now no_watch ≡ false
signals_not groups now = grind arith

-- If `test` says for each trigger whether it signals, then `test` says for each index whether the
-- trigger at that index signals.
signals_by_number : (groups : List Group) (now : ℕ) (watch : TriggerSpec → TriggerWatch) (test : TriggerSpec → Bool) (triggers : List TriggerSpec) → All (λ spec. watch_signals groups now (watch spec) ≡ test spec) triggers →
    (i : ℕ) → watch_signals groups now (watch_in (map watch triggers) i) ≡ is_some_and (slice_get triggers i) test
signals_by_number groups now watch test [] all i = signals_not groups now
signals_by_number groups now watch test (spec ∷ triggers) all zero = all 0 spec (omega arith)
signals_by_number groups now watch test (spec ∷ triggers) all (suc i) = signals_by_number groups now watch test triggers (λ k d below. all (suc k) d (omega arith)) i

-- The triggers that signal at one more tick are the triggers that fire by the specification.
pub fired_next : (cpus : ℕ) (lives : List GroupLife) (triggers : List TriggerSpec) (ticks : List Tick) (tick : Tick) (old new : List Group) → All (λ spec. CanWatch cpus lives ticks tick old new spec) triggers →
    fired_among new tick.at (map (watch_begun old tick.at) (map (watch_after cpus lives ticks) triggers)) (length triggers) ≡ fired_at cpus lives triggers ticks tick
unfolding fired_at
fired_next cpus lives triggers ticks tick old new can =
    let watch : TriggerSpec → TriggerWatch = λ spec. watch_begun old tick.at (watch_after cpus lives ticks spec) in
    let begun_trigger = map_map (watch_begun old tick.at) (watch_after cpus lives ticks) triggers in
    ap (λ watches. fired_among new tick.at watches (length triggers)) begun_trigger
    ∙ filter_agree _ _ (signals_by_number new tick.at watch (has_fired cpus lives ticks tick) triggers (λ k d below. signals_next cpus lives ticks tick old new (get_or triggers k d) (can k d below))) (range_with_len 0 (length triggers))

pub watches_next : (cpus : ℕ) (lives : List GroupLife) (triggers : List TriggerSpec) (ticks : List Tick) (tick : Tick) (old new : List Group) → All (λ spec. CanWatch cpus lives ticks tick old new spec) triggers →
    map (watch_stepped new tick.at) (map (watch_begun old tick.at) (map (watch_after cpus lives ticks) triggers)) ≡ map (watch_after cpus lives (ticks ++ tick ∷ [])) triggers
watches_next cpus lives triggers ticks tick old new can =
    ap (map (watch_stepped new tick.at)) (map_map (watch_begun old tick.at) (watch_after cpus lives ticks) triggers)
    ∙ map_map (watch_stepped new tick.at) (λ spec. watch_begun old tick.at (watch_after cpus lives ticks spec)) triggers
    ∙ map_agree _ _ triggers (λ k d below. watch_next cpus lives ticks tick old new (get_or triggers k d) (can k d below))

-- ---- engines

-- The effect of a tick on an engine.
pub record IsTicked (tick : Tick) (old new : EngineView) : Type 0 where
  pub cpus : new.cpus ≡ old.cpus
  pub last : new.last ≡ tick
  pub slots : length new.groups ≡ length old.groups
  pub groups : AreStepped old.last tick old.groups new.groups
  pub watches : new.watches ≡ map (watch_stepped new.groups tick.at) (map (watch_begun old.groups tick.at) old.watches)
  pub fired : new.fired ≡ fired_among new.groups tick.at (map (watch_begun old.groups tick.at) old.watches) (length old.watches)

-- A tick doesn't change the number of triggers.
pub ticked_many : {tick : Tick} {old new : EngineView} → IsTicked tick old new → length new.watches ≡ length old.watches
ticked_many {tick} {old} {new} is =
    ap length is.watches ∙ length-map (map (watch_begun old.groups tick.at) old.watches) (watch_stepped new.groups tick.at) ∙ length-map old.watches (watch_begun old.groups tick.at)

-- The states of the groups are correct after one more tick.
groups_next : (old new : EngineView) (cpus : ℕ) (lives : List GroupLife) (triggers : List TriggerSpec) (ticks : List Tick) (tick : Tick) → IsTicked tick old new → Represents old cpus lives triggers ticks →
    (slot : ℕ) → slot < length lives → engine_group new.groups slot ≡ group_after cpus lives (ticks ++ tick ∷ []) slot
groups_next old new cpus lives triggers ticks tick is stands slot below =
    is.groups slot (omega (arith, below, stands.slots))
    ∙ ap (λ last. group_step last tick slot (engine_group old.groups slot)) stands.last
    ∙ ap (group_step (last_tick (no_tick cpus (length lives)) ticks) tick slot) (stands.groups slot below)
    ∙ group_next cpus lives ticks tick slot below

-- Each trigger of an engine whose state is correct can be stepped at the next tick.
can_watch : (old new : EngineView) (cpus : ℕ) (lives : List GroupLife) (triggers : List TriggerSpec) (ticks : List Tick) (tick : Tick) →
    IsEngine old → IsNextTick old.last tick → IsTicked tick old new → Represents old cpus lives triggers ticks → All (λ spec. CanWatch cpus lives ticks tick old.groups new.groups spec) triggers
can_watch old new cpus lives triggers ticks tick engine next is stands = λ k d below.
    let spec = get_or triggers k d in
    let many : length old.watches ≡ length triggers = ap length stands.watches ∙ length-map triggers (watch_after cpus lives ticks) in
    let watch : get_or old.watches k no_watch ≡ watch_after cpus lives ticks spec = ap (λ (watches : List TriggerWatch). get_or watches k no_watch) stands.watches ∙ get_or-map (watch_after cpus lives ticks) triggers k d no_watch below in
    let within : spec.slot.0 < length old.groups = omega (arith, (engine.watches k no_watch (omega (arith, many, below))).slot, ap (λ (watch : TriggerWatch). watch.spec.slot.0) watch) in
    let slot : spec.slot.0 < length lives = omega (arith, within, stands.slots) in
    record {
      ordered = stands.ordered;
      later = omega (arith, next.later, ap (λ (tick : Tick). tick.at) stands.last);
      group_before = stands.groups spec.slot.0 slot;
      group_now = groups_next old new cpus lives triggers ticks tick is stands spec.slot.0 slot;
    }

-- The state of an engine is correct after one more tick.
pub is_next_in : (old new : EngineView) (cpus : ℕ) (lives : List GroupLife) (triggers : List TriggerSpec) (ticks : List Tick) (tick : Tick) →
    IsEngine old → IsNextTick old.last tick → IsTicked tick old new → Represents old cpus lives triggers ticks → Represents new cpus lives triggers (ticks ++ tick ∷ [])
is_next_in old new cpus lives triggers ticks tick engine next is stands =
    let before = no_tick cpus (length lives) in
    let can = can_watch old new cpus lives triggers ticks tick engine next is stands in
    let many : length old.watches ≡ length triggers = ap length stands.watches ∙ length-map triggers (watch_after cpus lives ticks) in
    let begun_trigger : map (watch_begun old.groups tick.at) old.watches ≡ map (watch_begun old.groups tick.at) (map (watch_after cpus lives ticks) triggers) = ap (map (watch_begun old.groups tick.at)) stands.watches in
    let fired : new.fired ≡ fired_at cpus lives triggers ticks tick =
    is.fired ∙ ap (λ watches. fired_among new.groups tick.at watches (length old.watches)) begun_trigger
    ∙ ap (fired_among new.groups tick.at (map (watch_begun old.groups tick.at) (map (watch_after cpus lives ticks) triggers))) many
    ∙ fired_next cpus lives triggers ticks tick old.groups new.groups can in
    let next_tick : IsNextTick (last_tick before ticks) tick = let P : Tick → Type 0 = λ last. IsNextTick last tick in subst P stands.last next in
    record {
      ordered = samples.are_next_push before ticks tick stands.ordered next_tick;
      cpus_are = is.cpus ∙ stands.cpus_are;
      last = is.last ∙ sym (samples.last_tick-push before ticks tick);
      slots = is.slots ∙ stands.slots;
      groups = groups_next old new cpus lives triggers ticks tick is stands;
      watches = is.watches ∙ ap (map (watch_stepped new.groups tick.at)) begun_trigger ∙ watches_next cpus lives triggers ticks tick old.groups new.groups can;
      fired = λ prefix other same.
          let parts = same_from_push ticks prefix tick other same in
          fired ∙ ap (λ ticks. fired_at cpus lives triggers ticks tick) parts.0 ∙ ap (fired_at cpus lives triggers prefix) parts.1;
      unfired = λ none. absurd (omega (arith, ap length none, length-append ticks (tick ∷ [])));
    }

-- Triggers stay in range when they become active.
pub begun_within : (groups : List Group) (now slots : ℕ) (watches : List TriggerWatch) → AreWatchesWithin slots watches → AreWatchesWithin slots (map (watch_begun groups now) watches)
begun_within groups now slots watches all = All-map (λ (watch : TriggerWatch). IsTriggerWithin last_moment slots watch.spec) (watch_begun groups now) watches all

-- A tick preserves the invariant of an engine.
pub engine_kept : (old new : EngineView) (tick : Tick) → IsEngine old → IsNextTick old.last tick → HasSizes old.cpus (length old.groups) tick.table → IsTicked tick old new →
    AreGroupsWithin tick new.groups → IsEngine new
engine_kept old new tick engine next sizes is totals =
    let begun_trigger = map (watch_begun old.groups tick.at) old.watches in
    let many = ticked_many is in
    let Within : TriggerWatch → Type 0 = λ watch. IsTriggerWithin last_moment (length old.groups) watch.spec in
    let within : All Within (map (watch_stepped new.groups tick.at) begun_trigger) = All-map Within (watch_stepped new.groups tick.at) begun_trigger (begun_within old.groups tick.at (length old.groups) old.watches engine.watches) in
    record {
      few_cpus = omega (arith, is.cpus, engine.few_cpus);
      few_groups = omega (arith, is.slots, engine.few_groups);
      few_watches = omega (arith, many, engine.few_watches);
      sizes = rw (is.cpus, is.slots, is.last) sizes;
      early = omega (arith, next.early, ap (λ (tick : Tick). tick.at) is.last);
      totals = rw is.last totals;
      watches = rw (is.slots, is.watches) within;
    }
