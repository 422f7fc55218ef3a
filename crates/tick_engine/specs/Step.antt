-- Defines the effect of one tick on a group and on a trigger.
use Rattle.std.specs.Prelude.{◌≡◌, ℕ, ◌≤◌, ◌<◌, List, length, slice_index, slice_index_or, nat_le, not, ◌&&◌, Bool, false, if◌then◌else◌, Option, None, Some, filter}
use Rattle.std.specs.List.{range_with_len}
use Rattle.psi_base.specs.declared.event.Level.TheVariants.{SomeStalled}
use Rattle.psi_base.specs.declared.event.Res.TheVariants.{Io}
use Rattle.psi_base.specs.declared.event.TriggerSpec.{TriggerSpec}
use Rattle.psi_spec.specs.declared.machine.GroupLife.{GroupLife}
use Rattle.psi_spec.specs.Groups.{is_gone_by}
use Rattle.pressure_spec.specs.Ticks.{Tick}
use Rattle.pressure_spec.specs.Share.{at_state, irq_place, irq_quantity, no_totals, plus, shares}
use Rattle.pressure_spec.specs.Within.{AreAmountsWithin, time_sum}
use Rattle.pressure_spec.specs.Average.{average_step, new_averages}
use Rattle.pressure_spec.specs.Signal.{TriggerState, fires, new_trigger, trigger_step}
use Rattle.pressure_spec.specs.Samples.{growths, row_at, watched_state}
use Rattle.tick_engine.specs.declared.group.Group.{Group}
use Rattle.tick_engine.specs.declared.watch.TriggerWatch.{TriggerWatch}

-- ---- one tick of a group

-- The state of a group before its first sample, with all totals and averages 0. `life` has the
-- times of its creation and removal.
abbrev pub unsampled_group : GroupLife → Group
unsampled_group life = record { made = life.made; gone = life.gone; totals = no_totals; averages = new_averages life.made }

-- A placeholder group. `engine_group` returns it for a slot past the end of the list.
abbrev pub no_group : Group
no_group = record { made = 0; gone = None; totals = no_totals; averages = new_averages 0 }

-- `engine_group groups slot`: the state of the group in slot `slot`, from the engine's list of
-- groups.
abbrev pub engine_group : List Group → ℕ → Group
engine_group groups slot = slice_index_or groups slot no_group

-- `is_live_group group at`: whether the group exists at time `at` (ns).
abbrev pub is_live_group : Group → ℕ → Bool
is_live_group group at = nat_le group.made at && not (is_gone_by group.gone at)

-- `sampled group now added`: the group after a sample at time `now` (ns). The times `added` (ns)
-- are added to its totals, and its averages are updated.
abbrev pub sampled : Group → ℕ → List ℕ → Group
sampled group now added =
    record {
      made = group.made;
      gone = group.gone;
      totals = plus group.totals added;
      averages = average_step group.averages now (plus group.totals added);
    }

-- `group_step last tick slot group`: the group in slot `slot` after the tick `tick`, which follows
-- the tick `last`. The group is sampled only if it is live at `tick`.
abbrev pub group_step : Tick → Tick → ℕ → Group → Group
group_step last tick slot group =
    if is_live_group group tick.at then sampled group tick.at (shares (growths (row_at last slot) (row_at tick slot))) else group

-- `AreTotalsWithin tick slot group`: the totals (ns) of the group in slot `slot` are within their
-- bounds at the tick `tick`. The total of a state is at most the time of the tick. The total of
-- interrupt time is at most the sum of the interrupt times on all processors.
abbrev pub AreTotalsWithin : Tick → ℕ → Group → Type 0
AreTotalsWithin tick slot group = AreAmountsWithin tick.at (time_sum (row_at tick slot) irq_place) group.totals

-- `AreGroupsWithin tick groups`: the totals of every group are within their bounds
-- (`AreTotalsWithin`) at the tick `tick`.
abbrev pub AreGroupsWithin : Tick → List Group → Type 0
AreGroupsWithin tick groups = (slot : ℕ) → slot < length groups → AreTotalsWithin tick slot (engine_group groups slot)

-- `AreStatesWithin most group`: for each state, the group's total is at most `most` (ns).
abbrev pub AreStatesWithin : ℕ → Group → Type 0
AreStatesWithin most group = (quantity : ℕ) → quantity < irq_quantity → slice_index group.totals quantity ≤ most

-- `AreStepped last tick old new`: every group in `new` is the group in the same slot of `old`,
-- after the tick `tick`, which follows the tick `last`.
abbrev pub AreStepped : Tick → Tick → List Group → List Group → Type 0
AreStepped last tick old new = (slot : ℕ) → slot < length old → engine_group new slot ≡ group_step last tick slot (engine_group old slot)

-- ---- one tick of a trigger

-- The state of a trigger that isn't active yet.
abbrev pub new_watch : TriggerSpec → TriggerWatch
new_watch spec = record { spec = spec; trigger = None }

-- `watched_total groups spec`: the total (ns) on whose growth the trigger `spec` fires.
abbrev pub watched_total : List Group → TriggerSpec → ℕ
watched_total groups spec = at_state (engine_group groups spec.slot.0).totals (watched_state spec)

-- `begun_trigger groups now spec trigger`: activates a trigger at the tick at time `now` (ns). A
-- trigger becomes active at the first tick at or after the time of the line that sets it, and
-- starts from its total at the previous tick. An active trigger doesn't change.
abbrev pub begun_trigger : List Group → ℕ → TriggerSpec → Option TriggerState → Option TriggerState
begun_trigger groups now spec (Some trigger) = Some trigger
begun_trigger groups now spec None =
    if nat_le spec.at now then Some (new_trigger spec.at (watched_total groups spec) spec.threshold_us spec.window_us) else None

-- `stepped trigger now total`: the state of a trigger after the tick at time `now` (ns), at which
-- its total is `total` (ns). A trigger that isn't active (`None`) doesn't change.
abbrev pub stepped : Option TriggerState → ℕ → ℕ → Option TriggerState
stepped None now total = None
stepped (Some trigger) now total = Some (trigger_step trigger now total)

-- `begun_signals trigger now total`: whether the trigger is active and fires at the tick at time
-- `now` (ns), at which its total is `total` (ns).
abbrev pub begun_signals : Option TriggerState → ℕ → ℕ → Bool
begun_signals None now total = false
begun_signals (Some trigger) now total = fires trigger now total

-- `watch_begun groups now watch`: the trigger at the tick at time `now` (ns), after it was
-- activated if it is due (`begun_trigger`).
abbrev pub watch_begun : List Group → ℕ → TriggerWatch → TriggerWatch
watch_begun groups now watch = record { spec = watch.spec; trigger = begun_trigger groups now watch.spec watch.trigger }

-- `is_watching groups now watch`: whether the trigger's group is live at time `now` (ns).
abbrev pub is_watching : List Group → ℕ → TriggerWatch → Bool
is_watching groups now watch = is_live_group (engine_group groups watch.spec.slot.0) now

-- `watch_stepped groups now watch`: the trigger after the tick at time `now` (ns). The trigger is
-- updated only if its group is live.
abbrev pub watch_stepped : List Group → ℕ → TriggerWatch → TriggerWatch
watch_stepped groups now watch =
    record {
      spec = watch.spec;
      trigger = if is_watching groups now watch
          then stepped watch.trigger now (watched_total groups watch.spec) else watch.trigger;
    }

-- `watch_signals groups now watch`: whether the trigger fires at the tick at time `now` (ns). Its
-- group must be live, the trigger must be active, and `fires` must hold for its state and its
-- total.
abbrev pub watch_signals : List Group → ℕ → TriggerWatch → Bool
watch_signals groups now watch = is_watching groups now watch && begun_signals watch.trigger now (watched_total groups watch.spec)

-- A placeholder trigger. `watch_in` returns it for an index past the end of the list.
abbrev pub no_watch : TriggerWatch
no_watch = record {
  spec = record { at = 0; slot = record { 0 = 0 }; res = Io; level = SomeStalled; threshold_us = 0; window_us = 0 };
  trigger = None;
}

-- `watch_in watches i`: the state of the trigger at index `i`.
abbrev pub watch_in : List TriggerWatch → ℕ → TriggerWatch
watch_in watches i = slice_index_or watches i no_watch

-- `fired_among groups now watches count`: the indexes below `count` of the triggers that fire at
-- the tick at time `now` (ns), in ascending order.
abbrev pub fired_among : List Group → ℕ → List TriggerWatch → ℕ → List ℕ
fired_among groups now watches count = filter (λ i. watch_signals groups now (watch_in watches i)) (range_with_len 0 count)
