-- Defines the pressure of groups over any list of ticks: the totals of a group after each tick, its
-- averages, and the signals of triggers.
use Rattle.std.specs.Prelude.{ℕ, ◌-◌, List, [], ◌∷◌, ◌++◌, length, map, filter, slice_get, slice_index_or, nat_le, nat_lt, ◌&&◌, Bool, if◌then◌else◌}
use Rattle.std.specs.List.{range_with_len}
pub use Rattle.psi_base.specs.States.{state_of}
use Rattle.psi_base.specs.declared.event.State.{State}
use Rattle.psi_base.specs.declared.event.TriggerSpec.{TriggerSpec}
use Rattle.psi_base.specs.Missing.{is_some_and}
use Rattle.psi_spec.specs.declared.machine.GroupLife.{GroupLife}
use Rattle.psi_spec.specs.World.{root}
use Rattle.psi_spec.specs.Groups.{is_live_at}
use Rattle.pressure_spec.specs.Ticks.{Tick, no_row}
use Rattle.pressure_spec.specs.Share.{at_state, no_totals, plus, shares, zip_with}
use Rattle.pressure_spec.specs.Average.{AverageState, averages_after}
use Rattle.pressure_spec.specs.Signal.{TriggerState, fires, new_trigger, trigger_after}

-- ---- the history of a group

-- The group in slot `slot`, or the root if there is no such slot.
abbrev pub life_of : List GroupLife → ℕ → GroupLife
life_of lives slot = slice_index_or lives slot root

-- The times (ns) of the group in slot `slot` on each processor at a tick.
abbrev pub row_at : Tick → ℕ → List (List ℕ)
row_at tick slot = slice_index_or tick.table slot []

-- The difference `now - before` for each time (ns) of a group on each processor.
abbrev pub growths : List (List ℕ) → List (List ℕ) → List (List ℕ)
growths before now = zip_with (zip_with (λ time earlier. time - earlier)) now before

-- `with_shares totals before now`: the totals (ns) after an interval, which are `totals` plus the
-- shares of the interval. `before` and `now` are the group's times on each processor at the start
-- and at the end of the interval.
abbrev pub with_shares : List ℕ → List (List ℕ) → List (List ℕ) → List ℕ
with_shares totals before now = plus totals (shares (growths before now))

-- `history_from life slot before totals ticks`: the history of a group over `ticks`. For each tick
-- at which the group is live, it has the tick's time and the group's totals (ns). The totals grow
-- by the shares of the interval since the previous tick. `before` and `totals` are the group's
-- times and its totals before the first tick.
abbrev pub history_from : GroupLife → ℕ → List (List ℕ) → List ℕ → List Tick → List (ℕ × List ℕ)
history_from life slot before totals [] = []
history_from life slot before totals (tick ∷ ticks) =
    if is_live_at life tick.at
    then (tick.at, with_shares totals before (row_at tick slot))
    ∷ history_from life slot (row_at tick slot) (with_shares totals before (row_at tick slot)) ticks
    else history_from life slot (row_at tick slot) totals ticks

-- The history of the group in slot `slot` over a list of ticks from the first tick, on `cpus`
-- processors.
abbrev pub history_of : ℕ → List GroupLife → List Tick → ℕ → List (ℕ × List ℕ)
history_of cpus lives ticks slot = history_from (life_of lives slot) slot (no_row cpus) no_totals ticks

-- ---- the totals and averages of a group

-- The totals (ns) at the end of a history, or `before` if the history is empty.
abbrev pub last_totals : List ℕ → List (ℕ × List ℕ) → List ℕ
last_totals before [] = before
last_totals before (tick ∷ history) = last_totals tick.1 history

-- The totals (ns) of the group in slot `slot` after a list of ticks.
unfoldable pub totals_after : ℕ → List GroupLife → List Tick → ℕ → List ℕ
totals_after cpus lives ticks slot = last_totals no_totals (history_of cpus lives ticks slot)

-- The averages of the group in slot `slot` after a list of ticks. They are 0 when the group is
-- created, and each tick of the group's history updates them.
unfoldable pub group_averages : ℕ → List GroupLife → List Tick → ℕ → AverageState
group_averages cpus lives ticks slot = averages_after (life_of lives slot).made (history_of cpus lives ticks slot)

-- ---- the signals of triggers

-- The state whose stall time a trigger watches, for example memory `some`.
abbrev pub watched_state : TriggerSpec → State
watched_state trigger = state_of trigger.res trigger.level

-- `first_value trigger history`: the initial total (ns) of a trigger. This is the total of its
-- watched state at the last tick strictly before the trigger was set, or 0 if the group has no
-- earlier tick.
abbrev pub first_value : TriggerSpec → List (ℕ × List ℕ) → ℕ
first_value trigger history =
    at_state (last_totals no_totals (filter (λ (at : ℕ × List ℕ). nat_lt at.0 trigger.at) history)) (watched_state trigger)

-- The ticks that a trigger evaluates: all ticks of its group's history at or after the time at
-- which it was set, each with the total (ns) of the watched state.
abbrev pub seen_by : TriggerSpec → List (ℕ × List ℕ) → List (ℕ × ℕ)
seen_by trigger history =
    map (λ (at : ℕ × List ℕ). (at.0, at_state at.1 (watched_state trigger))) (filter (λ (at : ℕ × List ℕ). nat_le trigger.at at.0) history)

-- The state of a trigger after all ticks of its group's history.
abbrev pub trigger_over : TriggerSpec → List (ℕ × List ℕ) → TriggerState
trigger_over trigger history =
    trigger_after (new_trigger trigger.at (first_value trigger history) trigger.threshold_us trigger.window_us) (seen_by trigger history)

-- `has_fired cpus lives ticks tick trigger`: whether the trigger fires at `tick` after the earlier
-- `ticks`. This is so if its group is live at the tick, the trigger was set at or before the tick,
-- and the total of the trigger's state meets its condition.
unfoldable pub has_fired : ℕ → List GroupLife → List Tick → Tick → TriggerSpec → Bool
has_fired cpus lives ticks tick trigger =
    is_live_at (life_of lives trigger.slot.0) tick.at && nat_le trigger.at tick.at
    && fires (trigger_over trigger (history_of cpus lives ticks trigger.slot.0)) tick.at
    (at_state (totals_after cpus lives (ticks ++ tick ∷ []) trigger.slot.0) (watched_state trigger))

-- Whether trigger number `i` (from 0) fires at `tick` after the earlier `ticks`.
abbrev pub fires_by_number : ℕ → List GroupLife → List TriggerSpec → List Tick → Tick → ℕ → Bool
fires_by_number cpus lives triggers ticks tick i = is_some_and (slice_get triggers i) (has_fired cpus lives ticks tick)

-- The numbers of the triggers that fire at `tick` after the earlier `ticks`, in ascending order.
unfoldable pub fired_at : ℕ → List GroupLife → List TriggerSpec → List Tick → Tick → List ℕ
fired_at cpus lives triggers ticks tick = filter (fires_by_number cpus lives triggers ticks tick) (range_with_len 0 (length triggers))
