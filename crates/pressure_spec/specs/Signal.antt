-- The state of a trigger, and the ticks at which the trigger fires, as in the kernel's
-- window_update and update_triggers. The state is updated at each tick.
use Rattle.std.specs.Prelude.{ℕ, ◌+◌, ◌-◌, ◌*◌, ◌/◌, List, fold, nat_le, nat_lt, ◌==◌, ◌&&◌, ◌||◌, Bool, true, false, if◌then◌else◌, Option, None, Some}

-- The state of a trigger. `threshold` and `size` are its threshold and the length of its window
-- (ns). `start` is the time (ns) at which the current window began, and `start_value` the total
-- (ns) at that time. `last_value` is the total at the last tick, and `previous` the growth in the
-- previous window. `pending` is whether an event is pending. `last_event` is the time (ns) of the
-- last signal, if any.
pub record TriggerState : Type 0 where
  pub threshold : ℕ
  pub size : ℕ
  pub start : ℕ
  pub start_value : ℕ
  pub last_value : ℕ
  pub previous : ℕ
  pub pending : Bool
  pub last_event : Option ℕ

-- `new_trigger at value threshold_us window_us`: the initial state of a trigger that is set at the
-- time `at` (ns) when the total is `value` (ns). Its threshold and window are in us.
abbrev pub new_trigger : ℕ → ℕ → ℕ → ℕ → TriggerState
new_trigger at value threshold_us window_us = record {
  threshold = threshold_us * 1000;
  size = window_us * 1000;
  start = at;
  start_value = value;
  last_value = value;
  previous = 0;
  pending = false;
  last_event = None;
}

-- Whether the current window has expired at time `now` (ns).
abbrev pub is_over : TriggerState → ℕ → Bool
is_over old now = nat_lt old.size (now - old.start)

-- `growth old now value`: the growth (ns) of the total in the sliding window at the time `now`
-- (ns), when the total is `value` (ns). Until the current window expires, the growth in the
-- previous window counts in proportion to the remaining time of the current window.
abbrev pub growth : TriggerState → ℕ → ℕ → ℕ
growth old now value =
    (value - old.start_value) + (if is_over old now then 0 else old.previous * (old.size - (now - old.start)) / old.size)

-- `grown old now value`: the state of a trigger after the total changed to `value` (ns) at the time
-- `now` (ns). An expired window restarts. Growth of at least the threshold makes an event pending.
abbrev pub grown : TriggerState → ℕ → ℕ → TriggerState
grown old now value = record {
  threshold = old.threshold;
  size = old.size;
  start = if is_over old now then now else old.start;
  start_value = if is_over old now then value else old.start_value;
  last_value = value;
  previous = if is_over old now then value - old.start_value else old.previous;
  pending = old.pending || nat_le old.threshold (growth old now value);
  last_event = old.last_event;
}

-- The state of a trigger after the total `value` (ns) was sampled at time `now` (ns). If the total
-- is unchanged, the state is unchanged too.
abbrev pub seen : TriggerState → ℕ → ℕ → TriggerState
seen old now value = if value == old.last_value then old else grown old now value

-- `is_free last size now`: whether a trigger may signal at the time `now` (ns). This is so if at
-- least a window of `size` ns has passed since its last signal at `last`, or if it hasn't signalled
-- yet.
abbrev pub is_free : Option ℕ → ℕ → ℕ → Bool
is_free None size now = true
is_free (Some last) size now = nat_le (last + size) now

-- Whether the trigger signals a pending event at time `now` (ns).
abbrev pub signals : TriggerState → ℕ → Bool
signals trigger now = trigger.pending && is_free trigger.last_event trigger.size now

-- The state of a trigger after it signalled its pending event at time `now` (ns). The state is
-- unchanged if the trigger can't signal.
abbrev pub settled : TriggerState → ℕ → TriggerState
settled trigger now = if signals trigger now then record trigger { pending = false; last_event = Some now } else trigger

-- The state of a trigger after a tick at time `now` (ns) with the total `value` (ns).
unfoldable pub trigger_step : TriggerState → ℕ → ℕ → TriggerState
trigger_step old now value = settled (seen old now value) now

-- Whether the trigger fires at a tick at time `now` (ns) with the total `value` (ns).
unfoldable pub fires : TriggerState → ℕ → ℕ → Bool
fires old now value = signals (seen old now value) now

-- `trigger_after trigger ticks`: the state of a trigger after `ticks`. Each tick is a pair of its
-- time (ns) and the total (ns) at that time.
abbrev pub trigger_after : TriggerState → List (ℕ × ℕ) → TriggerState
trigger_after trigger ticks = fold (λ state tick. trigger_step state tick.0 tick.1) trigger ticks
