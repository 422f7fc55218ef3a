-- Upper bounds for every trace: the length of a tick, the latest time, and the number and values of
-- its triggers.
use Rattle.std.specs.Prelude.{◌≡◌, ℕ, ◌<◌, ◌≤◌, List, [], ◌∷◌, length, Option, None, Some, true}
use Rattle.std.specs.List.{All}
use Rattle.psi_base.specs.declared.event.TriggerSpec.{TriggerSpec}
use Rattle.psi_spec.specs.Refusal.{is_window}

-- An optional value as a list of at most one element.
abbrev pub listed : {A : Type 0} → Option A → List A
listed None = []
listed (Some x) = x ∷ []

-- The trigger is valid: it is set at or before time `latest` (ns), its slot is below `slots`, and
-- its threshold and window (us) are in range.
pub record IsTriggerWithin (latest slots : ℕ) (trigger : TriggerSpec) : Type 0 where
  pub early : trigger.at ≤ latest
  pub slot : trigger.slot.0 < slots
  pub window : is_window trigger.threshold_us trigger.window_us ≡ true

-- There are at most 256 triggers, and each is valid for the time `latest` (ns) and the number of
-- slots `slots`.
pub record AreTriggersWithin (latest slots : ℕ) (triggers : List TriggerSpec) : Type 0 where
  pub few : length triggers ≤ 256
  pub each : All (λ trigger. IsTriggerWithin latest slots trigger) triggers

-- The latest time (ns) that a trace may have: a million of the longest ticks. It is an upper bound
-- on every total stall time.
abbrev pub last_moment : ℕ
last_moment = 60000000000000000

-- The longest interval between ticks (ns): a minute. No stall time within one interval exceeds it.
abbrev pub longest_tick : ℕ
longest_tick = 60000000000
