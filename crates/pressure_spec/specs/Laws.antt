-- Laws of shares, averages and signals, and laws of groups over any list of ticks. A *place* is the
-- index of a quantity in a list of times.
use Rattle.std.specs.Prelude.{◌≡◌, ℕ, ◌+◌, ◌-◌, ◌*◌, ◌≤◌, ◌<◌, List, [], ◌∷◌, ◌++◌, length, map, slice_index, sum_by, true, if◌then◌else◌, ◌/◌, ◌^◌, All, min, slice_index_or, Bool, false, Some}
use Rattle.std.specs.List.{range_with_len}
use Rattle.std.specs.List.Sorted.{IsNonDecreasingBy}
use Rattle.psi_base.specs.declared.event.TriggerSpec.{TriggerSpec}
use Rattle.psi_spec.specs.declared.machine.GroupLife.{GroupLife}
use Rattle.psi_spec.specs.World.{longest_irq}
use Rattle.psi_spec.specs.Groups.{is_live_at}
use Rattle.pressure_spec.specs.Ticks.{Tick, no_row}
use Rattle.pressure_spec.specs.NextTick.{AreNextTicks, IsNextTick, last_tick, no_tick}
use Rattle.pressure_spec.specs.Share.{irq_place, irq_quantity, plus, pressure_places, share_of, shares, total_weight, weighted_time}
use Rattle.pressure_spec.specs.Within.{AreAmountsWithin, AreTimesWithin, most_irq_total, time_sum}
use Rattle.pressure_spec.specs.Average.{AverageState, average_step, averages_after, load, period, power_from, product, sampled_time}
use Rattle.pressure_spec.specs.Within.{IsAverageState}
use Rattle.pressure_spec.specs.Samples.{group_averages, growths, has_fired, last_totals, life_of, row_at, totals_after}
use Rattle.psi_spec.specs.Within.{longest_tick}
use Rattle.pressure_spec.specs.Signal.{TriggerState, fires, is_free, new_trigger, trigger_after, trigger_step}

-- ---- laws of shares

-- A share is a mean of the processors' times. If all times are at most `most`, the share is at most
-- `most`. If all times are at least `least` and some processor has weight, the share is at least
-- `least`.
abbrev pub ShareIsMean : Type 0
ShareIsMean = (rows : List (List ℕ)) (place least most : ℕ) →
    All (λ times. (least ≤ slice_index times place) × (slice_index times place ≤ most)) rows →
    (share_of rows place ≤ most) × (0 < total_weight rows → least ≤ share_of rows place)

-- If a group's times on each processor are within bounds, its shares are within the same bounds.
abbrev pub SharesWithin : Type 0
SharesWithin =
    (rows : List (List ℕ)) (most most_irq : ℕ) → All (AreTimesWithin most most_irq) rows → AreAmountsWithin most most_irq (shares rows)

-- The share of a quantity is at most the sum of the processors' times for this quantity.
abbrev pub ShareWithinSum : Type 0
ShareWithinSum = (rows : List (List ℕ)) (place : ℕ) → share_of rows place ≤ time_sum rows place

-- The weighted sum from which a share is computed fits in 64 bits. There are at most 64 processors,
-- each with a time of at most the longest tick (for interrupts a second more), and with a weight of
-- at most the longest tick in ms.
abbrev pub ShareSumFits : Type 0
ShareSumFits =
    (rows : List (List ℕ)) (place : ℕ) → length rows ≤ 64 → place ≤ irq_place
    → All (AreTimesWithin longest_tick (longest_tick + longest_irq)) rows →
    (weighted_time rows place ≤ 64 * (longest_tick + longest_irq) * (longest_tick / 1000000)) × (weighted_time rows place < 2 ^ 64)

-- All shares are 0 if no processor has weight. A processor has no weight if the group was nonidle
-- there for less than 1 ms.
abbrev pub IdleHasNone : Type 0
IdleHasNone = (rows : List (List ℕ)) (place : ℕ) → total_weight rows ≡ 0 → share_of rows place ≡ 0

-- ---- laws of averages

-- The average with index `factor` (for 10, 60 or 300 s) of the quantity with index `place`.
abbrev pub average_of : AverageState → ℕ → ℕ → ℕ
average_of s place factor = slice_index (slice_index_or s.averages place []) factor

-- How much (ns) of the total of the quantity with index `place` the updates of the averages have
-- sampled so far.
abbrev pub sampled_of : AverageState → ℕ → ℕ
sampled_of s place = slice_index s.sampled place

-- Each tick has one total for each pressure quantity.
abbrev pub HasTotals : List (ℕ × List ℕ) → Type 0
HasTotals ticks = All (λ tick. length tick.1 ≡ length pressure_places) ticks

-- The totals never decrease from tick to tick. `before` are the totals before the first tick.
abbrev pub NeverFalls : List ℕ → List (ℕ × List ℕ) → Type 0
NeverFalls before [] = Unit {0}
NeverFalls before (tick ∷ ticks) = ((place : ℕ) → slice_index before place ≤ slice_index tick.1 place) × NeverFalls tick.1 ticks

-- Exponentiation by squaring. For the exponent 0 the result is `result`. For an even exponent, `x`
-- is squared and the exponent is halved. For an odd exponent, `result` is also multiplied by `x`.
pub record PowerHalves : Type 0 where
  pub zero : (result x : ℕ) → power_from result x 0 ≡ result
  pub even : (result x n : ℕ) → power_from result x (2 * n) ≡ power_from result (product x x) n
  pub odd : (result x n : ℕ) → power_from result x (2 * n + 1) ≡ power_from (product result x) (product x x) n

-- An average moves toward the active pressure and never past it. If the factor is below 1, the
-- average stays constant only at the active pressure.
pub record LoadApproaches : Type 0 where
  pub up : (average factor active : ℕ) → factor ≤ 2048 → average ≤ active
      → (average ≤ load average factor active) × (load average factor active ≤ active)
  pub down : (average factor active : ℕ) → factor ≤ 2048 → active ≤ average
      → (active ≤ load average factor active) × (load average factor active ≤ average)
  pub rises : (average factor active : ℕ) → factor < 2048 → average < active → average < load average factor active
  pub falls : (average factor active : ℕ) → factor < 2048 → active < average → load average factor active < average

-- After any list of ticks every average is at most 100 percent, and the next update is due within
-- one period.
abbrev pub AtMostHundred : Type 0
AtMostHundred = (at : ℕ) (ticks : List (ℕ × List ℕ)) → HasTotals ticks → IsAverageState (averages_after at ticks)

-- If the stall time that isn't sampled yet is at least the covered time and no period was missed,
-- an update raises each average of the quantity toward 100 percent, but not above 100 percent.
abbrev pub RisesWhenStalled : Type 0
RisesWhenStalled = (old : AverageState) (now : ℕ) (totals : List ℕ) (place factor : ℕ) →
    IsAverageState old → length totals ≡ length pressure_places → place < length pressure_places → factor < 3 →
    old.next ≤ now → now < old.next + period → sampled_of old place + sampled_time old now ≤ slice_index totals place →
    (average_of old place factor ≤ average_of (average_step old now totals) place factor)
    × (average_of (average_step old now totals) place factor ≤ 204800)
    × (average_of old place factor < 204800 → average_of old place factor < average_of (average_step old now totals) place factor)

-- If the whole total of a quantity has been sampled already, an update lowers each average of the
-- quantity toward 0.
abbrev pub FallsWhenFree : Type 0
FallsWhenFree = (old : AverageState) (now : ℕ) (totals : List ℕ) (place factor : ℕ) →
    IsAverageState old → length totals ≡ length pressure_places → place < length pressure_places → factor < 3 →
    old.next ≤ now → slice_index totals place ≤ sampled_of old place →
    (average_of (average_step old now totals) place factor ≤ average_of old place factor)
    × (0 < average_of old place factor → average_of (average_step old now totals) place factor < average_of old place factor)

-- An update samples the part of a total that earlier updates haven't sampled, but at most the
-- covered time. The remainder is left to later updates.
abbrev pub CarriesTheRest : Type 0
CarriesTheRest = (old : AverageState) (now : ℕ) (totals : List ℕ) (place : ℕ) →
    IsAverageState old → length totals ≡ length pressure_places → place < length pressure_places → old.next ≤ now →
    sampled_of (average_step old now totals) place ≡ sampled_of old place
    + min (slice_index totals place - sampled_of old place) (sampled_time old now)

-- Updates never sample more of a quantity than its total.
abbrev pub SamplesWithinTotal : Type 0
SamplesWithinTotal =
    (at : ℕ) (ticks : List (ℕ × List ℕ)) (place : ℕ) → HasTotals ticks → NeverFalls [] ticks → place < length pressure_places →
    sampled_of (averages_after at ticks) place ≤ slice_index (last_totals [] ticks) place

-- ---- laws of the signals of triggers

-- Whether the trigger fires at `tick`, after it was updated at the earlier `ticks`.
abbrev pub fired_after : TriggerState → List (ℕ × ℕ) → ℕ × ℕ → Bool
fired_after trigger ticks tick = fires (trigger_after trigger ticks) tick.0 tick.1

-- Two signals of a trigger are at least its window apart, whatever ticks are between them.
abbrev pub SignalsApart : Type 0
SignalsApart = (at value threshold_us window_us : ℕ) (before between : List (ℕ × ℕ)) (first second : ℕ × ℕ) →
    fired_after (new_trigger at value threshold_us window_us) before first ≡ true →
    fired_after (new_trigger at value threshold_us window_us) (before ++ first ∷ between) second ≡ true →
    first.0 + window_us * 1000 ≤ second.0

-- A pending event isn't lost: the trigger fires at the first tick that is at least a window after
-- its last signal, whatever the totals of the earlier ticks are.
abbrev pub PendingIsSignalled : Type 0
PendingIsSignalled = (trigger : TriggerState) (waits : List (ℕ × ℕ)) (tick : ℕ × ℕ) → trigger.pending ≡ true →
    All (λ (wait : ℕ × ℕ). is_free trigger.last_event trigger.size wait.0 ≡ false) waits →
    is_free trigger.last_event trigger.size tick.0 ≡ true →
    fired_after trigger waits tick ≡ true

-- If a trigger fires at a tick, the time of its last signal is set to the time of the tick. Any
-- other tick leaves the time of the last signal unchanged.
abbrev pub RemembersLast : Type 0
RemembersLast = (trigger : TriggerState) (now value : ℕ) →
    (fires trigger now value ≡ true → (trigger_step trigger now value).last_event ≡ Some now)
    × (fires trigger now value ≡ false → (trigger_step trigger now value).last_event ≡ trigger.last_event)

-- Ticks at the times `moments` (ns), all with the total `value` (ns).
abbrev pub still : ℕ → List ℕ → List (ℕ × ℕ)
still value moments = map (λ now. (now, value)) moments

-- A trigger never fires if the total never changes.
abbrev pub QuietWhenStill : Type 0
QuietWhenStill = (at value threshold_us window_us now : ℕ) (moments : List ℕ) →
    fires (trigger_after (new_trigger at value threshold_us window_us) (still value moments)) now value ≡ false

-- ---- laws of groups over a list of ticks

-- The totals (ns) of a group: for each quantity, the sum of its shares over a list of samples. Each
-- sample has one share for each quantity.
unfoldable pub totals_of : List (List ℕ) → List ℕ
totals_of samples = map (λ i. sum_by (λ sample. slice_index sample i) samples) (range_with_len 0 (length pressure_places))

-- Appending a sample adds its shares to the totals.
abbrev pub TotalsGrow : Type 0
TotalsGrow = (samples : List (List ℕ)) (sample : List ℕ) → length sample ≡ length pressure_places →
    totals_of (samples ++ sample ∷ []) ≡ plus (totals_of samples) sample

-- `samples_from life slot before ticks`: the samples of a group. For each tick at which the group
-- is live, they have the tick's time and the group's shares (ns) of the interval since the previous
-- tick. `before` are the group's times at the tick before the first.
abbrev pub samples_from : GroupLife → ℕ → List (List ℕ) → List Tick → List (ℕ × List ℕ)
samples_from life slot before [] = []
samples_from life slot before (tick ∷ ticks) =
    if is_live_at life tick.at
    then (tick.at, shares (growths before (row_at tick slot))) ∷ samples_from life slot (row_at tick slot) ticks
    else samples_from life slot (row_at tick slot) ticks

-- The samples of the group in slot `slot` over a list of ticks, on `cpus` processors.
abbrev pub group_samples : ℕ → List GroupLife → List Tick → ℕ → List (ℕ × List ℕ)
group_samples cpus lives ticks slot = samples_from (life_of lives slot) slot (no_row cpus) ticks

-- The total of quantity `i` after a list of ticks is the sum of its shares in the group's samples.
abbrev pub TotalIsSum : Type 0
TotalIsSum = (cpus : ℕ) (lives : List GroupLife) (ticks : List Tick) (slot i : ℕ) → i < length pressure_places →
    slice_index (totals_after cpus lives ticks slot) i ≡ sum_by (λ sample. slice_index sample.1 i) (group_samples cpus lives ticks slot)

-- Further ticks never decrease a total.
abbrev pub TotalsNeverFall : Type 0
TotalsNeverFall = (cpus : ℕ) (lives : List GroupLife) (ticks more : List Tick) (slot i : ℕ) →
    slice_index (totals_after cpus lives ticks slot) i ≤ slice_index (totals_after cpus lives (ticks ++ more) slot) i

-- The share of a state is at most the time since the previous tick. The share of interrupts is at
-- most that time plus one second.
abbrev pub NextSharesWithin : Type 0
NextSharesWithin = (last tick : Tick) (slot : ℕ) → IsNextTick last tick →
    AreAmountsWithin (tick.at - last.at) (tick.at - last.at + longest_irq) (shares (growths (row_at last slot) (row_at tick slot)))

-- The total of each state is at most the time of the last tick. The total of interrupts is at most
-- the sum of the processors' interrupt times.
abbrev pub TotalsWithin : Type 0
TotalsWithin =
    (cpus : ℕ) (lives : List GroupLife) (ticks : List Tick) (slot : ℕ) → slot < length lives
    → AreNextTicks (no_tick cpus (length lives)) ticks →
    AreAmountsWithin (last_tick (no_tick cpus (length lives)) ticks).at
    (time_sum (row_at (last_tick (no_tick cpus (length lives)) ticks) slot) irq_place)
    (totals_after cpus lives ticks slot)

-- The interrupt total of up to 64 processors is at most `most_irq_total`, because the interrupt
-- time of each processor is at most the time of the tick.
abbrev pub IrqTotalBound : Type 0
IrqTotalBound =
    (cpus : ℕ) (lives : List GroupLife) (ticks : List Tick) (slot : ℕ) → slot < length lives
    → AreNextTicks (no_tick cpus (length lives)) ticks →
    length (row_at (last_tick (no_tick cpus (length lives)) ticks) slot) ≤ 64 →
    slice_index (totals_after cpus lives ticks slot) irq_quantity ≤ most_irq_total

-- After any list of ticks every average of a group is at most 100 percent.
abbrev pub GroupsAtMostHundred : Type 0
GroupsAtMostHundred =
    (cpus : ℕ) (lives : List GroupLife) (ticks : List Tick) (slot place factor : ℕ)
    → average_of (group_averages cpus lives ticks slot) place factor ≤ 204800

-- Two signals of a trigger in a replay are at least its window apart, if the times of the ticks are
-- non-decreasing.
abbrev pub FiredApart : Type 0
FiredApart = (cpus : ℕ) (lives : List GroupLife) (trigger : TriggerSpec) (before between : List Tick) (first second : Tick) →
    IsNonDecreasingBy (λ (tick : Tick). tick.at) (before ++ first ∷ between) →
    has_fired cpus lives before first trigger ≡ true → has_fired cpus lives (before ++ first ∷ between) second trigger ≡ true →
    first.at + trigger.window_us * 1000 ≤ second.at
