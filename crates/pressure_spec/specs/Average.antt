-- Defines the averages over 10, 60 and 300 s as the kernel's calc_load, fixed_power_int,
-- update_averages and calc_avgs compute them. Averages and decay factors are fixed-point numbers
-- with 11 fraction bits, in which 2,048 represents 1. Averages are in percent, so 204,800 is 100
-- percent. Decay factors are fractions of 1.
use Rattle.std.specs.Prelude.{ℕ, zero, suc, ◌+◌, ◌-◌, ◌*◌, ◌/◌, ◌%◌, min, List, [], ◌∷◌, map, fold, nat_le, nat_lt, ◌==◌, if◌then◌else◌}
use Rattle.pressure_spec.specs.Share.{zip_with, pressure_places}

-- The time (ns) between two updates of the averages: two seconds.
abbrev pub period : ℕ
period = 2000000000

-- The decay factors of the averages over 10, 60 and 300 s: the fraction of an average that remains
-- after one idle period, in units of 1/2048.
abbrev pub factors : List ℕ
factors = 1677 ∷ 1981 ∷ 2034 ∷ []

-- `load average factor active`: the average after one period with pressure `active`. The weight of
-- the old `average` is `factor` / 2048, and the weight of `active` is the remainder. The result is
-- rounded down if the average falls, and up if it doesn't.
abbrev pub load : ℕ → ℕ → ℕ → ℕ
load average factor active = (average * factor + active * (2048 - factor) + (if nat_le average active then 2047 else 0)) / 2048

-- The product of two fixed-point numbers, rounded to the nearest number.
abbrev pub product : ℕ → ℕ → ℕ
product x y = (x * y + 1024) / 2048

-- `power_within digits result x n`: computes `result * x^n` in fixed point by repeated squaring.
-- Uses at most `digits` binary digits of `n`, from the lowest digit up.
abbrev pub power_within : ℕ → ℕ → ℕ → ℕ → ℕ
power_within zero result x n = result
power_within (suc digits) result x n =
    if n == 0 then result else
    if n % 2 == 1 then power_within digits (product result x) (product x x) (n / 2) else power_within digits result (product x x) (n / 2)

-- Computes `result * x^n` in fixed point. `n` has at most `n` binary digits, so all its digits are
-- used.
unfoldable pub power_from : ℕ → ℕ → ℕ → ℕ
power_from result x n = power_within n result x n

-- Computes `x^n` in fixed point.
abbrev pub power : ℕ → ℕ → ℕ
power x n = power_from 2048 x n

-- The state of a group's averages. `last` and `next` are the times (ns) of the last and of the next
-- update. For each pressure quantity, `sampled` has how much (ns) of its total earlier updates have
-- sampled, and `averages` has its three averages.
pub record AverageState : Type 0 where
  pub last : ℕ
  pub next : ℕ
  pub sampled : List ℕ
  pub averages : List (List ℕ)

-- `new_averages at`: the initial averages of a group that is created at the time `at` (ns). All
-- averages are 0.
abbrev pub new_averages : ℕ → AverageState
new_averages at = record {
  last = at;
  next = at + period;
  sampled = map (λ place. 0) pressure_places;
  averages = map (λ place. map (λ factor. 0) factors) pressure_places;
}

-- `missed old now`: the number of missed periods, which are the whole periods from the time at
-- which the update was due to the time `now` (ns).
abbrev pub missed : AverageState → ℕ → ℕ
missed old now = (now - old.next) / period

-- `sampled_time old now`: the covered time (ns) of an update at the time `now` (ns). This is the
-- time since the last update, minus the missed periods.
abbrev pub sampled_time : AverageState → ℕ → ℕ
sampled_time old now = now - (old.last + missed old now * period)

-- `sample_of time sampled total`: the sample (ns) of an update with the covered time `time` (ns).
-- This is the part of `total` that isn't in `sampled`, which is the part that earlier updates have
-- sampled. The sample is at most `time`, and the remainder is left to later updates.
abbrev pub sample_of : ℕ → ℕ → ℕ → ℕ
sample_of time sampled total = min (total - sampled) time

-- `percent_of time sample`: the sample (ns) as a whole percentage of the covered time `time` (ns),
-- rounded down.
abbrev pub percent_of : ℕ → ℕ → ℕ
percent_of time sample = sample * 100 / time

-- `average_after missed_periods percent average factor`: the average after an update. It first
-- decays over the missed periods, as if the group had been idle. Then it moves over one period
-- toward the pressure `percent` (a whole percentage).
abbrev pub average_after : ℕ → ℕ → ℕ → ℕ → ℕ
average_after missed_periods percent average factor =
    load (if nat_lt 0 missed_periods then load average (power factor missed_periods) 0 else average) factor (percent * 2048)

-- `row_after missed_periods time averages sample`: the three averages of a quantity after an
-- update. `sample` is the quantity's sample (ns), and `time` is the covered time (ns).
abbrev pub row_after : ℕ → ℕ → List ℕ → ℕ → List ℕ
row_after missed_periods time averages sample = zip_with (average_after missed_periods (percent_of time sample)) averages factors

-- `samples_of time sampled totals`: the samples (ns) of all pressure quantities in an update.
-- `time` is the covered time (ns), `sampled` has the parts already sampled, and `totals` has the
-- totals (ns).
abbrev pub samples_of : ℕ → List ℕ → List ℕ → List ℕ
samples_of time sampled totals = zip_with (sample_of time) sampled totals

-- `updated old now totals`: the averages after an update at the time `now` (ns). `totals` has the
-- totals (ns) of the pressure quantities at that time.
abbrev pub updated : AverageState → ℕ → List ℕ → AverageState
updated old now totals = record {
  last = now;
  next = old.next + (1 + missed old now) * period;
  sampled = zip_with (λ sampled sample. sampled + sample) old.sampled (samples_of (sampled_time old now) old.sampled totals);
  averages =
      zip_with (row_after (missed old now) (sampled_time old now)) old.averages (samples_of (sampled_time old now) old.sampled totals);
}

-- `average_step old now totals`: the averages after a tick at the time `now` (ns). They are updated
-- if an update is due, and unchanged if it isn't.
unfoldable pub average_step : AverageState → ℕ → List ℕ → AverageState
average_step old now totals = if nat_lt now old.next then old else updated old now totals

-- `averages_from old ticks`: the averages after `ticks`. `old` are the averages before. Each tick
-- is a time (ns) with the totals (ns) of the pressure quantities at that time.
abbrev pub averages_from : AverageState → List (ℕ × List ℕ) → AverageState
averages_from old ticks = fold (λ state tick. average_step state tick.0 tick.1) old ticks

-- `averages_after at ticks`: the averages after `ticks` of a group that is created at the time `at`
-- (ns).
abbrev pub averages_after : ℕ → List (ℕ × List ℕ) → AverageState
averages_after at ticks = averages_from (new_averages at) ticks
