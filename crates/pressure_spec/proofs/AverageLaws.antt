-- Proofs about powers by squaring, how an average moves, and the invariant of averages over any
-- list of ticks.
use Rattle.std.proofs.Common.{◌≡◌, ℕ, zero, suc, ◌+◌, ◌-◌, ◌*◌, ◌/◌, ◌%◌, ◌≤◌, ◌<◌, List, [], ◌∷◌, length, refl, sym, ap, ◌∙◌, arith, true, false}
use Rattle.std.specs.Prelude.{◌==◌, if◌then◌else◌, nat_lt}
use Rattle.std.specs.Prelude.{min, All}
use Rattle.std.proofs.Common.{get_or}
use Rattle.std.proofs.Math.Nat.{mul-le-mul_left, mul-div_cancel_left}
use Rattle.std.proofs.Common.{lit<, ◌⊎◌, ⊎_elim}
use Rattle.std.proofs.Math.Nat.{div-mul-le_self}
use Rattle.std.proofs.lemmas.List.{get_or_default}
use Rattle.pressure_spec.specs.Average.{load, product, power_within, power_from, power, period, factors, AverageState, sample_of, samples_of, percent_of, average_after, row_after, missed, sampled_time, updated, average_step, averages_from, new_averages}
use Rattle.pressure_spec.specs.Within.{IsRow, IsAverageState}
use Rattle.pressure_spec.specs.Laws.{average_of, sampled_of, HasTotals, NeverFalls, PowerHalves, LoadApproaches, AtMostHundred, RisesWhenStalled, FallsWhenFree, CarriesTheRest, SamplesWithinTotal}
use Rattle.pressure_spec.specs.Samples.{last_totals}
use Rattle.pressure_spec.proofs.ShareLaws.{length-zip_with, get_or-zip_with}

-- additional digits don't change the power if there are enough for `n`
within_same : (f g result x n : ℕ) → n ≤ f → n ≤ g → power_within f result x n ≡ power_within g result x n
within_same zero zero result x n few many = refl
within_same zero (suc g) result x n few many = grind arith
within_same (suc f) zero result x n few many = grind arith
within_same (suc f) (suc g) result x n few many =
    let odd : 0 < n → power_within f (product result x) (product x x) (n / 2) ≡ power_within g (product result x) (product x x) (n / 2) = λ some. within_same f g (product result x) (product x x) (n / 2) (omega arith) (omega arith) in
    let even : 0 < n → power_within f result (product x x) (n / 2) ≡ power_within g result (product x x) (n / 2) = λ some. within_same f g result (product x x) (n / 2) (omega arith) (omega arith) in
    grind (arith, odd, even)

-- a power, by its lowest binary digit
pub power_from_step : (result x n : ℕ) → 0 < n → power_from result x n ≡ (if n % 2 == 1 then power_from (product result x) (product x x) (n / 2) else power_from result (product x x) (n / 2))
unfolding power_from
power_from_step result x zero some = absurd (omega arith)
power_from_step result x (suc m) some =
    let odd = within_same m (suc m / 2) (product result x) (product x x) (suc m / 2) (omega arith) (omega arith) in
    let even = within_same m (suc m / 2) result (product x x) (suc m / 2) (omega arith) (omega arith) in
    grind (arith, odd, even)

pub power_from_zero : (result x : ℕ) → power_from result x 0 ≡ result
unfolding power_from
power_from_zero result x = refl

product_most : (x y : ℕ) → x ≤ 2048 → y ≤ 2048 → product x y ≤ 2048
product_most x y x_most y_most = grind arith

within_most : (digits result x n : ℕ) → result ≤ 2048 → x ≤ 2048 → power_within digits result x n ≤ 2048
within_most zero result x n result_most x_most = result_most
within_most (suc digits) result x n result_most x_most =
    let square = product_most x x x_most x_most in
    let odd = within_most digits (product result x) (product x x) (n / 2) (product_most result x result_most x_most) square in
    let even = within_most digits result (product x x) (n / 2) result_most square in
    grind (arith, odd, even, result_most)

-- if a number is at most 1 (2,048 in fixed point), so is each of its powers
pub power_most : (x n : ℕ) → x ≤ 2048 → power x n ≤ 2048
unfolding power_from
power_most x n x_most = within_most n 2048 x n (omega arith) x_most

-- the sample of a quantity, by its index
pub get_or-samples_of : (time : ℕ) (sampled totals : List ℕ) (k o : ℕ) → length sampled ≡ 7 → length totals ≡ 7 → k < 7 → get_or (samples_of time sampled totals) k o ≡ min (get_or totals k 0 - get_or sampled k 0) time
get_or-samples_of time sampled totals k o seven also below = get_or-zip_with (sample_of time) sampled totals k 0 0 o (omega arith) (omega arith)

pub length-samples_of : (time : ℕ) (sampled totals : List ℕ) → length sampled ≡ 7 → length totals ≡ 7 → length (samples_of time sampled totals) ≡ 7
length-samples_of time sampled totals seven also = length-zip_with (sample_of time) sampled totals (omega arith) ∙ seven

-- a sample is at most the covered time
pub samples_most : (time : ℕ) (sampled totals : List ℕ) → length sampled ≡ 7 → length totals ≡ 7 → All (λ sample. sample ≤ time) (samples_of time sampled totals)
samples_most time sampled totals seven also = λ k d below. let is = get_or-samples_of time sampled totals k d seven also (omega (arith, length-samples_of time sampled totals seven also)) in omega (arith, is)

even_power : (result x n : ℕ) → power_from result x (2 * n) ≡ power_from result (product x x) n
even_power result x zero = power_from_zero result x ∙ sym (power_from_zero result (product x x))
even_power result x (suc n) =
    let step = power_from_step result x (2 * suc n) (omega arith) in
    let digit : 2 * suc n % 2 ≡ 0 = omega arith in
    let half : 2 * suc n / 2 ≡ suc n = omega arith in
    rw (step, digit, half) refl

odd_power : (result x n : ℕ) → power_from result x (2 * n + 1) ≡ power_from (product result x) (product x x) n
odd_power result x n =
    let step = power_from_step result x (2 * n + 1) (omega arith) in
    let digit : (2 * n + 1) % 2 ≡ 1 = omega arith in
    let half : (2 * n + 1) / 2 ≡ n = omega arith in
    rw (step, digit, half) refl

pub power_halves : PowerHalves
power_halves = record {
  zero = power_from_zero;
  even = λ result x n. even_power result x n;
  odd = λ result x n. odd_power result x n;
}

-- a mean of two numbers with weights that sum to 2,048 is between them
mean_up : (low high f g : ℕ) → f + g ≡ 2048 → low ≤ high → (low * 2048 ≤ low * f + high * g) × (low * f + high * g ≤ high * 2048)
mean_up low high f g all order =
    let lows : low * (f + g) ≡ low * 2048 = ap (λ n. low * n) all in
    let highs : high * (f + g) ≡ high * 2048 = ap (λ n. high * n) all in
    let by_f : f * low ≤ f * high = mul-le-mul_left f order in
    let by_g : g * low ≤ g * high = mul-le-mul_left g order in
    (omega (arith, lows, highs, by_f, by_g), omega (arith, lows, highs, by_f, by_g))

-- if `low` is less than `high` and the second weight `g` isn't 0, the mean of `low` and `high` is
-- strictly above `low`, and the mean of `high` and `low` is strictly below `high`
mean_off : (low high f g : ℕ) → f + g ≡ 2048 → 0 < g → low < high → (low * 2048 + 1 ≤ low * f + high * g) × (high * f + low * g + 1 ≤ high * 2048)
mean_off low high f g all some order =
    let lows : low * (f + g) ≡ low * 2048 = ap (λ n. low * n) all in
    let highs : high * (f + g) ≡ high * 2048 = ap (λ n. high * n) all in
    let step : low + 1 ≤ high = omega arith in
    let by_g : g * (low + 1) ≤ g * high = mul-le-mul_left g step in
    (omega (arith, lows, highs, by_g), omega (arith, lows, highs, by_g))

load_up : (average factor active : ℕ) → factor ≤ 2048 → average ≤ active → (average ≤ load average factor active) × (load average factor active ≤ active)
load_up average factor active within order =
    let all : factor + (2048 - factor) ≡ 2048 = omega arith in
    let mean = mean_up average active factor (2048 - factor) all order in
    (grind (arith, mean.0), grind (arith, mean.1))

load_down : (average factor active : ℕ) → factor ≤ 2048 → active ≤ average → (active ≤ load average factor active) × (load average factor active ≤ average)
load_down average factor active within order =
    let all : (2048 - factor) + factor ≡ 2048 = omega arith in
    let mean = mean_up active average (2048 - factor) factor all order in
    (grind (arith, mean.0), grind (arith, mean.1))

load_rises : (average factor active : ℕ) → factor < 2048 → average < active → average < load average factor active
load_rises average factor active within order =
    let all : factor + (2048 - factor) ≡ 2048 = omega arith in
    let mean = mean_off average active factor (2048 - factor) all (omega arith) order in
    grind (arith, mean.0)

load_falls : (average factor active : ℕ) → factor < 2048 → active < average → load average factor active < average
load_falls average factor active within order =
    let all : factor + (2048 - factor) ≡ 2048 = omega arith in
    let mean = mean_off active average factor (2048 - factor) all (omega arith) order in
    grind (arith, mean.1)

pub load_approaches : LoadApproaches
load_approaches = record {
  up = λ average factor active within order. load_up average factor active within order;
  down = λ average factor active within order. load_down average factor active within order;
  rises = load_rises;
  falls = load_falls;
}

-- one step of an average stays at most 100 percent
load_most : (average factor percent : ℕ) → average ≤ 204800 → factor ≤ 2048 → percent ≤ 100 → load average factor (percent * 2048) ≤ 204800
load_most average factor percent average_most factor_most percent_most =
    let active : percent * 2048 ≤ 204800 = omega arith in
    let up = load_up average factor (percent * 2048) factor_most in
    let down = load_down average factor (percent * 2048) factor_most in
    let case : (average ≤ percent * 2048) ⊎ (percent * 2048 ≤ average) = grind arith in
    ⊎_elim (λ order. omega (arith, active, (up order).1)) (λ order. omega (arith, (down order).1)) case

-- ---- one update

-- an average is at most 100 percent after an update
average_after_most : (missed_periods percent average factor : ℕ) → average ≤ 204800 → factor ≤ 2048 → percent ≤ 100 → average_after missed_periods percent average factor ≤ 204800
average_after_most missed_periods percent average factor average_most factor_most percent_most =
    let decay : power factor missed_periods ≤ 2048 = power_most factor missed_periods factor_most in
    let decayed : load average (power factor missed_periods) 0 ≤ average = (load_down average (power factor missed_periods) 0 decay (omega arith)).1 in
    let first = load_most average factor percent average_most factor_most percent_most in
    let later = load_most (load average (power factor missed_periods) 0) factor percent (omega (arith, decayed)) factor_most percent_most in
    grind (arith, first, later)

factor_below : (j : ℕ) → j < 3 → get_or factors j 0 < 2048
factor_below zero below = lit< tt
factor_below (suc zero) below = lit< tt
factor_below (suc (suc zero)) below = lit< tt
factor_below (suc (suc (suc j))) below = absurd (omega arith)

-- a sample is at most 100 percent of the covered time
percent_most : (time sample : ℕ) → 0 < time → sample ≤ time → percent_of time sample ≤ 100
percent_most time sample some within = grind arith

-- an average of a quantity after an update, by its index
get_or-row_after : (missed_periods time : ℕ) (row : List ℕ) (sample j : ℕ) → length row ≡ 3 → j < 3 → get_or (row_after missed_periods time row sample) j 0 ≡ average_after missed_periods (percent_of time sample) (get_or row j 0) (get_or factors j 0)
get_or-row_after missed_periods time row sample j three below = get_or-zip_with (average_after missed_periods (percent_of time sample)) row factors j 0 0 0 (omega arith) below

row_kept : (missed_periods time : ℕ) (row : List ℕ) (sample : ℕ) → 0 < time → sample ≤ time → IsRow row → IsRow (row_after missed_periods time row sample)
row_kept missed_periods time row sample some within is =
    let three : length (row_after missed_periods time row sample) ≡ 3 = length-zip_with (average_after missed_periods (percent_of time sample)) row factors is.three ∙ is.three in
    record {
      three = three;
      most = λ j d below.
          let place : j < 3 = omega (arith, three) in
          let inside : j < length row = omega (arith, is.three) in
          let old : get_or row j 0 ≤ 204800 = is.most j 0 inside in
          let one : get_or factors j 0 ≤ 2048 = omega (arith, factor_below j place) in
          rw (get_or_default (row_after missed_periods time row sample) j d 0 below, get_or-row_after missed_periods time row sample j is.three place)
          (average_after_most missed_periods (percent_of time sample) (get_or row j 0) (get_or factors j 0) old one (percent_most time sample some within));
    }

-- the time that an update covers isn't 0
time_some : (old : AverageState) (now : ℕ) → IsAverageState old → old.next ≤ now → 0 < sampled_time old now
time_some old now is due =
    let later : old.last < old.next = is.later in
    let whole : (now - old.next) / period * period ≤ now - old.next = div-mul-le_self (now - old.next) period in
    omega (arith, later, whole)

get_or-rows : (old : AverageState) (now : ℕ) (totals : List ℕ) (i : ℕ) → IsAverageState old → length totals ≡ 7 → i < 7 →
    get_or (updated old now totals).averages i [] ≡ row_after (missed old now) (sampled_time old now) (get_or old.averages i []) (sample_of (sampled_time old now) (get_or old.sampled i 0) (get_or totals i 0))
get_or-rows old now totals i is seven below =
    let samples = samples_of (sampled_time old now) old.sampled totals in
    let long : length samples ≡ 7 = length-samples_of (sampled_time old now) old.sampled totals is.sampled seven in
    get_or-zip_with (row_after (missed old now) (sampled_time old now)) old.averages samples i [] 0 [] (omega (arith, is.rows)) (omega (arith, long))
    ∙ ap (row_after (missed old now) (sampled_time old now) (get_or old.averages i [])) (get_or-samples_of (sampled_time old now) old.sampled totals i 0 is.sampled seven below)

update_keeps : (old : AverageState) (now : ℕ) (totals : List ℕ) → IsAverageState old → length totals ≡ 7 → old.next ≤ now → IsAverageState (updated old now totals)
update_keeps old now totals is seven due =
    let time = sampled_time old now in
    let samples = samples_of time old.sampled totals in
    let long : length samples ≡ 7 = length-samples_of time old.sampled totals is.sampled seven in
    let some : 0 < time = time_some old now is due in
    let whole : (now - old.next) / period * period ≤ now - old.next = div-mul-le_self (now - old.next) period in
    let rest : now - old.next < ((now - old.next) / period + 1) * period = omega arith in
    let rows : length (updated old now totals).averages ≡ 7 = length-zip_with (row_after (missed old now) time) old.averages samples (is.rows ∙ sym long) ∙ is.rows in
    record {
      later = omega (arith, rest);
      soon = omega (arith, whole);
      sampled = length-zip_with (λ sampled sample. sampled + sample) old.sampled samples (is.sampled ∙ sym long) ∙ is.sampled;
      rows = rows;
      each = λ i d below.
          let place : i < 7 = omega (arith, rows) in
          let inside : i < length old.averages = omega (arith, is.rows) in
          rw (get_or_default (updated old now totals).averages i d [] below, get_or-rows old now totals i is seven place)
          (row_kept (missed old now) time (get_or old.averages i []) (sample_of time (get_or old.sampled i 0) (get_or totals i 0)) some (omega arith) (is.each i [] inside));
    }

step_keeps : (old : AverageState) (now : ℕ) (totals : List ℕ) → IsAverageState old → length totals ≡ 7 → IsAverageState (average_step old now totals)
unfolding average_step
step_keeps old now totals is seven =
    let kept : old.next ≤ now → IsAverageState (updated old now totals) = update_keeps old now totals is seven in
    elim (nat_lt now old.next) as (λ test. nat_lt now old.next ≡ test → IsAverageState (if test then old else updated old now totals)) [ true ↦ λ early. is | false ↦ λ due. kept (grind (arith, due)) ] refl

-- ---- the invariant over any list of ticks

from_keeps : (old : AverageState) (ticks : List (ℕ × List ℕ)) → IsAverageState old → HasTotals ticks → IsAverageState (averages_from old ticks)
from_keeps old [] is all = is
from_keeps old (tick ∷ ticks) is all =
    from_keeps (average_step old tick.0 tick.1) ticks (step_keeps old tick.0 tick.1 is (all 0 tick (omega arith))) (λ k d below. all (suc k) d (omega arith))

zeros_row : IsRow (0 ∷ 0 ∷ 0 ∷ [])
zeros_row = record { three = refl; most = λ j d below. grind arith }

new_row : (at : ℕ) (i : ℕ) (d : List ℕ) → i < 7 → IsRow (get_or (new_averages at).averages i d)
new_row at zero d below = zeros_row
new_row at (suc zero) d below = zeros_row
new_row at (suc (suc zero)) d below = zeros_row
new_row at (suc (suc (suc zero))) d below = zeros_row
new_row at (suc (suc (suc (suc zero)))) d below = zeros_row
new_row at (suc (suc (suc (suc (suc zero))))) d below = zeros_row
new_row at (suc (suc (suc (suc (suc (suc zero)))))) d below = zeros_row
new_row at (suc (suc (suc (suc (suc (suc (suc i))))))) d below = absurd (omega arith)

new_is : (at : ℕ) → IsAverageState (new_averages at)
new_is at = record {
  later = omega arith;
  soon = omega arith;
  sampled = refl;
  rows = refl;
  each = λ i d below. new_row at i d below;
}

pub at_most_hundred : AtMostHundred
at_most_hundred at ticks all = from_keeps (new_averages at) ticks (new_is at) all

-- ---- the laws of one update

due_step : (old : AverageState) (now : ℕ) (totals : List ℕ) → old.next ≤ now → average_step old now totals ≡ updated old now totals
unfolding average_step
due_step old now totals due = grind arith

average_of_step : (old : AverageState) (now : ℕ) (totals : List ℕ) (i j : ℕ) → IsAverageState old → length totals ≡ 7 → i < 7 → j < 3 → old.next ≤ now →
    average_of (average_step old now totals) i j ≡ average_after (missed old now) (percent_of (sampled_time old now) (sample_of (sampled_time old now) (sampled_of old i) (get_or totals i 0))) (average_of old i j) (get_or factors j 0)
average_of_step old now totals i j is seven below place due =
    let inside : i < length old.averages = omega (arith, is.rows) in
    rw (due_step old now totals due, get_or-rows old now totals i is seven below)
    (get_or-row_after (missed old now) (sampled_time old now) (get_or old.averages i []) (sample_of (sampled_time old now) (get_or old.sampled i 0) (get_or totals i 0)) j (is.each i [] inside).three place)

old_most : (old : AverageState) (i j : ℕ) → IsAverageState old → i < 7 → j < 3 → average_of old i j ≤ 204800
old_most old i j is below place =
    let inside : i < length old.averages = omega (arith, is.rows) in
    let row = is.each i [] inside in
    row.most j 0 (omega (arith, row.three))

-- an update at 100 percent raises an average, unless it is 100 percent already
full_load : (missed_periods average factor percent : ℕ) → missed_periods ≡ 0 → average ≤ 204800 → factor < 2048 → percent ≡ 100 →
    (average ≤ average_after missed_periods percent average factor) × (average_after missed_periods percent average factor ≤ 204800) × (average < 204800 → average < average_after missed_periods percent average factor)
full_load missed_periods average factor percent none most within all =
    let active : percent * 2048 ≡ 204800 = omega arith in
    let up = load_up average factor 204800 (omega arith) most in
    rw (none, active) (up.0, up.1, λ order. load_rises average factor 204800 within order)

-- an update at 0 percent lowers an average, unless it is 0 already
empty_load : (missed_periods average factor percent : ℕ) → factor < 2048 → percent ≡ 0 → (average_after missed_periods percent average factor ≤ average) × (0 < average → average_after missed_periods percent average factor < average)
empty_load missed_periods average factor percent within none =
    let active : percent * 2048 ≡ 0 = omega arith in
    let decay : power factor missed_periods ≤ 2048 = power_most factor missed_periods (omega arith) in
    let faded = load average (power factor missed_periods) 0 in
    let first : faded ≤ average = (load_down average (power factor missed_periods) 0 decay (omega arith)).1 in
    let down : (a : ℕ) → load a factor 0 ≤ a = λ a. (load_down a factor 0 (omega arith) (omega arith)).1 in
    let falls : (a : ℕ) → 0 < a → load a factor 0 < a = λ a some. load_falls a factor 0 within some in
    rw active (grind (arith, first, down average, down faded), λ some. grind (arith, first, falls average, falls faded, down average, down faded))

pub rises_when_stalled : RisesWhenStalled
rises_when_stalled old now totals i j is seven below place due soon stalled =
    let none : missed old now ≡ 0 = omega arith in
    let time = sampled_time old now in
    let some : 0 < time = time_some old now is due in
    let all : sample_of time (sampled_of old i) (get_or totals i 0) ≡ time = omega arith in
    let full : percent_of time (sample_of time (sampled_of old i) (get_or totals i 0)) ≡ 100 = rw all (mul-div_cancel_left 100 some) in
    rw (average_of_step old now totals i j is seven below place due)
    (full_load (missed old now) (average_of old i j) (get_or factors j 0) (percent_of time (sample_of time (sampled_of old i) (get_or totals i 0))) none (old_most old i j is below place) (factor_below j place) full)

pub falls_when_free : FallsWhenFree
falls_when_free old now totals i j is seven below place due free =
    let time = sampled_time old now in
    let some : 0 < time = time_some old now is due in
    let nothing : sample_of time (sampled_of old i) (get_or totals i 0) ≡ 0 = omega arith in
    let none : percent_of time (sample_of time (sampled_of old i) (get_or totals i 0)) ≡ 0 = rw nothing (grind arith) in
    rw (average_of_step old now totals i j is seven below place due)
    (empty_load (missed old now) (average_of old i j) (get_or factors j 0) (percent_of time (sample_of time (sampled_of old i) (get_or totals i 0))) (factor_below j place) none)

pub carries_the_rest : CarriesTheRest
carries_the_rest old now totals i is seven below due =
    let time = sampled_time old now in
    let samples = samples_of time old.sampled totals in
    let long : length samples ≡ 7 = length-samples_of time old.sampled totals is.sampled seven in
    rw (due_step old now totals due)
    (get_or-zip_with (λ sampled sample. sampled + sample) old.sampled samples i 0 0 0 (omega (arith, is.sampled)) (omega (arith, long))
    ∙ ap (λ n. sampled_of old i + n) (get_or-samples_of time old.sampled totals i 0 is.sampled seven below))

-- the sampled part stays at most the total
sampled_within : (old : AverageState) (now : ℕ) (totals : List ℕ) (i : ℕ) → IsAverageState old → length totals ≡ 7 → i < 7 → sampled_of old i ≤ get_or totals i 0 → sampled_of (average_step old now totals) i ≤ get_or totals i 0
unfolding average_step
sampled_within old now totals i is seven below within =
    let due : old.next ≤ now → sampled_of (average_step old now totals) i ≤ get_or totals i 0 = λ due. omega (arith, carries_the_rest old now totals i is seven below due) in
    let early : now < old.next → sampled_of (average_step old now totals) i ≤ get_or totals i 0 = λ early. grind (arith, within) in
    let case : (old.next ≤ now) ⊎ (now < old.next) = grind arith in
    ⊎_elim due early case

from_within : (old : AverageState) (before : List ℕ) (ticks : List (ℕ × List ℕ)) (i : ℕ) → IsAverageState old → HasTotals ticks → NeverFalls before ticks → i < 7 → sampled_of old i ≤ get_or before i 0 →
    sampled_of (averages_from old ticks) i ≤ get_or (last_totals before ticks) i 0
from_within old before [] i is all never below within = within
from_within old before (tick ∷ ticks) i is all never below within =
    let seven : length tick.1 ≡ 7 = all 0 tick (omega arith) in
    let here : sampled_of old i ≤ get_or tick.1 i 0 = omega (arith, within, never.0 i) in
    from_within (average_step old tick.0 tick.1) tick.1 ticks i (step_keeps old tick.0 tick.1 is seven) (λ k d inside. all (suc k) d (omega arith)) never.1 below (sampled_within old tick.0 tick.1 i is seven below here)

pub samples_within_total : SamplesWithinTotal
samples_within_total at ticks i all never below = from_within (new_averages at) [] ticks i (new_is at) all never below (grind arith)
