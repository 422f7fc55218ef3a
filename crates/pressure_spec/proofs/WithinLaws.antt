-- Proofs of upper bounds of totals: the total of a state is at most the time that passed, and the
-- total of interrupts is at most the sum of the processors' interrupt times.
use Rattle.std.proofs.Common.{◌≡◌, ℕ, zero, suc, ◌+◌, ◌-◌, ◌*◌, ◌≤◌, ◌<◌, List, [], ◌∷◌, length, get_or, subst, arith, refl, true, false, ◌⊎◌, ⊎_elim}
use Rattle.std.specs.Prelude.{All, if◌then◌else◌}
use Rattle.std.proofs.lemmas.List.{get_or_past, get_or-replicate, length-replicate}
use Rattle.std.proofs.lemmas.List.Elements.{All-cons, All-nil}
use Rattle.std.proofs.lemmas.List.Sums.{sum_by-cons}
use Rattle.psi_spec.specs.declared.machine.GroupLife.{GroupLife}
use Rattle.psi_spec.specs.Groups.{is_live_at}
use Rattle.psi_spec.specs.Within.{last_moment}
use Rattle.pressure_spec.specs.Ticks.{Tick, no_row, times_with}
use Rattle.pressure_spec.specs.NextTick.{AreNextTicks, IsNextTick, last_tick, no_tick, time_in, time_of}
use Rattle.pressure_spec.specs.Share.{irq_place, irq_quantity, no_totals, plus, shares, zip_with}
use Rattle.pressure_spec.specs.Within.{AreAmountsWithin, AreTimesWithin, time_sum}
use Rattle.psi_spec.specs.World.{longest_irq}
use Rattle.pressure_spec.specs.Samples.{last_totals, growths, history_from, life_of, row_at, totals_after, with_shares}
use Rattle.pressure_spec.specs.Laws.{IrqTotalBound, NextSharesWithin, TotalsWithin}
use Rattle.pressure_spec.proofs.ShareLaws.{get_or-shares, share_within_sum, shares_within}
use Rattle.pressure_spec.proofs.SampleLaws.{no_tick_row}

-- every amount is at most the greater of the two bounds
pub amount_most : (amounts : List ℕ) (most most_irq quantity : ℕ) → AreAmountsWithin most most_irq amounts → most ≤ most_irq → quantity < 7 → get_or amounts quantity 0 ≤ most_irq
amount_most amounts most most_irq quantity within order below =
    let state : quantity < irq_quantity → get_or amounts quantity 0 ≤ most_irq = λ inside. let least = within.states quantity inside in omega (arith, least, order) in
    let irq : quantity ≡ irq_quantity → get_or amounts quantity 0 ≤ most_irq = λ is. rw is within.irq in
    let case : (quantity < irq_quantity) ⊎ (quantity ≡ irq_quantity) = grind arith in
    ⊎_elim state irq case

-- ---- growth of times

-- the growth of a time is at most `most` if the time is at most `most` greater than before
growth_most : (now before : List ℕ) (place most : ℕ) → get_or now place 0 ≤ get_or before place 0 + most → get_or (zip_with (λ time earlier. time - earlier) now before) place 0 ≤ most
growth_most [] before place most is = omega arith
growth_most (time ∷ now) [] place most is = omega arith
growth_most (time ∷ now) (earlier ∷ before) zero most is = omega (arith, is)
growth_most (time ∷ now) (earlier ∷ before) (suc place) most is = growth_most now before place most is

pub growths_within : (before now : List (List ℕ)) (most most_irq : ℕ) → ((cpu place : ℕ) → place < irq_place → time_of now cpu place ≤ time_of before cpu place + most) →
    ((cpu : ℕ) → time_of now cpu irq_place ≤ time_of before cpu irq_place + most_irq) → All (AreTimesWithin most most_irq) (growths before now)
growths_within [] [] most most_irq each irq = All-nil _
growths_within (earlier ∷ before) [] most most_irq each irq = All-nil _
growths_within [] (times ∷ now) most most_irq each irq = All-nil _
growths_within (earlier ∷ before) (times ∷ now) most most_irq each irq =
    All-cons (AreTimesWithin most most_irq) (zip_with (λ time earlier. time - earlier) times earlier) (growths before now)
    (record {
      states = λ place below. growth_most times earlier place most (each 0 place below);
      irq = growth_most times earlier irq_place most_irq (irq 0);
    })
    (growths_within before now most most_irq (λ cpu. each (suc cpu)) (λ cpu. irq (suc cpu)))

-- the growth of a group's times at the next tick is within bounds
pub growths_next : (last tick : Tick) (slot : ℕ) → IsNextTick last tick → All (AreTimesWithin (tick.at - last.at) (tick.at - last.at + longest_irq)) (growths (row_at last slot) (row_at tick slot))
growths_next last tick slot next =
    growths_within (row_at last slot) (row_at tick slot) (tick.at - last.at) (tick.at - last.at + longest_irq) (next.grown slot) (λ cpu. let most = next.irq_grown slot cpu in omega (arith, most))

pub next_shares_within : NextSharesWithin
next_shares_within last tick slot next =
    shares_within (growths (row_at last slot) (row_at tick slot)) (tick.at - last.at) (tick.at - last.at + longest_irq) (growths_next last tick slot next)

-- the growth of a time plus the earlier time is at most the time now
growth_sum : (now before : List ℕ) (place : ℕ) → get_or before place 0 ≤ get_or now place 0 → get_or (zip_with (λ time earlier. time - earlier) now before) place 0 + get_or before place 0 ≤ get_or now place 0
growth_sum [] before place kept = omega (arith, kept)
growth_sum (time ∷ now) [] place kept = omega arith
growth_sum (time ∷ now) (earlier ∷ before) zero kept = omega (arith, kept)
growth_sum (time ∷ now) (earlier ∷ before) (suc place) kept = growth_sum now before place kept

-- the sum over processors is the time of the first processor plus the sum over the others
sum_more : (times : List ℕ) (rows : List (List ℕ)) (place : ℕ) → time_sum (times ∷ rows) place ≡ get_or times place 0 + time_sum rows place
sum_more times rows place = sum_by-cons (λ (times : List ℕ). get_or times place 0) times rows

none_sum : (rows : List (List ℕ)) (place : ℕ) → ((cpu : ℕ) → time_of rows cpu place ≤ 0) → time_sum rows place ≡ 0
none_sum [] place none = refl
none_sum (times ∷ rows) place none =
    let here = none 0 in
    let rest = none_sum rows place (λ cpu. none (suc cpu)) in
    omega (arith, sum_more times rows place, here, rest)

growths_sum : (before now : List (List ℕ)) (place : ℕ) → ((cpu : ℕ) → time_of before cpu place ≤ time_of now cpu place) → time_sum (growths before now) place + time_sum before place ≤ time_sum now place
growths_sum [] [] place kept = omega arith
growths_sum [] (times ∷ now) place kept = omega arith
growths_sum (earlier ∷ before) [] place kept = let none = none_sum (earlier ∷ before) place kept in omega (arith, none)
growths_sum (earlier ∷ before) (times ∷ now) place kept =
    let here = growth_sum times earlier place (kept 0) in
    let rest = growths_sum before now place (λ cpu. kept (suc cpu)) in
    omega (arith, sum_more times now place, sum_more earlier before place, sum_more (zip_with (λ time earlier. time - earlier) times earlier) (growths before now) place, here, rest)

-- ---- totals

plus_most : (xs ys : List ℕ) (k : ℕ) → get_or (plus xs ys) k 0 ≤ get_or xs k 0 + get_or ys k 0
plus_most [] ys k = omega arith
plus_most (x ∷ xs) [] k = omega arith
plus_most (x ∷ xs) (y ∷ ys) zero = omega arith
plus_most (x ∷ xs) (y ∷ ys) (suc k) = plus_most xs ys k

-- The totals of a group are within the bounds of a tick: for a state the time of the tick, and for
-- interrupts the sum of the processors' interrupt times.
abbrev pub AreTotalsUntil : Tick → ℕ → List ℕ → Type 0
AreTotalsUntil tick slot totals = AreAmountsWithin tick.at (time_sum (row_at tick slot) irq_place) totals

-- totals within the bounds of a tick are within the bounds of the next tick if the group isn't
-- sampled there
pub totals_kept : (last tick : Tick) (slot : ℕ) (totals : List ℕ) → IsNextTick last tick → AreTotalsUntil last slot totals → AreTotalsUntil tick slot totals
totals_kept last tick slot totals next within =
    let sum = growths_sum (row_at last slot) (row_at tick slot) irq_place (λ cpu. next.kept slot cpu irq_place) in
    record {
      states = λ quantity below. let most = within.states quantity below in omega (arith, most, next.later);
      irq = omega (arith, within.irq, sum);
    }

-- totals within the bounds of a tick are within the bounds of the next tick if the group is sampled
-- there
pub totals_sampled : (last tick : Tick) (slot : ℕ) (totals : List ℕ) → IsNextTick last tick → AreTotalsUntil last slot totals →
    AreTotalsUntil tick slot (plus totals (shares (growths (row_at last slot) (row_at tick slot))))
totals_sampled last tick slot totals next within =
    let grown = growths (row_at last slot) (row_at tick slot) in
    let share = next_shares_within last tick slot next in
    let sum = growths_sum (row_at last slot) (row_at tick slot) irq_place (λ cpu. next.kept slot cpu irq_place) in
    let irq : get_or (shares grown) irq_quantity 0 ≤ time_sum grown irq_place = rw (get_or-shares grown irq_quantity 0 (omega arith)) (share_within_sum grown irq_place) in
    record {
      states = λ quantity below.
          let before = within.states quantity below in
          let added = share.states quantity below in
          omega (arith, before, added, plus_most totals (shares grown) quantity, next.later);
      irq = omega (arith, within.irq, irq, sum, plus_most totals (shares grown) irq_quantity);
    }

-- totals within the bounds of a tick stay within bounds over more ticks
totals_from : (life : GroupLife) (slot : ℕ) (totals : List ℕ) (before : Tick) (ticks : List Tick) → AreNextTicks before ticks → AreTotalsUntil before slot totals →
    AreTotalsUntil (last_tick before ticks) slot (last_totals totals (history_from life slot (row_at before slot) totals ticks))
totals_from life slot totals before [] ordered within = within
totals_from life slot totals before (tick ∷ ticks) ordered within =
    let row = row_at tick slot in
    let now = with_shares totals (row_at before slot) row in
    let there = totals_from life slot now tick ticks ordered.1 (totals_sampled before tick slot totals ordered.0 within) in
    let gone = totals_from life slot totals tick ticks ordered.1 (totals_kept before tick slot totals ordered.0 within) in
    elim (is_live_at life tick.at) as (λ live. AreTotalsUntil (last_tick tick ticks) slot (last_totals totals (if live then (tick.at, now) ∷ history_from life slot row now ticks else history_from life slot row totals ticks)))
    [ true ↦ there | false ↦ gone ]

-- each of the initial totals is 0
zero_at : (quantity : ℕ) → quantity < irq_quantity → get_or no_totals quantity 0 ≤ 0
zero_at zero below = omega arith
zero_at (suc zero) below = omega arith
zero_at (suc (suc zero)) below = omega arith
zero_at (suc (suc (suc zero))) below = omega arith
zero_at (suc (suc (suc (suc zero)))) below = omega arith
zero_at (suc (suc (suc (suc (suc zero))))) below = omega arith
zero_at (suc (suc (suc (suc (suc (suc k)))))) below = absurd (omega arith)

zero_irq : get_or no_totals irq_quantity 0 ≡ 0
zero_irq = refl

-- the initial totals are within any bounds
pub none_within : (most most_irq : ℕ) → AreAmountsWithin most most_irq no_totals
none_within most most_irq = record {
  states = λ quantity below. let zeros = zero_at quantity below in omega (arith, zeros);
  irq = omega (arith, zero_irq);
}

pub totals_within : TotalsWithin
unfolding totals_after
totals_within cpus lives ticks slot below ordered =
    let before = no_tick cpus (length lives) in
    let from = totals_from (life_of lives slot) slot no_totals before ticks ordered (none_within before.at (time_sum (row_at before slot) irq_place)) in
    let P : List (List ℕ) → Type 0 = λ row. AreTotalsUntil (last_tick before ticks) slot (last_totals no_totals (history_from (life_of lives slot) slot row no_totals ticks)) in
    subst P (no_tick_row cpus (length lives) slot below) from

-- ---- the bound of interrupt totals

-- the interrupt time of each processor is at most the time of the tick, which is at most the latest
-- time of a trace
pub record IsIrqEarly (tick : Tick) (slot : ℕ) : Type 0 where
  pub moment : tick.at ≤ last_moment
  pub irq : (cpu : ℕ) → time_in tick.table slot cpu irq_place ≤ tick.at

pub last_early : (before : Tick) (ticks : List Tick) (slot : ℕ) → AreNextTicks before ticks → IsIrqEarly before slot → IsIrqEarly (last_tick before ticks) slot
last_early before [] slot ordered is = is
last_early before (tick ∷ ticks) slot ordered is = last_early tick ticks slot ordered.1 (record { moment = ordered.0.early; irq = ordered.0.irq_early slot })

-- all interrupt times are 0 before the first tick
zero_row : (cpus cpu : ℕ) → time_of (no_row cpus) cpu irq_place ≡ 0
zero_row cpus cpu =
    let inside : cpu < cpus → time_of (no_row cpus) cpu irq_place ≡ 0 = λ below. rw (get_or-replicate cpus cpu (times_with (λ state. 0) 0) [] below) refl in
    let past : cpus ≤ cpu → time_of (no_row cpus) cpu irq_place ≡ 0 = λ above. rw (get_or_past (no_row cpus) cpu [] (let many = length-replicate cpus (times_with (λ state. 0) 0) in omega (arith, many, above))) refl in
    let case : (cpu < cpus) ⊎ (cpus ≤ cpu) = grind arith in
    ⊎_elim inside past case

first_early : (cpus slots slot : ℕ) → slot < slots → IsIrqEarly (no_tick cpus slots) slot
first_early cpus slots slot below = record {
  moment = omega arith;
  irq = λ cpu. rw (no_tick_row cpus slots slot below) (let none = zero_row cpus cpu in omega (arith, none));
}

sum_most : (rows : List (List ℕ)) (place most : ℕ) → ((cpu : ℕ) → time_of rows cpu place ≤ most) → time_sum rows place ≤ length rows * most
sum_most [] place most each = omega arith
sum_most (times ∷ rows) place most each =
    let here = each 0 in
    let rest = sum_most rows place most (λ cpu. each (suc cpu)) in
    omega (arith, sum_more times rows place, here, rest)

-- the sum of the interrupt times of at most 64 processors is at most 64 times the latest time
pub irq_sum_most : (tick : Tick) (slot : ℕ) → IsIrqEarly tick slot → length (row_at tick slot) ≤ 64 → time_sum (row_at tick slot) irq_place ≤ 64 * last_moment
irq_sum_most tick slot is few =
    let sum = sum_most (row_at tick slot) irq_place tick.at is.irq in
    grind (arith, sum, few, is.moment)

pub irq_total_bound : IrqTotalBound
irq_total_bound cpus lives ticks slot below ordered few =
    let before = no_tick cpus (length lives) in
    let most = irq_sum_most (last_tick before ticks) slot (last_early before ticks slot ordered (first_early cpus (length lives) slot below)) few in
    let total = totals_within cpus lives ticks slot below ordered in
    omega (arith, most, total.irq)
