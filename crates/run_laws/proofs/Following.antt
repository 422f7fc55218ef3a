-- Proofs that each tick of legal events is a valid successor of the previous tick.
use Rattle.std.proofs.Common.{◌≡◌, ℕ, zero, suc, ◌+◌, ◌-◌, ◌<◌, ◌≤◌, ◌==◌, List, [], ◌∷◌, ◌++◌, length, refl, sym, ap, ◌∙◌, subst, arith, ◌⊎◌, ⊎_elim, replicate}
use Rattle.std.specs.Prelude.{if◌then◌else◌, slice_index, slice_index_or}
use Rattle.std.proofs.lemmas.List.{get_or-replicate, get_or_past}
use Rattle.std.proofs.lemmas.List.FromFn.{get_or-map-range_with_len, length-map-range_with_len}
use Rattle.psi_base.specs.declared.event.Event.{Event}
use Rattle.psi_base.specs.declared.event.State.{State}
use Rattle.psi_base.specs.declared.event.State.TheVariants.{IoSome, IoFull, MemSome, MemFull, CpuSome, CpuFull, Nonidle}
use Rattle.psi_spec.specs.Refusal.{AreLegal}
use Rattle.psi_spec.specs.Stall.{irq_time, stall}
use Rattle.psi_spec.specs.World.{Limits, after, first_world, most_cpus, up_to, longest_irq}
use Rattle.psi_spec.specs.Within.{last_moment, longest_tick}
use Rattle.pressure_spec.specs.Share.{irq_place}
use Rattle.pressure_spec.specs.Ticks.{Tick, no_row, row_until, table_until, tick_moment, tick_of, ticks_of, times_until, times_with}
use Rattle.pressure_spec.specs.NextTick.{IsNextTick, last_tick, time_in}
use Rattle.plan_laws.proofs.MomentsIrq.{irq_grows, irq_is_within}
use Rattle.plan_laws.proofs.MomentsStall.{stall_grows, stall_is_within}
use Rattle.run_laws.specs.Ticking.{TicksFollow, before_ticks}
use Rattle.run_laws.proofs.OneMore.{ticks_more}

-- a relation between two times at the same index
abbrev pub Relation : Type 1
Relation = ℕ → ℕ → ℕ → Type 0

-- two lists of times are related at each index, if the times of each state and the interrupt times
-- are, and zeros are at any index beyond
places : (R : Relation) (f g : State → ℕ) (x y : ℕ) → ((place : ℕ) → R place 0 0) → ((place : ℕ) (state : State) → R place (f state) (g state)) → R irq_place x y
    → (place : ℕ) → R place (slice_index (times_with f x) place) (slice_index (times_with g y) place)
places R f g x y none each irq zero = each 0 IoSome
places R f g x y none each irq (suc zero) = each 1 IoFull
places R f g x y none each irq (suc (suc zero)) = each 2 MemSome
places R f g x y none each irq (suc (suc (suc zero))) = each 3 MemFull
places R f g x y none each irq (suc (suc (suc (suc zero)))) = each 4 CpuSome
places R f g x y none each irq (suc (suc (suc (suc (suc zero))))) = each 5 CpuFull
places R f g x y none each irq (suc (suc (suc (suc (suc (suc zero)))))) = each 6 Nonidle
places R f g x y none each irq (suc (suc (suc (suc (suc (suc (suc zero))))))) = irq
places R f g x y none each irq (suc (suc (suc (suc (suc (suc (suc (suc n)))))))) = none _

-- the number of groups that the events create
abbrev slots_in : List Event → ℕ
slots_in events = length (after events).groups

within_or_past : (i n : ℕ) → (i < n) ⊎ (n ≤ i)
within_or_past i n = grind arith

row_in : (cpus : ℕ) (events : List Event) (at slot : ℕ) → slot < slots_in events → slice_index_or (table_until cpus events at) slot [] ≡ row_until cpus slot events at
row_in cpus events at slot below = get_or-map-range_with_len (λ s. row_until cpus s events at) 0 (slots_in events) slot slot [] below (omega arith)

row_past : (cpus : ℕ) (events : List Event) (at slot : ℕ) → slots_in events ≤ slot → slice_index_or (table_until cpus events at) slot [] ≡ []
row_past cpus events at slot past =
    get_or_past (table_until cpus events at) slot [] (let many = length-map-range_with_len (λ s. row_until cpus s events at) 0 (slots_in events) in omega (arith, many, past))

times_in : (cpus cpu slot : ℕ) (events : List Event) (at : ℕ) → cpu < cpus → slice_index_or (row_until cpus slot events at) cpu [] ≡ times_until cpu slot events at
times_in cpus cpu slot events at below = get_or-map-range_with_len (λ c. times_until c slot events at) 0 cpus cpu cpu [] below (omega arith)

times_past : (cpus cpu slot : ℕ) (events : List Event) (at : ℕ) → cpus ≤ cpu → slice_index_or (row_until cpus slot events at) cpu [] ≡ []
times_past cpus cpu slot events at past =
    get_or_past (row_until cpus slot events at) cpu [] (let many = length-map-range_with_len (λ c. times_until c slot events at) 0 cpus in omega (arith, many, past))

-- two tables are related at each index, if the stall times and the interrupt times are
tables : (R : Relation) (cpus : ℕ) (events : List Event) (at later : ℕ) → ((place : ℕ) → R place 0 0)
    → ((place : ℕ) (state : State) (cpu slot : ℕ) → R place (stall state cpu slot (up_to events at) at) (stall state cpu slot (up_to events later) later))
    → ((cpu slot : ℕ) → R irq_place (irq_time cpu slot (up_to events at)) (irq_time cpu slot (up_to events later)))
    → (slot cpu place : ℕ) → R place (time_in (table_until cpus events at) slot cpu place) (time_in (table_until cpus events later) slot cpu place)
tables R cpus events at later none each irq slot cpu place =
    ⊎_elim
    (λ slot_below. ⊎_elim
    (λ cpu_below.
    rw (row_in cpus events at slot slot_below, row_in cpus events later slot slot_below, times_in cpus cpu slot events at cpu_below, times_in cpus cpu slot events later cpu_below)
    (places R _ _ _ _ none (λ place state. each place state cpu slot) (irq cpu slot) place))
    (λ cpu_past.
    rw (row_in cpus events at slot slot_below, row_in cpus events later slot slot_below, times_past cpus cpu slot events at cpu_past, times_past cpus cpu slot events later cpu_past) (none place))
    (within_or_past cpu cpus))
    (λ slot_past. rw (row_past cpus events at slot slot_past, row_past cpus events later slot slot_past) (none place))
    (within_or_past slot (slots_in events))

-- the times when no state has held and no interrupt has been reported
abbrev no_times : List ℕ
no_times = times_with (λ state. 0) 0

replicated : {X : Type 0} → (n : ℕ) (x : X) → length (replicate n x) ≡ n
replicated zero x = refl
replicated (suc n) x = ap suc (replicated n x)

rows_past : (cpus cpu : ℕ) → cpus ≤ cpu → length (no_row cpus) ≤ cpu
rows_past cpus cpu past = let many = replicated cpus no_times in omega (arith, many, past)

all_past : (cpus slots slot : ℕ) → slots ≤ slot → length (replicate slots (no_row cpus)) ≤ slot
all_past cpus slots slot past = let many = replicated slots (no_row cpus) in omega (arith, many, past)

-- before the first tick each time is 0
no_time : (cpus slots slot cpu place : ℕ) → time_in (replicate slots (no_row cpus)) slot cpu place ≡ 0
no_time cpus slots slot cpu place =
    ⊎_elim
    (λ slot_below. ⊎_elim
    (λ cpu_below. rw (get_or-replicate slots slot (no_row cpus) [] slot_below, get_or-replicate cpus cpu no_times [] cpu_below) (places (λ place x y. x ≡ 0) (λ state. 0) (λ state. 0) 0 0 (λ place. refl) (λ place state. refl) refl place))
    (λ cpu_past. rw (get_or-replicate slots slot (no_row cpus) [] slot_below, get_or_past (no_row cpus) cpu [] (rows_past cpus cpu cpu_past)) refl)
    (within_or_past cpu cpus))
    (λ slot_past. rw (get_or_past (replicate slots (no_row cpus)) slot [] (all_past cpus slots slot slot_past)) refl)
    (within_or_past slot slots)

-- the last tick of a list with one more tick appended is that tick
last-push : (before : Tick) (ticks : List Tick) (tick : Tick) → last_tick before (ticks ++ tick ∷ []) ≡ tick
last-push before [] tick = refl
last-push before (first ∷ ticks) tick = last-push first ticks tick

-- each total up to a time is at most that time
within_moment : (limits : Limits) (cpus : ℕ) (events : List Event) → AreLegal limits first_world events → limits.cpus ≤ most_cpus
    → (at slot cpu place : ℕ) → time_in (table_until cpus events at) slot cpu place ≤ at
within_moment limits cpus events legal few at =
    tables (λ place x y. y ≤ at) cpus events at at (λ place. omega arith) (λ place state cpu slot. stall_is_within limits events legal state cpu slot at)
    (λ cpu slot. irq_is_within limits events legal few cpu slot at)

-- the first tick is a valid successor of the state at time 0
first_follows : (limits : Limits) (cpus : ℕ) (events : List Event) (length : ℕ) → AreLegal limits first_world events → limits.cpus ≤ most_cpus
    → 0 < length → length ≤ longest_tick → tick_moment length 1 ≤ last_moment → IsNextTick (before_ticks cpus events) (tick_of cpus events length 1)
first_follows limits cpus events length legal few some short early =
    let at = tick_moment length 1 in
    let none = no_time cpus (slots_in events) in
    let most = within_moment limits cpus events legal few at in
    record {
      later = omega (arith, some);
      soon = omega (arith, short);
      early = early;
      kept = λ slot cpu place. rw (none slot cpu place) (omega arith);
      grown = λ slot cpu place below. let within = most slot cpu place in rw (none slot cpu place) (omega (arith, within));
      irq_grown = λ slot cpu. let within = most slot cpu irq_place in rw (none slot cpu irq_place) (omega (arith, within));
      irq_early = λ slot cpu. most slot cpu irq_place;
    }

-- by how much (ns) the growth of a time may exceed the interval
abbrev slack : ℕ → ℕ
slack place = if place == irq_place then longest_irq else 0

no_slack : (place : ℕ) → place < irq_place → slack place ≡ 0
no_slack place below = grind arith

-- each later tick is a valid successor of the previous tick
later_follows : (limits : Limits) (cpus : ℕ) (events : List Event) (length i : ℕ) → AreLegal limits first_world events → limits.cpus ≤ most_cpus
    → 0 < length → length ≤ longest_tick → tick_moment length (i + 1) ≤ last_moment → IsNextTick (tick_of cpus events length i) (tick_of cpus events length (i + 1))
later_follows limits cpus events length i legal few some short early =
    let at = tick_moment length i in
    let next = tick_moment length (i + 1) in
    let apart : next ≡ at + length = grind arith in
    let forward : at ≤ next = omega (arith, apart) in
    let grown : (slot cpu place : ℕ) → time_in (table_until cpus events next) slot cpu place ≤ time_in (table_until cpus events at) slot cpu place + (next - at) + slack place =
    tables (λ place x y. y ≤ x + (next - at) + slack place) cpus events at next (λ place. omega arith)
    (λ place state cpu slot. let most = (stall_grows limits events legal state cpu slot at next forward).1 in omega (arith, most))
    (λ cpu slot. (irq_grows limits events legal few cpu slot at next forward).1) in
    record {
      later = omega (arith, apart, some);
      soon = omega (arith, apart, short);
      early = early;
      kept = tables (λ place x y. x ≤ y) cpus events at next (λ place. omega arith) (λ place state cpu slot. (stall_grows limits events legal state cpu slot at next forward).0)
          (λ cpu slot. (irq_grows limits events legal few cpu slot at next forward).0);
      grown = λ slot cpu place below. let most = grown slot cpu place in omega (arith, most, no_slack place below);
      irq_grown = λ slot cpu. grown slot cpu irq_place;
      irq_early = λ slot cpu. within_moment limits cpus events legal few next slot cpu irq_place;
    }

none_yet : (cpus : ℕ) (events : List Event) (length : ℕ) → last_tick (before_ticks cpus events) (ticks_of cpus events length 0) ≡ before_ticks cpus events
unfolding ticks_of
none_yet cpus events length = refl

pub ticks_follow : TicksFollow
ticks_follow limits cpus events length zero legal few some short early = rw (none_yet cpus events length) (first_follows limits cpus events length legal few some short early)
ticks_follow limits cpus events length (suc i) legal few some short early =
    let next : suc i ≡ i + 1 = omega arith in
    let last = ap (λ n. last_tick (before_ticks cpus events) (ticks_of cpus events length n)) next ∙ ap (last_tick (before_ticks cpus events)) (ticks_more cpus events length i) ∙ last-push (before_ticks cpus events) (ticks_of cpus events length i) (tick_of cpus events length (i + 1)) in
    let whole = subst (λ n. IsNextTick (tick_of cpus events length n) (tick_of cpus events length (suc i + 1))) next (later_follows limits cpus events length (suc i) legal few some short early) in
    subst (λ tick. IsNextTick tick (tick_of cpus events length (suc i + 1))) (sym last) whole
