-- Proves that the readings of a trace are well formed: the groups are in range and in the order of
-- their paths, and each reading is later than the previous readings.
use Rattle.std.proofs.Common.{◌≡◌, ℕ, zero, suc, ◌+◌, ◌<◌, ◌≤◌, ◌^◌, List, [], ◌∷◌, ◌++◌}
use Rattle.std.proofs.Common.{length, map, get_or, refl, sym, ap, subst, ◌∙◌, arith}
use Rattle.std.proofs.Common.{Bool, true, false, cond}
use Rattle.std.specs.Prelude.{◌==◌, filter, if◌then◌else◌, slice_index_or}
use Rattle.std.specs.List.{AllByRecursion}
use Rattle.std.specs.Cmp.Lexicographic.{slice_cmp}
use Rattle.std.specs.Ordering.{nat_cmp}
use Rattle.std.specs.declared.cmp.Ordering.TheVariants.{Less, Equal, Greater}
use Rattle.std.specs.FinMap as fin
use Rattle.std.specs.FinMap.Entries.{by_order, put}
use Rattle.std.proofs.lemmas.List.{get_or-map, get_or-take, length-take-le}
use Rattle.std.proofs.lemmas.List.Elements.{All-from_recursion, All-take}
use Rattle.psi_base.specs.declared.event.Act.{Act}
use Rattle.psi_base.specs.declared.event.Act.TheVariants as act
use Rattle.psi_base.specs.declared.event.Event.{Event}
use Rattle.psi_spec.specs.declared.machine.GroupLife.{GroupLife}
use Rattle.psi_spec.specs.Grammar.{ActFits, Fits}
use Rattle.psi_spec.specs.Groups.{in_order, live_from, live_groups, path_at}
use Rattle.psi_spec.specs.Refusal.{AreLegal}
use Rattle.psi_spec.specs.Collected.{slot_named, values_from}
use Rattle.psi_spec.specs.Trace.{AllFit, IsAccepted, Trace, limits_of}
use Rattle.psi_spec.specs.World.{Limits, World, after, after_event, first_world, is_live, up_to}
use Rattle.plan_laws.specs.Moments.{AreFirstOf}
use Rattle.plan_laws.proofs.MomentsLives.{groups_keep_slots}
use Rattle.pressure_spec.specs.Within.{IsRow}
use Rattle.pressure_spec.specs.Samples.{group_averages}
use Rattle.pressure_spec.specs.Share.{irq_quantity}
use Rattle.pressure_spec.specs.Ticks.{is_evaluation, tick_moment, ticks_of}
use Rattle.pressure_spec.proofs.SampleLaws.{group_averages_are}
use Rattle.kill_spec.specs.declared.reading.GroupReading.{GroupReading}
use Rattle.kill_spec.specs.LegalReadings.{Ascend, AreReadings, IsGroupReading, IsHostReading}
use Rattle.kill_spec.specs.Readings.{Reading, no_host, path_of}
use Rattle.kill_spec.specs.LegalReadings.{IsLater, IsReading}
use Rattle.kill_spec.specs.Evaluations.{MemorySample, averages_at, evaluations, group_seen}
use Rattle.kill_spec.specs.Evaluations.{host_of, host_known, last_or, memory_of, memory_known}
use Rattle.kill_spec.specs.Evaluations.{no_memory_sample, reading_at, readings_until}
use Rattle.run_spec.specs.Replay.{Timing, lives_of}
use Rattle.detectors.specs.Views.{IsAfter}
use Rattle.detectors.specs.Stands.{newest_moment}
use Rattle.replay_rules.specs.Judged.{readings_of}
use Rattle.replay_rules.specs.Laws.{ReadingsAreReadings}
use Rattle.replay_rules.proofs.SeenLaws.{in_order_sorted, keys_ascend}
use Rattle.replay_rules.proofs.ReadLaws.{last_before}

-- ---- values that events show

both_all : {A : Type 0} → (P : A → Type 0) (xs ys : List A) → AllByRecursion P xs →
    AllByRecursion P ys → AllByRecursion P (xs ++ ys)
both_all P [] ys all more = more
both_all P (x ∷ xs) ys all more = (all.0, both_all P xs ys all.1 more)

-- If each event reports only values with the property `P`, all events together report only such
-- values.
known_holds : {A : Type 0} → (P : A → Type 0) (shows : World → Event → List A) →
    ((w : World) (event : Event) → Fits event → AllByRecursion P (shows w event)) →
    (w : World) (events : List Event) → AllFit events →
    AllByRecursion P (values_from shows w events)
known_holds P shows each w [] fit = tt
known_holds P shows each w (event ∷ events) fit =
    both_all P (shows w event) (values_from shows (after_event w event) events)
    (each w event fit.0) (known_holds P shows each (after_event w event) events fit.1)

last_holds : {A : Type 0} → (P : A → Type 0) (x : A) (xs : List A) → P x → AllByRecursion P xs →
    P (last_or x xs)
last_holds P x [] is all = is
last_holds P x (y ∷ ys) is all = last_holds P y ys all.0 all.1

alone_where : {A : Type 0} → (P : A → Type 0) (x : A) (b : Bool) → P x →
    AllByRecursion P (if b then x ∷ [] else [])
alone_where P x true is = (is, tt)
alone_where P x false is = tt

-- A selection of well-formed events has only well-formed events.
fit_filter : (test : Event → Bool) (events : List Event) → AllFit events →
    AllFit (filter test events)
fit_filter test [] fit = tt
fit_filter test (event ∷ events) fit =
    let rest = fit_filter test events fit.1 in
    elim (test event) as (λ b. AllFit (cond b (event ∷ filter test events) (filter test events))) [
      | true ↦ (fit.0, rest)
      | false ↦ rest
    ]

-- ---- samples

abbrev IsSmallSample : MemorySample → Type 0
IsSmallSample m = (m.current ≤ 2 ^ 60) × (m.swap ≤ 2 ^ 60) × (m.scan ≤ 2 ^ 60)

memory_fits : (slot : ℕ) (groups : List GroupLife) (a : Act) → ActFits a →
    AllByRecursion IsSmallSample (memory_known slot groups a)
memory_fits slot groups (act.Group path) fits = tt
memory_fits slot groups (act.Mem path current swap scan) fits =
    alone_where IsSmallSample (record { current = current; swap = swap; scan = scan })
    ((slot_named groups path).0 == slot) (fits.1.0, fits.1.1.0, fits.1.1.1.0)
memory_fits slot groups _ fits = tt

memory_small : (slot : ℕ) (events : List Event) → AllFit events →
    IsSmallSample (memory_of slot events)
memory_small slot events fit =
    last_holds IsSmallSample no_memory_sample _ (omega arith, omega arith, omega arith)
    (known_holds IsSmallSample
    (λ (w : World) (event : Event). memory_known slot w.groups event.act)
    (λ w event fits. memory_fits slot w.groups event.act fits.act) first_world events fit)

host_fits : (a : Act) → ActFits a → AllByRecursion IsHostReading (host_known a)
host_fits (act.Group path) fits = tt
host_fits (act.Host mem_total swap_total swap_free) fits =
    (record { mem_total = fits.0; swap_total = fits.1.0; swap_free = fits.1.1.0 }, tt)
host_fits _ fits = tt

host_small : (events : List Event) → AllFit events → IsHostReading (host_of events)
host_small events fit =
    last_holds IsHostReading no_host _
    (record { mem_total = omega arith; swap_total = omega arith; swap_free = omega arith })
    (known_holds IsHostReading (λ (w : World) (event : Event). host_known event.act)
    (λ w event fits. host_fits event.act fits.act) first_world events fit)

-- ---- live groups

-- The path and the slot of the pair belong to the same existing group.
abbrev IsPartIn : List GroupLife → List ℕ × ℕ → Type 0
IsPartIn lives pair = (pair.1 < length lives) × (path_at lives pair.1 ≡ pair.0)

put_keeps : (lives : List GroupLife) (path : List ℕ) (slot : ℕ) (pairs : List (List ℕ × ℕ)) →
    IsPartIn lives (path, slot) → AllByRecursion (IsPartIn lives) pairs →
    AllByRecursion (IsPartIn lives) (put (slice_cmp nat_cmp) path slot pairs)
put_keeps lives path slot [] one all = (one, tt)
put_keeps lives path slot (pair ∷ pairs) one all =
    let rest = put_keeps lives path slot pairs one all.1 in
    elim (slice_cmp nat_cmp path pair.0) as (λ o. slice_cmp nat_cmp path pair.0 ≡ o →
    AllByRecursion (IsPartIn lives)
    (by_order o ((path, slot) ∷ pair ∷ pairs) ((pair.0, slot) ∷ pairs)
    (pair ∷ put (slice_cmp nat_cmp) path slot pairs))) [
      | Less ↦ λ _. (one, all)
      | Equal ↦ λ is.
          let same = fin.slice_cmp-IsAntisymmetric fin.nat_cmp-IsAntisymmetric path pair.0 is in
          ((one.0, one.1 ∙ same), all.1)
      | Greater ↦ λ _. (all.0, rest)
    ] refl

in_order_keeps : (lives : List GroupLife) (pairs : List (List ℕ × ℕ)) →
    AllByRecursion (IsPartIn lives) pairs → AllByRecursion (IsPartIn lives) (in_order pairs)
in_order_keeps lives [] all = tt
in_order_keeps lives (pair ∷ pairs) all =
    put_keeps lives pair.0 pair.1 (in_order pairs) all.0 (in_order_keeps lives pairs all.1)

-- The listed groups are in the list of all groups at consecutive slots, starting at the slot
-- `from`.
abbrev ArePlaced : List GroupLife → ℕ → List GroupLife → Type 0
ArePlaced lives from groups = (k : ℕ) (d : GroupLife) → k < length groups →
    IsPartIn lives ((get_or groups k d).path, from + k)

live_placed : (lives : List GroupLife) (from : ℕ) (groups : List GroupLife) →
    ArePlaced lives from groups → AllByRecursion (IsPartIn lives) (live_from from groups)
live_placed lives from [] placed = tt
live_placed lives from (group ∷ groups) placed =
    let here : from + 0 ≡ from = omega arith in
    let one = subst (λ s. IsPartIn lives (group.path, s)) here (placed 0 group (omega arith)) in
    let later : ArePlaced lives (from + 1) groups = λ k d room.
    let place : from + suc k ≡ from + 1 + k = omega arith in
    subst (λ s. IsPartIn lives ((get_or groups k d).path, s)) place
    (placed (suc k) d (omega (arith, room))) in
    let rest = live_placed lives (from + 1) groups later in
    elim (is_live group) as (λ b. AllByRecursion (IsPartIn lives)
    (if b then (group.path, from) ∷ live_from (from + 1) groups
    else live_from (from + 1) groups)) [
      | true ↦ (one, rest)
      | false ↦ rest
    ]

-- The groups that are live at a time are existing groups.
live_represent : (limits : Limits) (events : List Event) → AreLegal limits first_world events →
    (at : ℕ) → AllByRecursion (IsPartIn (after events).groups)
    (live_groups (after (up_to events at)).groups)
live_represent limits events legal at =
    let all : List GroupLife = (after events).groups in
    let now : List GroupLife = (after (up_to events at)).groups in
    let kept : AreFirstOf all now = groups_keep_slots limits events legal at in
    let path : GroupLife → List ℕ = λ (life : GroupLife). life.path in
    let placed : ArePlaced all 0 now = λ k d room.
    let first : 0 + k ≡ k = omega arith in
    let within : k < length all = omega (arith, room, kept.few) in
    let same : path_at now k ≡ path_at all k =
    ap (λ paths. slice_index_or paths k []) kept.paths
    ∙ get_or-take (length now) (map path all) k [] room in
    subst (λ s. IsPartIn all ((get_or now k d).path, s)) (sym first)
    (within, sym same ∙ get_or-map path now k d [] room) in
    in_order_keeps all (live_from 0 now) (live_placed all 0 now placed)

-- ---- one reading

groups_fit : (lives : List GroupLife) (f : List ℕ × ℕ → GroupReading) →
    ((pair : List ℕ × ℕ) → IsPartIn lives pair → IsGroupReading (length lives) (f pair)) →
    (pairs : List (List ℕ × ℕ)) → AllByRecursion (IsPartIn lives) pairs →
    AllByRecursion (IsGroupReading (length lives)) (map f pairs)
groups_fit lives f fits [] all = tt
groups_fit lives f fits (pair ∷ pairs) all =
    (fits pair all.0, groups_fit lives f fits pairs all.1)

paths_are : (lives : List GroupLife) (events : List Event) (averages : ℕ → List (List ℕ))
    (pairs : List (List ℕ × ℕ)) → AllByRecursion (IsPartIn lives) pairs →
    map (λ (pair : List ℕ × ℕ). pair.0) pairs
    ≡ map (path_of lives)
    (map (λ (pair : List ℕ × ℕ). group_seen events (averages pair.1) pair.1) pairs)
paths_are lives events averages [] all = refl
paths_are lives events averages (pair ∷ pairs) all =
    ap (λ path. path ∷ map (λ (p : List ℕ × ℕ). p.0) pairs) (sym all.0.1)
    ∙ ap (λ paths. path_at lives pair.1 ∷ paths) (paths_are lives events averages pairs all.1)

is_reading : (trace : Trace) (timing : Timing) (i : ℕ) →
    IsAccepted (limits_of timing.length trace.cpus) trace.events →
    IsReading (lives_of trace) (reading_at trace.cpus trace.events timing.length i)
unfolding reading_at
is_reading trace timing i accepted =
    let at : ℕ = tick_moment timing.length i in
    let lives : List GroupLife = lives_of trace in
    let seen : List Event = up_to trace.events at in
    let fit : AllFit seen = fit_filter _ trace.events accepted.fit in
    let live : List (List ℕ × ℕ) = live_groups (after seen).groups in
    let represents = live_represent (limits_of timing.length trace.cpus) trace.events accepted.legal at in
    let averages : ℕ → List (List ℕ) = averages_at trace.cpus trace.events timing.length i in
    let known : List ℕ × ℕ → GroupReading =
    λ (pair : List ℕ × ℕ). group_seen seen (averages pair.1) pair.1 in
    let ticks = ticks_of trace.cpus trace.events timing.length i in
    let fits : (pair : List ℕ × ℕ) → IsPartIn lives pair →
    IsGroupReading (length lives) (known pair) = λ pair stands.
    let small = memory_small pair.1 seen fit in
    let state = group_averages_are trace.cpus lives ticks pair.1 in
    let rows = (group_averages trace.cpus lives ticks pair.1).averages in
    record {
      slot = stands.0;
      current = small.0;
      swap = small.1;
      scan = small.2;
      rows = length-take-le irq_quantity rows (omega (arith, state.rows));
      each = All-take IsRow irq_quantity rows state.each;
    } in
    let ascend = keys_ascend live (in_order_sorted (live_from 0 (after seen).groups)) in
    record {
      host = host_small seen fit;
      each = All-from_recursion _ (map known live) (groups_fit lives known fits live represents);
      order = subst Ascend (paths_are lives seen averages live represents) ascend;
    }

-- ---- one reading after another

later_than : (now : Reading) (past : List Reading) → IsAfter (newest_moment past) now.at →
    IsLater now past
later_than now [] after_all = tt
later_than now (before ∷ past) after_all = after_all

comes_later : (trace : Trace) (timing : Timing) (i : ℕ) → 0 < timing.length →
    IsLater (reading_at trace.cpus trace.events timing.length (suc i)) (readings_of trace timing i)
unfolding reading_at
comes_later trace timing i some =
    let now : ℕ = tick_moment timing.length (suc i) in
    let late : tick_moment timing.length i < now = omega (arith, some) in
    later_than (reading_at trace.cpus trace.events timing.length (suc i)) (readings_of trace timing i)
    (last_before trace timing i now late)

pub readings_are_readings : ReadingsAreReadings
unfolding readings_until
readings_are_readings trace timing zero accepted some = tt
readings_are_readings trace timing (suc i) accepted some =
    let rest = readings_are_readings trace timing i accepted some in
    let one = is_reading trace timing (suc i) accepted in
    let later = comes_later trace timing i some in
    let read : List ℕ → List Reading =
    λ numbers. map (reading_at trace.cpus trace.events timing.length) numbers in
    elim (is_evaluation timing.interval timing.length (suc i)) as (λ b. AreReadings (lives_of trace)
    (read (if b then suc i ∷ evaluations timing.interval timing.length i
    else evaluations timing.interval timing.length i))) [
      | true ↦ (one, later, rest)
      | false ↦ rest
    ]
