-- Proves that the reading taken at an evaluation is the reading of the trace at that tick.
use Rattle.std.proofs.Common.{◌≡◌, ℕ, zero, suc, ◌+◌, ◌<◌, List, [], ◌∷◌, length, map, refl, sym}
use Rattle.std.proofs.Common.{ap, subst, ◌∙◌, arith, Bool, true, false}
use Rattle.std.specs.Prelude.{take, All, Option, None, Some, if◌then◌else◌}
use Rattle.std.specs.List.{range_with_len}
use Rattle.std.proofs.lemmas.List.{get_or-map, length-map}
use Rattle.std.proofs.lemmas.List.Elements.{All-filter}
use Rattle.std.proofs.lemmas.List.FromFn.{get_or-range_with_len, length-range_with_len}
use Rattle.std.proofs.lemmas.List.Sorted.{All-permutation}
use Rattle.psi_base.specs.declared.event.Event.{Event}
use Rattle.psi_base.specs.declared.event.Preference.{Preference}
use Rattle.psi_base.specs.declared.event.Slot.{Slot}
use Rattle.psi_spec.specs.declared.machine.GroupLife.{GroupLife}
use Rattle.psi_spec.specs.Groups.{live_groups}
use Rattle.psi_spec.specs.LegalGroups.{IsPathOrder}
use Rattle.psi_spec.specs.Trace.{Trace, limits_of}
use Rattle.psi_spec.specs.World.{after, up_to}
use Rattle.plan_laws.specs.Moments.{is_live_slot, with_path}
use Rattle.plan_laws.proofs.MomentsOrder.{order_shows_live}
use Rattle.pressure_spec.specs.Samples.{group_averages}
use Rattle.pressure_spec.specs.Share.{irq_quantity}
use Rattle.pressure_spec.specs.Ticks.{is_evaluation, tick_moment, ticks_of}
use Rattle.pressure_spec.proofs.SampleLaws.{group_averages_are}
use Rattle.ruleset_json.specs.declared.types.Rule.{Rule}
use Rattle.kill_spec.specs.declared.reading.GroupReading.{GroupReading}
use Rattle.kill_spec.specs.Readings.{Reading}
use Rattle.kill_spec.specs.Evaluations.{MemorySample, averages_at, evaluations, group_seen}
use Rattle.kill_spec.specs.Evaluations.{memory_of, preference_of, reading_at, readings_until}
use Rattle.run_spec.specs.Replay.{Timing, lives_of}
use Rattle.proc_plan.specs.Plans.{PlansView}
use Rattle.tick_engine.specs.Engine.{EngineView, averages_in}
use Rattle.tick_engine.specs.declared.group.Group.{Group}
use Rattle.detectors.specs.Views.{IsAfter, ReadingView, reading_of}
use Rattle.detectors.specs.Stands.{newest_moment}
use Rattle.kill_engine.specs.Killers.{KillerTakes}
use Rattle.side_watch.specs.Sides.{side_sample}
use Rattle.side_watch.specs.Watch.{Advances, HasFollowed, IsNotAfter, SideView, has_tasks, side_cell_at}
use Rattle.group_tree.specs.Tree.{numbers_of}
use Rattle.replay_rules.specs.Planned.{HasTicked, IsPlanned}
use Rattle.replay_rules.specs.Seen.{HasRows, group_by, groups_by, reading_by, slots_live_at}
use Rattle.replay_rules.specs.Judged.{EvaluatorView, HasRead, IsToEvaluate, readings_of}

-- ---- slots of an order

-- Each number in the range from 0 to n is below n.
range_below : (n : ℕ) → All (λ k. k < n) (range_with_len 0 n)
range_below n = λ k d below.
    let inside : k < n = omega (arith, below, length-range_with_len 0 n) in
    omega (arith, inside, get_or-range_with_len 0 n k d inside)

-- A path order of all slots has only existing slots.
pub order_below : (lives : List GroupLife) (order : List ℕ) → IsPathOrder lives order →
    All (λ slot. slot < length lives) order
order_below lives order is =
    All-permutation (λ slot. slot < length lives) (range_with_len 0 (length lives)) order is.each
    (range_below (length lives))

slots_below : (n : ℕ) (slots : List Slot) → All (λ slot. slot < n) (numbers_of slots) →
    All (λ (slot : Slot). slot.0 < n) slots
slots_below n slots all = λ k d below.
    let number : Slot → ℕ = λ (slot : Slot). slot.0 in
    subst (λ s. s < n) (get_or-map number slots k d 0 below)
    (all k 0 (omega (arith, below, length-map slots number)))

-- A path order of all slots, given as values of type `Slot`, has only existing slots.
pub order_made : (lives : List GroupLife) (slots : List Slot) →
    IsPathOrder lives (numbers_of slots) →
    All (λ (slot : Slot). slot.0 < length lives) slots
order_made lives slots is =
    slots_below (length lives) slots (order_below lives (numbers_of slots) is)

-- ---- averages

-- An engine has the averages of each group after the ticks that it represents.
averages_are : (engine : EngineView) (trace : Trace) (timing : Timing) (i slot : ℕ) →
    HasTicked engine trace timing i → slot < length (lives_of trace) →
    averages_in engine slot
    ≡ group_averages trace.cpus (lives_of trace) (ticks_of trace.cpus trace.events timing.length i)
    slot
averages_are engine trace timing i slot ticked room =
    ap (λ (g : Group). g.averages) (ticked.groups slot room)

-- The engine has averages for each pressure quantity.
pub has_rows : (engine : EngineView) (trace : Trace) (timing : Timing) (i slot : ℕ) →
    HasTicked engine trace timing i → slot < length engine.groups → HasRows engine slot
has_rows engine trace timing i slot ticked room =
    let ticks = ticks_of trace.cpus trace.events timing.length i in
    let within : slot < length (lives_of trace) = omega (arith, room, ticked.slots) in
    rw (averages_are engine trace timing i slot ticked within)
    (group_averages_are trace.cpus (lives_of trace) ticks slot).rows

-- ---- groups

-- The reading of a group with these averages, this memory sample, this preference and this flag for
-- tasks.
abbrev group_with : ℕ → List (List ℕ) → MemorySample → Preference → Bool → GroupReading
group_with slot averages memory preference populated = record {
  slot = record { 0 = slot };
  averages = averages;
  current = memory.current;
  swap = memory.swap;
  scan = memory.scan;
  preference = preference;
  populated = populated;
}

-- The reading of a group at tick `i`, as the trace defines it.
abbrev group_known : Trace → Timing → ℕ → ℕ → GroupReading
group_known trace timing i slot =
    group_seen (up_to trace.events (tick_moment timing.length i))
    (averages_at trace.cpus trace.events timing.length i slot) slot

-- After a tick, the engine and the watch give the reading of a group that the trace defines.
group_is : (engine : EngineView) (watch : SideView) (trace : Trace) (timing : Timing) (i slot : ℕ) →
    HasTicked engine trace timing i →
    HasFollowed trace.events (Some (tick_moment timing.length i)) watch →
    slot < length (lives_of trace) → group_by engine watch slot ≡ group_known trace timing i slot
group_is engine watch trace timing i slot ticked watching room =
    let averages = ap (λ a. take irq_quantity a.averages) (averages_are engine trace timing i slot ticked room) in
    ap (λ a. group_with slot a (side_sample (side_cell_at watch slot).memory)
    (side_cell_at watch slot).preference (has_tasks watch slot)) averages
    ∙ ap (λ m. group_with slot (averages_at trace.cpus trace.events timing.length i slot) m
    (side_cell_at watch slot).preference (has_tasks watch slot)) (watching.memory slot room)
    ∙ ap (λ p. group_with slot (averages_at trace.cpus trace.events timing.length i slot)
    (memory_of slot (up_to trace.events (tick_moment timing.length i))) p (has_tasks watch slot))
    (watching.preference slot room)
    ∙ ap (λ b. group_with slot (averages_at trace.cpus trace.events timing.length i slot)
    (memory_of slot (up_to trace.events (tick_moment timing.length i)))
    (preference_of slot (up_to trace.events (tick_moment timing.length i))) b)
    (watching.populated slot room)

-- Two functions that agree on existing slots give the same list for existing slots.
groups_are : (f g : ℕ → GroupReading) (n : ℕ) → ((slot : ℕ) → slot < n → f slot ≡ g slot) →
    (lives : List GroupLife) (slots : List ℕ) → All (λ slot. slot < n) slots →
    map f slots ≡ map (λ (group : List ℕ × ℕ). g group.1) (map (with_path lives) slots)
groups_are f g n same lives [] below = refl
groups_are f g n same lives (slot ∷ slots) below =
    let first : slot < n = below 0 slot (omega arith) in
    let rest = groups_are f g n same lives slots
    (λ k d inside. below (suc k) d (omega (arith, inside))) in
    ap (λ group. group ∷ map f slots) (same slot first) ∙ ap (λ groups. g slot ∷ groups) rest

-- ---- the reading

-- The reading made from a path order of all slots is the reading of the trace.
pub reading_is : (engine : EngineView) (watch : SideView) (plans : PlansView) (order : List ℕ)
    (trace : Trace) (timing : Timing) (i : ℕ) →
    IsPlanned plans trace timing → HasTicked engine trace timing i →
    HasFollowed trace.events (Some (tick_moment timing.length i)) watch →
    IsPathOrder (lives_of trace) order →
    reading_by engine watch (lives_of trace) (tick_moment timing.length i) order
    ≡ reading_at trace.cpus trace.events timing.length i
unfolding reading_at
reading_is engine watch plans order trace timing i planned ticked watching by_path =
    let at : ℕ = tick_moment timing.length i in
    let lives : List GroupLife = lives_of trace in
    let limits = limits_of timing.length trace.cpus in
    let below = All-filter (is_live_slot lives at) (λ slot. slot < length lives) order
    (order_below lives order by_path) in
    let known : List ℕ × ℕ → GroupReading =
    λ (group : List ℕ × ℕ). group_known trace timing i group.1 in
    let groups : groups_by engine watch lives at order
    ≡ map known (live_groups (after (up_to trace.events at)).groups) =
    groups_are (group_by engine watch) (group_known trace timing i) (length lives)
    (λ slot room. group_is engine watch trace timing i slot ticked watching room) lives
    (slots_live_at lives at order) below
    ∙ ap (map known) (sym
    (order_shows_live limits trace.events planned.accepted.legal order by_path at)) in
    rw (groups, watching.host) refl

-- ---- times

-- The last evaluation among the first `i` ticks is earlier than each time after tick `i`.
pub last_before : (trace : Trace) (timing : Timing) (i at : ℕ) → tick_moment timing.length i < at →
    IsAfter (newest_moment (readings_of trace timing i)) at
unfolding readings_until reading_at
last_before trace timing zero at late = tt
last_before trace timing (suc i) at late =
    let earlier : tick_moment timing.length i < at = omega (arith, late) in
    let rest = last_before trace timing i at earlier in
    elim (is_evaluation timing.interval timing.length (suc i)) as (λ b. IsAfter
    (newest_moment (map (reading_at trace.cpus trace.events timing.length)
    (if b then suc i ∷ evaluations timing.interval timing.length i else evaluations timing.interval
    timing.length i))) at) [
      | true ↦ late
      | false ↦ rest
    ]

not_after : (last : Option ℕ) (at : ℕ) → IsAfter last at → IsNotAfter last at
not_after None at is = tt
not_after (Some before) at is = omega (arith, is)

-- A tick is later than all evaluations among the previous ticks.
pub suffix : (plans : PlansView) (trace : Trace) (timing : Timing) (i : ℕ) →
    IsPlanned plans trace timing →
    IsAfter (newest_moment (readings_of trace timing i)) (tick_moment timing.length (i + 1))
suffix plans trace timing i planned =
    last_before trace timing i (tick_moment timing.length (i + 1)) (omega (arith, planned.some))

-- ---- one evaluation

last_is : (cpus : ℕ) (events : List Event) (length i : ℕ) (past : List Reading) →
    newest_moment (reading_at cpus events length i ∷ past) ≡ Some (tick_moment length i)
unfolding reading_at
last_is cpus events length i past = refl

-- An evaluator has taken one more reading if its watch and its killer have taken it, and if the
-- reading is made from the engine and the watch.
pub read_next : (old new : EvaluatorView) (plans : PlansView) (engine : EngineView)
    (order : List Slot) (trace : Trace) (timing : Timing) (rules : List Rule) (i at : ℕ) →
    IsToEvaluate old plans engine order trace timing rules i at →
    Advances old.watch new.watch plans.sides at →
    new.reading ≡ reading_of old.reading.lives
    (reading_by engine new.watch old.reading.lives at (numbers_of order)) →
    KillerTakes old.killer new.reading new.killer →
    HasRead new trace rules (reading_at trace.cpus trace.events timing.length (i + 1) ∷ readings_of
    trace timing i)
read_next old new plans engine order trace timing rules i at is advances filled takes =
    let now : ℕ = tick_moment timing.length (i + 1) in
    let past : List Reading = readings_of trace timing i in
    let this : Reading = reading_at trace.cpus trace.events timing.length (i + 1) in
    let legal = is.planned.accepted.legal in
    let before = not_after (newest_moment past) now (suffix plans trace timing i is.planned) in
    let watching : HasFollowed trace.events (Some now) new.watch =
    subst (λ t. HasFollowed trace.events (Some t) new.watch) is.at_is
    (advances (limits_of timing.length trace.cpus) trace.events (newest_moment past) legal
    is.planned.represents.sides (subst (IsNotAfter (newest_moment past)) (sym is.at_is) before)
    is.read.watch) in
    let by_path : IsPathOrder (lives_of trace) (numbers_of order) =
    subst (λ lives. IsPathOrder lives (numbers_of order)) is.planned.represents.lives is.by_path in
    let seen = reading_is engine new.watch plans (numbers_of order) trace timing (i + 1) is.planned
    is.ticked watching by_path in
    let reading : new.reading ≡ reading_of (lives_of trace) this =
    filled ∙ ap (λ lives. reading_of lives
    (reading_by engine new.watch lives at (numbers_of order))) is.read.lives
    ∙ ap (λ t. reading_of (lives_of trace)
    (reading_by engine new.watch (lives_of trace) t (numbers_of order))) is.at_is
    ∙ ap (reading_of (lives_of trace)) seen in
    let taken : KillerTakes old.killer (reading_of (lives_of trace) this) new.killer =
    subst (λ r. KillerTakes old.killer r new.killer) reading takes in
    record {
      killer = taken rules past is.read.killer;
      watch = subst (λ m. HasFollowed trace.events m new.watch)
          (sym (last_is trace.cpus trace.events timing.length (i + 1) past)) watching;
      lives = ap (λ (r : ReadingView). r.lives) reading;
    }
