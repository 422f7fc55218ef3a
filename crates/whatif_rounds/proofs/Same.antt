-- Proves which parts a trace shares with the trace from which the tasks of a group are removed: the
-- events up to the cut, the groups, the triggers and the end.
use Rattle.std.proofs.Common.{◌≡◌, ℕ, ◌+◌, ◌≤◌, ◌<◌, List, [], ◌∷◌, ◌++◌, refl, ap, ◌∙◌, sym, subst, arith, append_assoc, cond, Bool, true, false, Option, None, Some, length}
use Rattle.std.specs.Prelude.{if◌then◌else◌, nat_le, nat_lt, not}
use Rattle.std.proofs.lemmas.Bool.Decides.{nat_tests}
use Rattle.std.proofs.lemmas.List.{append-nil}
use Rattle.psi_base.specs.declared.event.Act.{Act}
use Rattle.psi_base.specs.declared.event.Act.TheVariants as act
use Rattle.psi_base.specs.declared.event.Cpu.{Cpu}
use Rattle.psi_base.specs.declared.event.Event.{Event}
use Rattle.psi_base.specs.declared.event.How.{How}
use Rattle.psi_base.specs.declared.event.How.TheVariants.{Idle}
use Rattle.psi_base.specs.declared.event.Pid.{Pid}
use Rattle.psi_base.specs.declared.event.TriggerSpec.{TriggerSpec}
use Rattle.psi_spec.specs.declared.machine.GroupLife.{GroupLife}
use Rattle.psi_spec.specs.declared.machine.Task.{Task}
use Rattle.psi_spec.specs.Refusal.{AreLegal}
use Rattle.psi_spec.specs.Collected.{values_from, trigger_by, triggers_of}
use Rattle.psi_spec.specs.Trace.{EndsLast, IsAccepted}
use Rattle.psi_spec.specs.World.{Limits, World, after, after_event, after_from, first_world, groups_after, is_active, is_running, running_on, task_of, up_to, events_at}
use Rattle.psi_spec.proofs.Following.{after_from-append}
use Rattle.whatif_spec.specs.Without.{act_without, acts_if, suffix, dead_after, exit_acts, exit_of, exits_from, if_alive, is_alive, is_pid_among, making_room, pid_part, rest_without, switch_without, without}
use Rattle.whatif_trace.proofs.Resting.{Begins, in_time}
use Rattle.whatif_trace.proofs.Together.{Holds, IsCut, cut_at, cut_world, dead_of, end_at, exits_of, holds, rest_of, three_parts}
use Rattle.whatif_trace.proofs.Whole.{rest_both}

-- ---- the events up to a time

up_to_both : (xs ys : List Event) (at : ℕ) → up_to (xs ++ ys) at ≡ up_to xs at ++ up_to ys at
up_to_both [] ys at = refl
up_to_both (x ∷ xs) ys at =
    elim (nat_le x.at at) as (λ b. cond b (x ∷ up_to (xs ++ ys) at) (up_to (xs ++ ys) at) ≡ cond b (x ∷ up_to xs at) (up_to xs at) ++ up_to ys at) [
      | true ↦ ap (λ es. x ∷ es) (up_to_both xs ys at)
      | false ↦ up_to_both xs ys at
    ]

still_early : (n at later : ℕ) → at ≤ later → nat_le n later ≡ false → nat_le n at ≡ false
still_early n at later low off = grind (arith, nat_tests)

-- Selecting the events up to a time, and then up to an earlier time, selects the events up to the
-- earlier time.
pub up_to_twice : (events : List Event) (at later : ℕ) → at ≤ later → up_to (up_to events later) at ≡ up_to events at
up_to_twice [] at later low = refl
up_to_twice (event ∷ events) at later low =
    let rest = up_to_twice events at later low in
    elim (nat_le event.at later) as (λ b. nat_le event.at later ≡ b → up_to (cond b (event ∷ up_to events later) (up_to events later)) at ≡ cond (nat_le event.at at) (event ∷ up_to events at) (up_to events at)) [
      | true ↦ λ _. ap (λ es. cond (nat_le event.at at) (event ∷ es) es) rest
      | false ↦ λ off. rest ∙ sym (ap (λ b. cond b (event ∷ up_to events at) (up_to events at)) (still_early event.at at later low off))
    ] refl

-- All events are later than time `at` (ns).
abbrev AreLater : ℕ → List Event → Type 0
AreLater at [] = Unit {0}
AreLater at (event ∷ events) = (nat_le event.at at ≡ false) × AreLater at events

none_up_to : (events : List Event) (at : ℕ) → AreLater at events → up_to events at ≡ []
none_up_to [] at later = refl
none_up_to (event ∷ events) at later = ap (λ b. cond b (event ∷ up_to events at) (up_to events at)) later.0 ∙ none_up_to events at later.1

is_later : (n at : ℕ) → at + 1 ≤ n → nat_le n at ≡ false
is_later n at low = grind (arith, nat_tests)

acts_later : (at moment : ℕ) (acts : List Act) → nat_le moment at ≡ false → AreLater at (events_at moment acts)
acts_later at moment [] off = tt
acts_later at moment (what ∷ acts) off = (off, acts_later at moment acts off)

later_join : (at : ℕ) (xs ys : List Event) → AreLater at xs → AreLater at ys → AreLater at (xs ++ ys)
later_join at [] ys prefix rest = rest
later_join at (x ∷ xs) ys prefix rest = (prefix.0, later_join at xs ys prefix.1 rest)

exits_later : (at moment : ℕ) (v : World) (pids : List ℕ) → nat_le moment at ≡ false → AreLater at (exits_from moment v pids)
exits_later at moment v [] off = tt
exits_later at moment v (pid ∷ pids) off =
    later_join at (events_at moment (exit_of v pid (task_of v.tasks pid))) (exits_from moment (after_from v (events_at moment (exit_of v pid (task_of v.tasks pid)))) pids)
    (acts_later at moment (exit_of v pid (task_of v.tasks pid)) off) (exits_later at moment (after_from v (events_at moment (exit_of v pid (task_of v.tasks pid)))) pids off)

begin_later : (limits : Limits) (w : World) (events : List Event) (at : ℕ) → AreLegal limits w events → at + 1 ≤ w.last → AreLater at events
begin_later limits w [] at legal past = tt
begin_later limits w (event ∷ events) at legal past =
    let time = (in_time limits w event legal.0).on_time in
    (is_later event.at at (omega (arith, past, time)), begin_later limits (after_event w event) events at legal.1 (omega (arith, past, time)))

all_later : (limits : Limits) (w : World) (events : List Event) (at : ℕ) → AreLegal limits w events → Begins (at + 1) events → AreLater at events
all_later limits w [] at legal begins = tt
all_later limits w (event ∷ events) at legal begins = (is_later event.at at begins, begin_later limits (after_event w event) events at legal.1 begins)

rest_later : (at : ℕ) (dead : List ℕ) (w : World) (events : List Event) → AreLater at events → AreLater at (rest_without dead w events)
rest_later at dead w [] later = tt
rest_later at dead w (event ∷ events) later =
    later_join at (events_at event.at (act_without dead w event.act)) (rest_without (dead_after dead w event.act) (after_event w event) events)
    (acts_later at event.at (act_without dead w event.act) later.0) (rest_later at (dead_after dead w event.act) (after_event w event) events later.1)

earlier_begins : (now at : ℕ) (events : List Event) → now ≤ at → Begins (at + 1) events → Begins (now + 1) events
earlier_begins now at [] low begins = tt
earlier_begins now at (event ∷ events) low begins = omega (arith, low, begins)

same_up_to : (limits : Limits) (events : List Event) (at victim now : ℕ) → IsCut limits events at → now ≤ at → up_to (up_to events at ++ exits_of events at victim ++ rest_of events at victim) now ≡ up_to events now
same_up_to limits events at victim now cut low =
    let prefix = up_to events at in
    let exits = exits_of events at victim in
    let rest = rest_of events at victim in
    let off = is_later (at + 1) now (omega (arith, low)) in
    let none : up_to exits now ≡ [] = none_up_to exits now (exits_later now (at + 1) (cut_world events at) (dead_of events at victim) off) in
    let begins = earlier_begins now at (suffix events at) low cut.begins in
    let neither : up_to rest now ≡ [] = none_up_to rest now (rest_later now (dead_of events at victim) (cut_world events at) (suffix events at) (all_later limits (cut_world events at) (suffix events at) now cut.rest begins)) in
    up_to_both (prefix ++ exits) rest now
    ∙ ap (λ es. es ++ up_to rest now) (up_to_both prefix exits now)
    ∙ ap (λ es. up_to prefix now ++ up_to exits now ++ es) neither
    ∙ append-nil (up_to prefix now ++ up_to exits now)
    ∙ ap (λ es. up_to prefix now ++ es) none
    ∙ append-nil (up_to prefix now)
    ∙ up_to_twice events now at low

-- ---- triggers

-- None of the acts sets a trigger.
abbrev SetNone : List Act → Type 0
SetNone [] = Unit {0}
SetNone (what ∷ acts) = ((at : ℕ) (groups : List GroupLife) → trigger_by at groups what ≡ []) × ((at : ℕ) (groups : List GroupLife) → groups_after at groups what ≡ groups) × SetNone acts

abbrev shows : World → Event → List TriggerSpec
shows w event = trigger_by event.at w.groups event.act

known_both : (w : World) (xs ys : List Event) → values_from shows w (xs ++ ys) ≡ values_from shows w xs ++ values_from shows (after_from w xs) ys
known_both w [] ys = refl
known_both w (x ∷ xs) ys = ap (λ ts. shows w x ++ ts) (known_both (after_event w x) xs ys) ∙ sym (append_assoc (shows w x) (values_from shows (after_event w x) xs) (values_from shows (after_from (after_event w x) xs) ys))

none_known : (w : World) (at : ℕ) (acts : List Act) → SetNone acts → values_from shows w (events_at at acts) ≡ []
none_known w at [] none = refl
none_known w at (what ∷ acts) none = ap (λ ts. ts ++ values_from shows (after_event w (record { at = at; act = what })) (events_at at acts)) (none.0 at w.groups) ∙ none_known (after_event w (record { at = at; act = what })) at acts none.2

same_groups : (w : World) (at : ℕ) (acts : List Act) → SetNone acts → (after_from w (events_at at acts)).groups ≡ w.groups
same_groups w at [] none = refl
same_groups w at (what ∷ acts) none = same_groups (after_event w (record { at = at; act = what })) at acts none.2 ∙ none.1 at w.groups

none_join : (xs ys : List Act) → SetNone xs → SetNone ys → SetNone (xs ++ ys)
none_join [] ys prefix rest = rest
none_join (x ∷ xs) ys prefix rest = (prefix.0, prefix.1, none_join xs ys prefix.2 rest)

none_if : (b : Bool) (what : Act) → SetNone (what ∷ []) → SetNone (acts_if b (what ∷ []))
none_if true what none = none
none_if false what none = tt

none_exit : (pid : ℕ) (task : Task) (next : Option Pid) → SetNone (exit_acts pid task next)
none_exit pid task next =
    none_join
    (acts_if (not (is_active task.mode)) (act.Wake (record { 0 = pid }) task.cpu ∷ []) ++ acts_if (not (is_running task.mode)) (act.Switch task.cpu (Some (record { 0 = pid })) (making_room next) ∷ []) ++ acts_if task.stalled (act.Unstall (record { 0 = pid }) ∷ [])) _
    (none_join
    (acts_if (not (is_active task.mode)) (act.Wake (record { 0 = pid }) task.cpu ∷ []) ++ acts_if (not (is_running task.mode)) (act.Switch task.cpu (Some (record { 0 = pid })) (making_room next) ∷ [])) _
    (none_join (acts_if (not (is_active task.mode)) (act.Wake (record { 0 = pid }) task.cpu ∷ [])) _ (none_if (not (is_active task.mode)) (act.Wake (record { 0 = pid }) task.cpu) (λ at groups. refl, λ at groups. refl, tt))
    (none_if (not (is_running task.mode)) (act.Switch task.cpu (Some (record { 0 = pid })) (making_room next)) (λ at groups. refl, λ at groups. refl, tt)))
    (none_if task.stalled (act.Unstall (record { 0 = pid })) (λ at groups. refl, λ at groups. refl, tt)))
    (λ at groups. refl, λ at groups. refl, tt)

none_found : (v : World) (pid : ℕ) (o : Option Task) → SetNone (exit_of v pid o)
none_found v pid None = tt
none_found v pid (Some task) = none_exit pid task (pid_part (running_on v.tasks task.cpu.0))

exits_known : (at : ℕ) (v : World) (pids : List ℕ) → values_from shows v (exits_from at v pids) ≡ []
exits_known at v [] = refl
exits_known at v (pid ∷ pids) =
    let acts = exit_of v pid (task_of v.tasks pid) in
    known_both v (events_at at acts) (exits_from at (after_from v (events_at at acts)) pids)
    ∙ ap (λ ts. ts ++ values_from shows (after_from v (events_at at acts)) (exits_from at (after_from v (events_at at acts)) pids)) (none_known v at acts (none_found v pid (task_of v.tasks pid)))
    ∙ exits_known at (after_from v (events_at at acts)) pids

exits_groups : (at : ℕ) (v : World) (pids : List ℕ) → (after_from v (exits_from at v pids)).groups ≡ v.groups
exits_groups at v [] = refl
exits_groups at v (pid ∷ pids) =
    let acts = exit_of v pid (task_of v.tasks pid) in
    ap (λ (w : World). w.groups) (after_from-append v (events_at at acts) (exits_from at (after_from v (events_at at acts)) pids))
    ∙ exits_groups at (after_from v (events_at at acts)) pids ∙ same_groups v at acts (none_found v pid (task_of v.tasks pid))

-- The remaining acts set the same triggers and change the groups in the same way as the original
-- act.
record ShowsSame (dead : List ℕ) (w v : World) (at : ℕ) (what : Act) (acts : List Act) : Type 0 where
  known : values_from shows v (events_at at acts) ≡ trigger_by at w.groups what
  groups : (after_from v (events_at at acts)).groups ≡ groups_after at w.groups what

left_same : (dead : List ℕ) (w v : World) (at : ℕ) (what : Act) (acts : List Act) → v.groups ≡ w.groups → SetNone acts → SetNone (what ∷ []) → ShowsSame dead w v at what acts
left_same dead w v at what acts same none of = record {
  known = none_known v at acts none ∙ sym (of.0 at w.groups);
  groups = same_groups v at acts none ∙ same ∙ sym (of.1 at w.groups);
}

itself_same : (dead : List ℕ) (w v : World) (at : ℕ) (what : Act) → v.groups ≡ w.groups → ShowsSame dead w v at what (what ∷ [])
itself_same dead w v at what same = record {
  known = append-nil (trigger_by at v.groups what) ∙ ap (λ gs. trigger_by at gs what) same;
  groups = ap (λ gs. groups_after at gs what) same;
}

none_switch : (dead : List ℕ) (cpu : Cpu) (leaving next : Option Pid) (how : How) → SetNone (switch_without dead cpu leaving next how)
none_switch dead cpu leaving next how =
    elim (is_alive dead leaving) as (λ b. SetNone (if b then act.Switch cpu (if_alive dead next) how ∷ [] else if is_alive dead next then act.Switch cpu next Idle ∷ [] else [])) [
      | true ↦ (λ at groups. refl, λ at groups. refl, tt)
      | false ↦ elim (is_alive dead next) as (λ b. SetNone (cond b (act.Switch cpu next Idle ∷ []) [])) [ true ↦ (λ at groups. refl, λ at groups. refl, tt) | false ↦ tt ]
    ]

of_pid : (dead : List ℕ) (w v : World) (at : ℕ) (pid : Pid) (what : Act) → v.groups ≡ w.groups → SetNone (what ∷ []) → ShowsSame dead w v at what (acts_if (not (is_pid_among dead pid.0)) (what ∷ []))
of_pid dead w v at pid what same none = left_same dead w v at what (acts_if (not (is_pid_among dead pid.0)) (what ∷ [])) same (none_if (not (is_pid_among dead pid.0)) what none) none

act_shows : (dead : List ℕ) (w v : World) (at : ℕ) (what : Act) → v.groups ≡ w.groups → ShowsSame dead w v at what (act_without dead w what)
act_shows dead w v at (act.Wake pid cpu) same = of_pid dead w v at pid (act.Wake pid cpu) same (λ at groups. refl, λ at groups. refl, tt)
act_shows dead w v at (act.Stall pid) same = of_pid dead w v at pid (act.Stall pid) same (λ at groups. refl, λ at groups. refl, tt)
act_shows dead w v at (act.Unstall pid) same = of_pid dead w v at pid (act.Unstall pid) same (λ at groups. refl, λ at groups. refl, tt)
act_shows dead w v at (act.Migrate pid cpu) same = of_pid dead w v at pid (act.Migrate pid cpu) same (λ at groups. refl, λ at groups. refl, tt)
act_shows dead w v at (act.Move pid path) same = of_pid dead w v at pid (act.Move pid path) same (λ at groups. refl, λ at groups. refl, tt)
act_shows dead w v at (act.Switch cpu next how) same =
    left_same dead w v at (act.Switch cpu next how) (switch_without dead cpu (pid_part (running_on w.tasks cpu.0)) next how) same (none_switch dead cpu (pid_part (running_on w.tasks cpu.0)) next how) (λ at groups. refl, λ at groups. refl, tt)
act_shows dead w v at (act.Group path) same = itself_same dead w v at (act.Group path) same
act_shows dead w v at (act.Remove path) same = itself_same dead w v at (act.Remove path) same
act_shows dead w v at (act.Prefer path preference) same = itself_same dead w v at (act.Prefer path preference) same
act_shows dead w v at (act.Fork pid path cpu) same = itself_same dead w v at (act.Fork pid path cpu) same
act_shows dead w v at (act.Mem path current swap scan) same = itself_same dead w v at (act.Mem path current swap scan) same
act_shows dead w v at (act.Host mem_total swap_total swap_free) same = itself_same dead w v at (act.Host mem_total swap_total swap_free) same
act_shows dead w v at (act.Trigger path res level threshold_us window_us) same = itself_same dead w v at (act.Trigger path res level threshold_us window_us) same
act_shows dead w v at (act.Irq cpu ns) same = itself_same dead w v at (act.Irq cpu ns) same
act_shows dead w v at (act.Pressure path on) same = itself_same dead w v at (act.Pressure path on) same
act_shows dead w v at act.End same = itself_same dead w v at act.End same

rest_known : (dead : List ℕ) (w v : World) (events : List Event) → v.groups ≡ w.groups → values_from shows v (rest_without dead w events) ≡ values_from shows w events
rest_known dead w v [] same = refl
rest_known dead w v (event ∷ events) same =
    let acts = act_without dead w event.act in
    let prefix = events_at event.at acts in
    let rest = rest_without (dead_after dead w event.act) (after_event w event) events in
    let notify = act_shows dead w v event.at event.act same in
    let more = rest_known (dead_after dead w event.act) (after_event w event) (after_from v prefix) events notify.groups in
    known_both v prefix rest ∙ ap (λ ts. ts ++ values_from shows (after_from v prefix) rest) notify.known ∙ ap (λ ts. shows w event ++ ts) more

same_triggers : (limits : Limits) (events : List Event) (at victim : ℕ) → IsCut limits events at → triggers_of (up_to events at ++ exits_of events at victim ++ rest_of events at victim) ≡ triggers_of events
same_triggers limits events at victim cut =
    let prefix = up_to events at in
    let exits = exits_of events at victim in
    let rest = rest_of events at victim in
    let w = cut_world events at in
    let groups = exits_groups (at + 1) w (dead_of events at victim) in
    let none = exits_known (at + 1) w (dead_of events at victim) in
    known_both first_world (prefix ++ exits) rest
    ∙ ap (λ x. values_from shows first_world (prefix ++ exits) ++ values_from shows x rest) (after_from-append first_world prefix exits)
    ∙ ap (λ ts. values_from shows first_world (prefix ++ exits) ++ ts) (rest_known (dead_of events at victim) w (after_from w exits) (suffix events at) groups)
    ∙ ap (λ ts. ts ++ values_from shows w (suffix events at)) (known_both first_world prefix exits ∙ ap (λ ts. values_from shows first_world prefix ++ ts) none ∙ append-nil (values_from shows first_world prefix))
    ∙ sym (known_both first_world prefix (suffix events at)) ∙ ap (λ es. triggers_of es) (sym cut.whole)

-- ---- the end

last_moment_of : (w : World) (prefix : List Event) (event : Event) → (after_from w (prefix ++ event ∷ [])).last ≡ event.at
last_moment_of w prefix event = ap (λ (x : World). x.last) (after_from-append w prefix (event ∷ []))

ends_at : (dead : List ℕ) (w x : World) (events : List Event) (ends : EndsLast events) → (after_from x (rest_without dead w events)).last ≡ ends.1
ends_at dead w x events ends =
    ap (λ es. (after_from x es).last) (ap (rest_without dead w) ends.2 ∙ rest_both dead w ends.0 (end_at ends.1 ∷ []))
    ∙ last_moment_of x (rest_without dead w ends.0) (end_at ends.1)

same_last : (limits : Limits) (events : List Event) (at victim : ℕ) → IsCut limits events at → (after (up_to events at ++ exits_of events at victim ++ rest_of events at victim)).last ≡ (after events).last
same_last limits events at victim cut =
    let prefix = up_to events at in
    let exits = exits_of events at victim in
    ap (λ (x : World). x.last) (after_from-append first_world (prefix ++ exits) (rest_of events at victim))
    ∙ ends_at (dead_of events at victim) (cut_world events at) (after (prefix ++ exits)) (suffix events at) cut.ends
    ∙ sym (ap (λ es. (after es).last) cut.whole ∙ ap (λ (x : World). x.last) (after_from-append first_world prefix (suffix events at)) ∙ ap (λ es. (after_from (cut_world events at) es).last) cut.ends.2 ∙ last_moment_of (cut_world events at) cut.ends.0 (end_at cut.ends.1))

-- ---- all shared parts together

pub record IsSame (events other : List Event) (at : ℕ) : Type 0 where
  pub early : (now : ℕ) → now ≤ at → up_to other now ≡ up_to events now
  pub groups : (after other).groups ≡ (after events).groups
  pub triggers : triggers_of other ≡ triggers_of events
  pub last : (after other).last ≡ (after events).last

same_groups_at_end : (limits : Limits) (events : List Event) (at victim : ℕ) → IsCut limits events at → Holds limits events at victim → (after (up_to events at ++ exits_of events at victim ++ rest_of events at victim)).groups ≡ (after events).groups
same_groups_at_end limits events at victim cut held =
    let prefix = up_to events at in
    let exits = exits_of events at victim in
    let rest = rest_of events at victim in
    ap (λ (x : World). x.groups) (after_from-append first_world (prefix ++ exits) rest)
    ∙ ap (λ (x : World). (after_from x rest).groups) (after_from-append first_world prefix exits)
    ∙ held.rest.later.groups
    ∙ sym (ap (λ es. (after es).groups) cut.whole ∙ ap (λ (x : World). x.groups) (after_from-append first_world prefix (suffix events at)))

same_before : (limits : Limits) (events : List Event) (at victim : ℕ) → IsAccepted limits events → length (without events at victim) ≤ 4000000 → at < (after events).last → IsSame events (without events at victim) at
same_before limits events at victim accepted few before =
    let cut = cut_at limits events at accepted.legal accepted.ends before in
    let same = three_parts events at victim before in
    let held = holds limits events at victim cut (subst (λ es. length es ≤ 4000000) same few) in
    subst (λ es. IsSame events es at) (sym same) (record {
      early = λ now low. same_up_to limits events at victim now cut low;
      groups = same_groups_at_end limits events at victim cut held;
      triggers = same_triggers limits events at victim cut;
      last = same_last limits events at victim cut;
    })

below : (at last : ℕ) → nat_lt at last ≡ true → at < last
below at last on = grind (arith, nat_tests)

at_end : (events : List Event) (at victim : ℕ) → nat_lt at (after events).last ≡ false → without events at victim ≡ events
unfolding without
at_end events at victim off = ap (λ b. if b then up_to events at ++ exits_of events at victim ++ rest_of events at victim else events) off

pub is_same : (limits : Limits) (events : List Event) (at victim : ℕ) → IsAccepted limits events → length (without events at victim) ≤ 4000000 → IsSame events (without events at victim) at
is_same limits events at victim accepted few =
    elim (nat_lt at (after events).last) as (λ b. nat_lt at (after events).last ≡ b → IsSame events (without events at victim) at) [
      | true ↦ λ on. same_before limits events at victim accepted few (below at (after events).last on)
      | false ↦ λ off. subst (λ es. IsSame events es at) (sym (at_end events at victim off)) (record { early = λ now low. refl; groups = refl; triggers = refl; last = refl })
    ] refl
