-- The processors and slots that changes name exist.
use Rattle.std.proofs.Common.{◌≡◌, ℕ, ◌+◌, ◌<◌, ◌≤◌, List, [], ◌∷◌, refl, ap, ◌∙◌, sym, subst, Bool, true, false, arith, cond, Option, None, Some, ◌==◌, length, ⊎_elim}
use Rattle.std.specs.Prelude.{◌≢◌, nat_le, ◌||◌, not, if◌then◌else◌, is_some, unwrap_or, IfSome}
use Rattle.std.specs.List.{list_any}
use Rattle.std.specs.FinMap as fin
use Rattle.std.specs.Ordering.{nat_cmp}
use Rattle.std.proofs.lemmas.Bool.Decides.{nat_tests, eqb_tells}
use Rattle.psi_base.specs.declared.event.How.{How}
use Rattle.psi_base.specs.declared.event.How.TheVariants.{Preempt, Sleep, IoWait, Exit, Idle}
use Rattle.psi_base.specs.declared.event.Pid.{Pid}
use Rattle.psi_base.specs.declared.event.Cpu.{Cpu}
use Rattle.psi_base.specs.declared.event.Slot.{Slot}
use Rattle.psi_base.specs.declared.event.Act.{Act}
use Rattle.psi_base.specs.declared.event.Act.TheVariants as act
use Rattle.psi_base.specs.declared.event.Event.{Event}
use Rattle.psi_base.specs.Missing.{is_some_and}
use Rattle.psi_spec.specs.declared.machine.Task.{Task}
use Rattle.psi_counts.specs.declared.changes.Change.{Change}
use Rattle.psi_counts.specs.declared.changes.Touch.{Touch}
use Rattle.psi_counts.specs.declared.changes.Counts.{Counts}
use Rattle.psi_spec.specs.declared.machine.Mode.TheVariants.{Running}
use Rattle.psi_spec.specs.declared.machine.GroupLife.{GroupLife}
use Rattle.psi_spec.specs.World.{World, Limits, Tasks, task_of, task_part, placed, change_to, leave, left_by, start, running_on, is_running_on, is_running, tasks_after, after_event, new_task, prepared_changes, slot_of}
use Rattle.psi_spec.specs.Names.{names}
use Rattle.psi_spec.specs.Refusal.{cause_of}
use Rattle.psi_spec.specs.Stall.{irq_time_by, tasks_in, runs, waits, stalls, is_up}
use Rattle.psi_counts.specs.Counts.{how_many, counts_among, is_up_stalled, IsRunningKnown}
use Rattle.psi_counts.specs.Touch.{changed, left_if, task_after, part, shown, account_of, change_on, change_of, known_first, change_by_cpu, IsBeside, AllTouched, HasSlotsBelow, AreAtMost, IsOfOne, AreWithin, WithinFirst, WithinKept, ChangesAreWithin, on_chain, Follows, irq_in, is_current_in, is_current_stalled, ChangeShows, RunsOnce, TouchesItsOwn}
use Rattle.psi_spec.specs.Changes.{before, is_at, touched}
use Rattle.psi_counts.proofs.CountLaws.{one, how_many-cons}
use Rattle.psi_counts.proofs.AccountLaws.{account_alone}
use Rattle.psi_counts.proofs.IrqLaws.{known_alone, known_few}
use Rattle.psi_spec.proofs.TaskLaws.{itself, task_placed}
use Rattle.psi_counts.proofs.TouchCounts.{running_found}
use Rattle.psi_spec.proofs.GroupLaws.{found_below}
use Rattle.psi_spec.proofs.RefusalLaws.{first_true, none_found_in}
use Rattle.psi_counts.proofs.TouchLaws.{counts_follow}
use Rattle.psi_counts.proofs.RunnerLaws.{current_shows, runs_once_kept}

-- The optional task is on one of `cpus` processors and in one of `slots` slots.
abbrev pub Fits : ℕ → ℕ → Option Task → Type 0
Fits cpus slots o = IfSome o (λ task. (task.cpu.0 < cpus) × (task.slot.0 < slots))

-- ---- tasks

-- Without tasks, all tasks have existing processors and slots.
pub within_first : WithinFirst
within_first cpus slots pid = rw (fin.get-empty nat_cmp pid) tt

-- Replacing or removing a task preserves the bounds if the new task fits.
fits_placed : (cpus slots : ℕ) (tasks : Tasks) → AreWithin cpus slots tasks → (pid : ℕ) (o : Option Task) → Fits cpus slots o → AreWithin cpus slots (placed tasks pid o)
fits_placed cpus slots tasks within pid o fits q =
    rw (task_placed tasks pid o q) (elim (q == pid) as (λ b. Fits cpus slots (cond b o (task_of tasks q))) [ true ↦ fits | false ↦ within q ])

-- Changing an optional task preserves the bounds if the changed task fits.
fits_changed : (cpus slots : ℕ) (tasks : Tasks) → AreWithin cpus slots tasks → (pid : ℕ) (f : Task → Task) (o : Option Task) → Fits cpus slots (changed f o) → AreWithin cpus slots (change_to tasks pid f o)
fits_changed cpus slots tasks within pid f None fits = within
fits_changed cpus slots tasks within pid f (Some t) fits = fits_placed cpus slots tasks within pid (Some (f t)) fits

-- a change that leaves processor and slot
fits_kept : (cpus slots : ℕ) (f : Task → Task) → ((t : Task) → (f t).cpu ≡ t.cpu) → ((t : Task) → (f t).slot ≡ t.slot) → (o : Option Task) → Fits cpus slots o → Fits cpus slots (changed f o)
fits_kept cpus slots f cpu slot None fits = tt
fits_kept cpus slots f cpu slot (Some t) fits = rw (cpu t, slot t) fits

-- a task that comes to a processor that there is
fits_prepared : (cpus slots cpu : ℕ) → cpu < cpus → (o : Option Task) → Fits cpus slots o → Fits cpus slots (changed (prepared_changes cpu) o)
fits_prepared cpus slots cpu room None fits = tt
fits_prepared cpus slots cpu room (Some t) fits = (room, fits.1)

-- a task that comes to a slot that there is
fits_moved : (cpus slots slot : ℕ) → slot < slots → (o : Option Task) → Fits cpus slots o → Fits cpus slots (changed (λ task. record task { slot = record { 0 = slot } }) o)
fits_moved cpus slots slot room None fits = tt
fits_moved cpus slots slot room (Some t) fits = (fits.0, room)

-- a task that leaves keeps its processor and slot
fits_left : (cpus slots : ℕ) (how : How) (o : Option Task) → Fits cpus slots o → Fits cpus slots (left_if how o)
fits_left cpus slots how None fits = tt
fits_left cpus slots Preempt (Some t) fits = fits
fits_left cpus slots Sleep (Some t) fits = fits
fits_left cpus slots IoWait (Some t) fits = fits
fits_left cpus slots Exit (Some t) fits = tt
fits_left cpus slots Idle (Some t) fits = fits

-- a running task's processor and slot exist
fits_running : (cpus slots : ℕ) (tasks : Tasks) → AreWithin cpus slots tasks → (cpu : ℕ) (o : Option (ℕ × Task)) → running_on tasks cpu ≡ o → Fits cpus slots (task_part o)
fits_running cpus slots tasks within cpu None is = tt
fits_running cpus slots tasks within cpu (Some e) is = subst (Fits cpus slots) ((running_found tasks cpu e is).0) (within e.0)

-- the running task leaves
within_leave : (cpus slots : ℕ) (tasks : Tasks) → AreWithin cpus slots tasks → (how : How) (o : Option (ℕ × Task)) → Fits cpus slots (task_part o) → AreWithin cpus slots (leave how tasks o)
within_leave cpus slots tasks within how None fits = within
within_leave cpus slots tasks within how (Some e) fits = fits_placed cpus slots tasks within e.0 (left_by how e.1) (fits_left cpus slots how (Some e.1) fits)

-- the next one starts
within_start : (cpus slots : ℕ) (tasks : Tasks) → AreWithin cpus slots tasks → (next : Option Pid) → AreWithin cpus slots (start next tasks)
within_start cpus slots tasks within None = within
within_start cpus slots tasks within (Some pid) =
    fits_changed cpus slots tasks within pid.0 (λ task. record task { mode = Running }) (task_of tasks pid.0) (fits_kept cpus slots (λ task. record task { mode = Running }) (λ _. refl) (λ _. refl) (task_of tasks pid.0) (within pid.0))

-- ---- what legality says of processors and slots

-- a processor that there is
room_of : (cpus cpu : ℕ) → nat_le cpus cpu ≡ false → cpu < cpus
room_of cpus cpu h = grind (arith, nat_tests)

-- a live group's slot
pub slot_room : (groups : List GroupLife) (path : List ℕ) → not (is_some (slot_of groups path)) ≡ false → unwrap_or (slot_of groups path) 0 < length groups
slot_room groups path live =
    elim (slot_of groups path) as (λ o. slot_of groups path ≡ o → not (is_some o) ≡ false → unwrap_or o 0 < length groups) [
      | None ↦ λ is l. absurd (cc l)
      | Some slot ↦ λ is l. let below = (found_below 0 groups path slot is).1 in omega (arith, below)
    ] refl live

-- the task that an act changes, before it and after it
pub fits_before : (cpus slots : ℕ) (tasks : Tasks) → AreWithin cpus slots tasks → (a : Act) → Fits cpus slots (before tasks a)
fits_before cpus slots tasks within (act.Wake pid cpu) = within pid.0
fits_before cpus slots tasks within (act.Switch cpu next how) = fits_running cpus slots tasks within cpu.0 (running_on tasks cpu.0) refl
fits_before cpus slots tasks within (act.Stall pid) = within pid.0
fits_before cpus slots tasks within (act.Unstall pid) = within pid.0
fits_before cpus slots tasks within (act.Migrate pid cpu) = within pid.0
fits_before cpus slots tasks within (act.Move pid path) = within pid.0
fits_before cpus slots tasks within _ = tt

-- so it is after a legal act
pub fits_after : (limits : Limits) (w : World) (at : ℕ) (a : Act) → cause_of limits w (record { at = at; act = a }) ≡ None → AreWithin limits.cpus (length w.groups) w.tasks → Fits limits.cpus (length w.groups) (task_after w.groups w.tasks a)
fits_after limits w at (act.Fork pid path cpu) h within =
    let none = none_found_in limits w _ h in
    (room_of limits.cpus cpu.0 none.bad_cpu, slot_room w.groups path none.unknown_group)
fits_after limits w at (act.Wake pid cpu) h within = fits_prepared limits.cpus (length w.groups) cpu.0 (room_of limits.cpus cpu.0 (none_found_in limits w _ h).bad_cpu) (task_of w.tasks pid.0) (within pid.0)
fits_after limits w at (act.Switch cpu next how) h within = fits_left limits.cpus (length w.groups) how (task_part (running_on w.tasks cpu.0)) (fits_running limits.cpus (length w.groups) w.tasks within cpu.0 (running_on w.tasks cpu.0) refl)
fits_after limits w at (act.Stall pid) h within = fits_kept limits.cpus (length w.groups) (λ task. record task { stalled = true }) (λ _. refl) (λ _. refl) (task_of w.tasks pid.0) (within pid.0)
fits_after limits w at (act.Unstall pid) h within = fits_kept limits.cpus (length w.groups) (λ task. record task { stalled = false }) (λ _. refl) (λ _. refl) (task_of w.tasks pid.0) (within pid.0)
fits_after limits w at (act.Migrate pid cpu) h within = fits_prepared limits.cpus (length w.groups) cpu.0 (room_of limits.cpus cpu.0 (none_found_in limits w _ h).bad_cpu) (task_of w.tasks pid.0) (within pid.0)
fits_after limits w at (act.Move pid path) h within = fits_moved limits.cpus (length w.groups) (unwrap_or (slot_of w.groups path) 0) (slot_room w.groups path (none_found_in limits w _ h).unknown_group) (task_of w.tasks pid.0) (within pid.0)
fits_after limits w at _ h within = tt

-- ---- the tasks after an act

-- all tasks after an act, given the task that it changes
within_act : (limits : Limits) (w : World) (at : ℕ) (a : Act) → AreWithin limits.cpus (length w.groups) w.tasks → Fits limits.cpus (length w.groups) (task_after w.groups w.tasks a) → AreWithin limits.cpus (length w.groups) (tasks_after w.groups w.tasks a)
within_act limits w at (act.Fork pid path cpu) within fits = fits_placed limits.cpus (length w.groups) w.tasks within pid.0 (Some (new_task w.groups path cpu.0)) fits
within_act limits w at (act.Wake pid cpu) within fits = fits_changed limits.cpus (length w.groups) w.tasks within pid.0 _ (task_of w.tasks pid.0) fits
within_act limits w at (act.Switch cpu next how) within fits =
    within_start limits.cpus (length w.groups) (leave how w.tasks (running_on w.tasks cpu.0)) (within_leave limits.cpus (length w.groups) w.tasks within how (running_on w.tasks cpu.0) (fits_running limits.cpus (length w.groups) w.tasks within cpu.0 (running_on w.tasks cpu.0) refl)) next
within_act limits w at (act.Stall pid) within fits = fits_changed limits.cpus (length w.groups) w.tasks within pid.0 _ (task_of w.tasks pid.0) fits
within_act limits w at (act.Unstall pid) within fits = fits_changed limits.cpus (length w.groups) w.tasks within pid.0 _ (task_of w.tasks pid.0) fits
within_act limits w at (act.Migrate pid cpu) within fits = fits_changed limits.cpus (length w.groups) w.tasks within pid.0 _ (task_of w.tasks pid.0) fits
within_act limits w at (act.Move pid path) within fits = fits_changed limits.cpus (length w.groups) w.tasks within pid.0 _ (task_of w.tasks pid.0) fits
within_act limits w at _ within fits = within

-- legal events keep tasks within the bounds
pub within_kept : WithinKept
within_kept limits w event legal within = within_act limits w event.at event.act within (fits_after limits w event.at event.act legal within)

-- ---- changes

-- equal to a processor that there is
same_cpu : (named cpu cpus : ℕ) → (named == cpu) ≡ true → named < cpus → cpu < cpus
same_cpu named cpu cpus same room = let equal : named ≡ cpu = grind (arith, nat_tests) in omega (arith, equal, room)

-- the processor of a task
task_cpu : (cpus slots cpu : ℕ) (o : Option Task) → Fits cpus slots o → is_some_and o (is_at cpu) ≡ true → cpu < cpus
task_cpu cpus slots cpu None fits at = cc at
task_cpu cpus slots cpu (Some t) fits at = same_cpu t.cpu.0 cpu cpus at fits.0

-- the processor that a task comes to, or its previous one
either_cpu : (cpus slots named cpu : ℕ) (o : Option Task) → Fits cpus slots o → named < cpus → (named == cpu || is_some_and o (is_at cpu)) ≡ true → cpu < cpus
either_cpu cpus slots named cpu o fits room either =
    elim (named == cpu) as (λ b. (named == cpu) ≡ b → (b || is_some_and o (is_at cpu)) ≡ true → cpu < cpus) [
      | true ↦ λ same _. same_cpu named cpu cpus same room
      | false ↦ λ _ at. task_cpu cpus slots cpu o fits at
    ] refl either

-- a processor exists if a legal act touches it, but not all
touched_room : (limits : Limits) (w : World) (at : ℕ) (a : Act) → cause_of limits w (record { at = at; act = a }) ≡ None → AreWithin limits.cpus (length w.groups) w.tasks → (cpu : ℕ) → touched a (before w.tasks a) cpu ≡ true → account_of w.groups a ≡ None → cpu < limits.cpus
touched_room limits w at (act.Fork pid path named) h within cpu on plain = same_cpu named.0 cpu limits.cpus on (room_of limits.cpus named.0 (none_found_in limits w _ h).bad_cpu)
touched_room limits w at (act.Wake pid named) h within cpu on plain = either_cpu limits.cpus (length w.groups) named.0 cpu (task_of w.tasks pid.0) (within pid.0) (room_of limits.cpus named.0 (none_found_in limits w _ h).bad_cpu) on
touched_room limits w at (act.Switch named next how) h within cpu on plain = same_cpu named.0 cpu limits.cpus on (room_of limits.cpus named.0 (none_found_in limits w _ h).bad_cpu)
touched_room limits w at (act.Stall pid) h within cpu on plain = task_cpu limits.cpus (length w.groups) cpu (task_of w.tasks pid.0) (within pid.0) on
touched_room limits w at (act.Unstall pid) h within cpu on plain = task_cpu limits.cpus (length w.groups) cpu (task_of w.tasks pid.0) (within pid.0) on
touched_room limits w at (act.Migrate pid named) h within cpu on plain = either_cpu limits.cpus (length w.groups) named.0 cpu (task_of w.tasks pid.0) (within pid.0) (room_of limits.cpus named.0 (none_found_in limits w _ h).bad_cpu) on
touched_room limits w at (act.Move pid path) h within cpu on plain = task_cpu limits.cpus (length w.groups) cpu (task_of w.tasks pid.0) (within pid.0) on
touched_room limits w at (act.Irq named ns) h within cpu on plain = same_cpu named.0 cpu limits.cpus on (room_of limits.cpus named.0 (none_found_in limits w _ h).bad_cpu)
touched_room limits w at (act.Pressure path switched) h within cpu on plain = absurd (cc plain)
touched_room limits w at _ h within cpu on plain = absurd (cc on)

-- a part's slot exists
part_slot : (cpus slots cpu : ℕ) (o : Option Task) → Fits cpus slots o → IfSome (part cpu o) (λ p. p.0.0 < slots)
part_slot cpus slots cpu None fits = tt
part_slot cpus slots cpu (Some t) fits = elim (is_at cpu t) as (λ b. IfSome {T = Slot × Counts} (if b then Some (t.slot, counts_among (t ∷ [])) else None) (λ p. p.0.0 < slots)) [ true ↦ fits.1 | false ↦ tt ]

-- the running task's slot exists
shown_slot : (cpus slots : ℕ) (o : Option (ℕ × Task)) → Fits cpus slots (task_part o) → IfSome (shown o) (λ c. c.0.0 < slots)
shown_slot cpus slots None fits = tt
shown_slot cpus slots (Some e) fits = fits.1

-- one task counts at most once
one_at_most : (kind : Task → Bool) (t : Task) → how_many kind (t ∷ []) ≤ 1
one_at_most kind t =
    rw (how_many-cons kind t []) (elim (kind t) as (λ b. one b + 0 ≤ 1) [ true ↦ omega arith | false ↦ omega arith ])

-- so it is in all four counts
one_task : (t : Task) → AreAtMost 1 (counts_among (t ∷ []))
one_task t = record { io = one_at_most waits t; stalled = one_at_most stalls t; running = one_at_most is_up t; stalled_running = one_at_most is_up_stalled t }

-- so it is of a part
part_one : (cpu : ℕ) (o : Option Task) → IfSome (part cpu o) (λ p. AreAtMost 1 p.1)
part_one cpu None = tt
part_one cpu (Some t) = elim (is_at cpu t) as (λ b. IfSome {T = Slot × Counts} (if b then Some (t.slot, counts_among (t ∷ [])) else None) (λ p. AreAtMost 1 p.1)) [ true ↦ one_task t | false ↦ tt ]

-- what a test lets through
is_then : (b : Bool) (change other : Change) → (if b then Some change else None) ≡ Some other → (b ≡ true) × (change ≡ other)
is_then true change other h = (refl, cc h)
is_then false change other h = absurd (cc h)

-- the slot whose accounting is switched exists
account_slot : (limits : Limits) (w : World) (at : ℕ) (a : Act) → cause_of limits w (record { at = at; act = a }) ≡ None → IfSome (account_of w.groups a) (λ account. account.0.0 < length w.groups)
account_slot limits w at (act.Pressure path on) h = slot_room w.groups path (none_found_in limits w _ h).unknown_group
account_slot limits w at _ h = tt

-- all of it for a change
pub changes_are_within : ChangesAreWithin
unfolding change_of
changes_are_within limits w event legal within cpu change is =
    let old = before w.tasks event.act in
    let new = task_after w.groups w.tasks event.act in
    let tasks = tasks_after w.groups w.tasks event.act in
    let both = is_then (touched event.act old cpu) (change_on w.groups event old new tasks cpu) change is in
    let later = within_kept limits w event legal within in
    let slots : HasSlotsBelow (length w.groups) (change_on w.groups event old new tasks cpu) = record {
      minus = part_slot limits.cpus (length w.groups) cpu old (fits_before limits.cpus (length w.groups) w.tasks within event.act);
      plus = part_slot limits.cpus (length w.groups) cpu new (fits_after limits w event.at event.act legal within);
      current = shown_slot limits.cpus (length w.groups) (running_on tasks cpu) (fits_running limits.cpus (length w.groups) tasks later cpu (running_on tasks cpu) refl);
      account = account_slot limits w event.at event.act legal;
    } in
    let ones : IsOfOne (change_on w.groups event old new tasks cpu) = record {
      minus = part_one cpu old;
      plus = part_one cpu new;
      irq = known_few limits w event legal cpu;
      alone = known_alone w.groups w.tasks event.act cpu;
      account = account_alone w.groups w.tasks event.act cpu;
    } in
    (λ plain. touched_room limits w event.at event.act legal within cpu both.0 (ap (λ (c : Change). c.account) both.1 ∙ plain), subst (HasSlotsBelow (length w.groups)) both.1 slots, subst IsOfOne both.1 ones, ap (λ (c : Change). c.at) (sym both.1))

-- ---- what is so of each change of a processor is so of each in a touch

-- other processors have other numbers
others_differ : (first second : Cpu) → first ≢ second → (first.0 == second.0) ≡ false
others_differ first second differ =
    ⊎_elim (λ same. absurd (differ (ap (λ n. let cpu : Cpu = record { 0 = n } in cpu) same.1))) (λ other. other.0) (eqb_tells first.0 second.0)

-- so it is of the first
first_so : (IsSo : ℕ → Change → Type 0) (of : ℕ → Option Change) (first second : Option (Cpu × Change)) → ((cpu : ℕ) → known_first cpu first (known_first cpu second None) ≡ of cpu) → ((cpu : ℕ) (change : Change) → of cpu ≡ Some change → IsSo cpu change) → IfSome first (λ f. IsSo f.0.0 f.1)
first_so IsSo of None second known so = tt
first_so IsSo of (Some f) second known so = so f.0.0 f.1 (sym (known f.0.0) ∙ ap (λ b. if b then Some f.1 else known_first f.0.0 second None) (itself f.0.0))

-- so it is of a second
second_so : (IsSo : ℕ → Change → Type 0) (of : ℕ → Option Change) (first second : Option (Cpu × Change)) → IsBeside first second → ((cpu : ℕ) → known_first cpu first (known_first cpu second None) ≡ of cpu) → ((cpu : ℕ) (change : Change) → of cpu ≡ Some change → IsSo cpu change) → IfSome second (λ s. IsSo s.0.0 s.1)
second_so IsSo of first None beside known so = tt
second_so IsSo of None (Some s) beside known so = absurd beside
second_so IsSo of (Some f) (Some s) beside known so =
    so s.0.0 s.1 (sym (known s.0.0) ∙ ap (λ b. if b then Some f.1 else known_first s.0.0 (Some s) None) (others_differ f.0 s.0 beside) ∙ ap (λ b. if b then Some s.1 else None) (itself s.0.0))

-- so it is of each
pub all_touched : (IsSo : ℕ → Change → Type 0) (w : World) (event : Event) (touch : Touch) → ((cpu : ℕ) → change_by_cpu touch cpu ≡ change_of w event cpu) → IsBeside touch.first touch.second → ((cpu : ℕ) (change : Change) → change_of w event cpu ≡ Some change → IsSo cpu change) → AllTouched IsSo touch
all_touched IsSo w event touch known beside so =
    (first_so IsSo (change_of w event) touch.first touch.second known so, second_so IsSo (change_of w event) touch.first touch.second beside known so)

-- ---- changes

either_none : (b : Bool) → ◌≡◌ {A = ℕ} (if b then 0 else 0) 0
either_none true = refl
either_none false = refl

-- interrupts take no task from its processor: that of a group which runs after them ran before them
same_runner : (groups : List GroupLife) (tasks : Tasks) (a : Act) → RunsOnce tasks → (parents : List (Option ℕ)) (cpu slot : ℕ) →
    (if is_current_in parents slot (shown (running_on (tasks_after groups tasks a) cpu)) then irq_time_by cpu a else 0) ≡ (if list_any runs (tasks_in parents cpu slot tasks) then irq_time_by cpu a else 0)
same_runner groups tasks (act.Irq named ns) once parents cpu slot = ap (λ b. if b then irq_time_by cpu (act.Irq named ns) else 0) (current_shows tasks once parents cpu slot).one_runs
same_runner groups tasks a once parents cpu slot =
    either_none (is_current_in parents slot (shown (running_on (tasks_after groups tasks a) cpu))) ∙ sym (either_none (list_any runs (tasks_in parents cpu slot tasks)))

-- counts follow, what runs is shown, and interrupts take time from what runs
pub change_shows : ChangeShows
unfolding change_of
change_shows limits w event legal once cpu change is parents slot =
    let old = before w.tasks event.act in
    let new = task_after w.groups w.tasks event.act in
    let tasks = tasks_after w.groups w.tasks event.act in
    let both = is_then (touched event.act old cpu) (change_on w.groups event old new tasks cpu) change is in (
      subst (λ (c : Change). Follows (counts_among (tasks_in parents cpu slot w.tasks)) (on_chain parents slot c.minus) (on_chain parents slot c.plus) (counts_among (tasks_in parents cpu slot (after_event w event).tasks))) both.1
          (counts_follow limits w event legal parents cpu slot),
      subst (λ (c : Change). IsRunningKnown (tasks_in parents cpu slot (after_event w event).tasks) (is_current_in parents slot c.current) (is_current_stalled c.current)) both.1
          (current_shows (after_event w event).tasks (runs_once_kept limits w event legal once) parents cpu slot),
      subst (λ (c : Change). irq_in parents slot c ≡ (if list_any runs (tasks_in parents cpu slot w.tasks) then irq_time_by cpu event.act else 0)) both.1
          (same_runner w.groups w.tasks event.act once parents cpu slot),
      ap (λ (c : Change). c.account) (sym both.1),
    )

-- ---- an act touches the processors that it names and those of its task

-- equal numbers pass the test
same_test : (named cpu : ℕ) → Some named ≡ Some cpu → (named == cpu) ≡ true
same_test named cpu is = let same : named ≡ cpu = cc is in grind (arith, nat_tests)

-- the first of two tests holds
or_first : (a b : Bool) → a ≡ true → (a || b) ≡ true
or_first a b is = rw is refl

-- the second of two tests holds
or_second : (a b : Bool) → b ≡ true → (a || b) ≡ true
or_second true b is = refl
or_second false b is = is

-- the processor that an act names
touches_named : (w : World) (a : Act) (cpu : ℕ) → (names a).cpu ≡ Some cpu → touched a (before w.tasks a) cpu ≡ true
touches_named w (act.Fork pid path named) cpu is = same_test named.0 cpu is
touches_named w (act.Wake pid named) cpu is = or_first (named.0 == cpu) (is_some_and (task_of w.tasks pid.0) (is_at cpu)) (same_test named.0 cpu is)
touches_named w (act.Switch named next how) cpu is = same_test named.0 cpu is
touches_named w (act.Migrate pid named) cpu is = or_first (named.0 == cpu) (is_some_and (task_of w.tasks pid.0) (is_at cpu)) (same_test named.0 cpu is)
touches_named w (act.Irq named ns) cpu is = same_test named.0 cpu is
touches_named w _ cpu is = cc is

-- a processor's running task is there
running_there : (named cpu : ℕ) (t : Task) → is_running_on named t ≡ true → is_at cpu t ≡ true → (named == cpu) ≡ true
running_there named cpu t runs at =
    let there : (t.cpu.0 == named) ≡ true = first_true (t.cpu.0 == named) (is_running t.mode) runs in
    grind (arith, nat_tests)

-- the task that leaves a processor is on it
leaver_there : (tasks : Tasks) (named cpu : ℕ) (o : Option (ℕ × Task)) → running_on tasks named ≡ o → is_some_and (task_part o) (is_at cpu) ≡ true → (named == cpu) ≡ true
leaver_there tasks named cpu None is at = cc at
leaver_there tasks named cpu (Some e) is at = running_there named cpu e.1 ((running_found tasks named e is).1) at

-- the processor of the task before
touches_before : (w : World) (a : Act) (cpu : ℕ) → is_some_and (before w.tasks a) (is_at cpu) ≡ true → touched a (before w.tasks a) cpu ≡ true
touches_before w (act.Fork pid path named) cpu at = cc at
touches_before w (act.Wake pid named) cpu at = or_second (named.0 == cpu) (is_some_and (task_of w.tasks pid.0) (is_at cpu)) at
touches_before w (act.Switch named next how) cpu at = leaver_there w.tasks named.0 cpu (running_on w.tasks named.0) refl at
touches_before w (act.Migrate pid named) cpu at = or_second (named.0 == cpu) (is_some_and (task_of w.tasks pid.0) (is_at cpu)) at
touches_before w (act.Irq named ns) cpu at = cc at
touches_before w (act.Pressure path on) cpu at = refl
touches_before w _ cpu at = at

-- a task that comes to a processor, a task that stays there, and a task that leaves
came_there : (named cpu : ℕ) (o : Option Task) → is_some_and (changed (prepared_changes named) o) (is_at cpu) ≡ true → (named == cpu) ≡ true
came_there named cpu None at = cc at
came_there named cpu (Some t) at = at

-- a change that leaves a task on its processor
stayed_there : (cpu : ℕ) (f : Task → Task) → ((t : Task) → (f t).cpu ≡ t.cpu) → (o : Option Task) → is_some_and (changed f o) (is_at cpu) ≡ true → is_some_and o (is_at cpu) ≡ true
stayed_there cpu f same None at = at
stayed_there cpu f same (Some t) at = rw (← same t) at

-- so does leaving it
left_there : (cpu : ℕ) (how : How) (o : Option Task) → is_some_and (left_if how o) (is_at cpu) ≡ true → is_some_and o (is_at cpu) ≡ true
left_there cpu how None at = at
left_there cpu Preempt (Some t) at = at
left_there cpu Sleep (Some t) at = at
left_there cpu IoWait (Some t) at = at
left_there cpu Exit (Some t) at = cc at
left_there cpu Idle (Some t) at = at

-- the processor of the task after
touches_after : (w : World) (a : Act) (cpu : ℕ) → is_some_and (task_after w.groups w.tasks a) (is_at cpu) ≡ true → touched a (before w.tasks a) cpu ≡ true
touches_after w (act.Wake pid named) cpu at = or_first (named.0 == cpu) (is_some_and (task_of w.tasks pid.0) (is_at cpu)) (came_there named.0 cpu (task_of w.tasks pid.0) at)
touches_after w (act.Switch named next how) cpu at = leaver_there w.tasks named.0 cpu (running_on w.tasks named.0) refl (left_there cpu how (task_part (running_on w.tasks named.0)) at)
touches_after w (act.Stall pid) cpu at = stayed_there cpu (λ task. record task { stalled = true }) (λ _. refl) (task_of w.tasks pid.0) at
touches_after w (act.Unstall pid) cpu at = stayed_there cpu (λ task. record task { stalled = false }) (λ _. refl) (task_of w.tasks pid.0) at
touches_after w (act.Migrate pid named) cpu at = or_first (named.0 == cpu) (is_some_and (task_of w.tasks pid.0) (is_at cpu)) (came_there named.0 cpu (task_of w.tasks pid.0) at)
touches_after w (act.Move pid path) cpu at = stayed_there cpu (λ task. record task { slot = record { 0 = unwrap_or (slot_of w.groups path) 0 } }) (λ _. refl) (task_of w.tasks pid.0) at
touches_after w (act.Irq named ns) cpu at = cc at
touches_after w (act.Pressure path on) cpu at = refl
touches_after w _ cpu at = at

-- all three
pub touches_its_own : TouchesItsOwn
touches_its_own w event cpu = (touches_named w event.act cpu, touches_before w event.act cpu, touches_after w event.act cpu)
