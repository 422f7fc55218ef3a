-- Legal events preserve the invariant of worlds, and what follows for counts.
use Rattle.std.proofs.Common.{◌≡◌, ℕ, ◌+◌, ◌≤◌, ◌<◌, List, [], ◌∷◌, ◌++◌, refl, ap, ◌∙◌, sym, subst, Bool, true, false, arith, cond, Option, None, Some, length, nat_lt}
use Rattle.std.specs.Prelude.{map, filter, nat_le, ◌&&◌, if◌then◌else◌, IfSome, ◌==◌}
use Rattle.std.specs.List.{AllByRecursion}
use Rattle.std.specs.FinMap as fin
use Rattle.std.specs.Ordering.{nat_cmp}
use Rattle.std.proofs.lemmas.Bool.Decides.{nat_tests}
use Rattle.std.proofs.lemmas.List.{length-append, length-map}
use Rattle.psi_base.specs.declared.event.How.{How}
use Rattle.psi_base.specs.declared.event.How.TheVariants.{Preempt, Sleep, IoWait, Exit, Idle}
use Rattle.psi_base.specs.declared.event.Act.{Act}
use Rattle.psi_base.specs.declared.event.Act.TheVariants as act
use Rattle.psi_base.specs.declared.event.Event.{Event}
use Rattle.psi_base.specs.declared.event.Cause.TheVariants as cause
use Rattle.psi_base.specs.Missing.{is_some_and}
use Rattle.psi_spec.specs.declared.machine.Task.{Task}
use Rattle.psi_counts.specs.declared.changes.Change.{Change}
use Rattle.psi_counts.specs.declared.changes.Counts.{Counts}
use Rattle.psi_spec.specs.declared.machine.GroupLife.{GroupLife}
use Rattle.psi_spec.specs.World.{World, Limits, Tasks, after, after_from, first_world, task_of, task_part, running_on, is_trigger, is_pressure, tasks_after, after_event}
use Rattle.psi_spec.specs.Refusal.{cause_of, applies, cause_order, AreLegal}
use Rattle.psi_spec.specs.Stall.{is_under, is_in, parents_of, number_of_slot, tasks_in}
use Rattle.psi_counts.specs.Counts.{counts_among, how_many}
use Rattle.psi_counts.specs.Touch.{changed, left_if, AreWithin, Follows, change_of, change_on, no_counts, on_chain, part, task_after}
use Rattle.psi_spec.specs.Changes.{touched, before}
use Rattle.psi_spec.specs.LegalGroups.{new_parents}
use Rattle.psi_counts.specs.Legal.{IsLegalWorld, added, both_counts, changes_from, taken, with_change, CountsAreSums, LegalFirst, LegalKept, SameTasksLater, CountsAreFew}
use Rattle.psi_counts.proofs.CountLaws.{one}
use Rattle.psi_spec.proofs.TaskLaws.{found, no_entries}
use Rattle.psi_counts.proofs.TouchCounts.{tally, counted}
use Rattle.psi_counts.proofs.TouchLaws.{counted_act, counts_follow, stays_untouched}
use Rattle.psi_counts.proofs.RunnerLaws.{runs_once_first, runs_once_kept}
use Rattle.psi_spec.proofs.RefusalLaws.{passed}
use Rattle.psi_counts.proofs.TouchWithin.{within_first, within_kept}
use Rattle.psi_spec.proofs.GroupLaws.{climbs_kept}
use Rattle.psi_spec.proofs.GroupChanges.{groups_first, groups_kept, parents_kept}

-- ---- how many tasks live

-- each task passes
abbrev always : Task → Bool
always task = true

tally_all : (tasks : List Task) → tally always tasks ≡ length tasks
tally_all [] = refl
tally_all (task ∷ tasks) = let rest = tally_all tasks in omega (arith, rest)

-- the count of all tasks is how many there are
counted_all : (tasks : Tasks) → counted always tasks ≡ fin.len tasks
counted_all tasks = tally_all (fin.values tasks) ∙ length-map (fin.entries tasks) (λ e. e.1) ∙ sym (fin.len-entries tasks)

-- a change makes no task
changed_not_more : (f : Task → Task) (o : Option Task) → one (is_some_and (changed f o) always) ≤ one (is_some_and o always)
changed_not_more f None = omega arith
changed_not_more f (Some t) = omega arith

-- nor does a task that leaves
left_not_more : (how : How) (o : Option Task) → one (is_some_and (left_if how o) always) ≤ one (is_some_and o always)
left_not_more how None = omega arith
left_not_more Preempt (Some t) = omega arith
left_not_more Sleep (Some t) = omega arith
left_not_more IoWait (Some t) = omega arith
left_not_more Exit (Some t) = omega arith
left_not_more Idle (Some t) = omega arith

not_more : (after old new now most : ℕ) → after + old ≡ now + new → new ≤ old → now ≤ most → after ≤ most
not_more after old new now most is fewer low = omega (arith, is, fewer, low)

room_for_one : (n : ℕ) → nat_le 65536 n ≡ false → n + 1 ≤ 65536
room_for_one n h = grind (arith, nat_tests)

-- after a legal act the number of tasks is within the limit
few_act : (limits : Limits) (w : World) (at : ℕ) (a : Act) → cause_of limits w (record { at = at; act = a }) ≡ None → counted always w.tasks ≤ 65536 → counted always (tasks_after w.groups w.tasks a) ≤ 65536
unfolding cause_of
few_act limits w at (act.Fork pid path cpu) h few =
    let event : Event = record { at = at; act = act.Fork pid path cpu } in
    let room = room_for_one (fin.len w.tasks) (passed (λ why. applies why limits w event) cause_order 5 cause.TooManyTasks h refl) in
    let by = counted_act always (λ t ready. refl) limits w at (act.Fork pid path cpu) h in
    let goal : counted always (tasks_after w.groups w.tasks (act.Fork pid path cpu)) ≤ 65536 = omega (arith, by, room, counted_all w.tasks) in goal
few_act limits w at (act.Wake pid cpu) h few = not_more _ _ _ _ 65536 (counted_act always (λ t ready. refl) limits w at (act.Wake pid cpu) h) (changed_not_more _ (task_of w.tasks pid.0)) few
few_act limits w at (act.Switch cpu next how) h few = not_more _ _ _ _ 65536 (counted_act always (λ t ready. refl) limits w at (act.Switch cpu next how) h) (left_not_more how (task_part (running_on w.tasks cpu.0))) few
few_act limits w at (act.Stall pid) h few = not_more _ _ _ _ 65536 (counted_act always (λ t ready. refl) limits w at (act.Stall pid) h) (changed_not_more _ (task_of w.tasks pid.0)) few
few_act limits w at (act.Unstall pid) h few = not_more _ _ _ _ 65536 (counted_act always (λ t ready. refl) limits w at (act.Unstall pid) h) (changed_not_more _ (task_of w.tasks pid.0)) few
few_act limits w at (act.Migrate pid cpu) h few = not_more _ _ _ _ 65536 (counted_act always (λ t ready. refl) limits w at (act.Migrate pid cpu) h) (changed_not_more _ (task_of w.tasks pid.0)) few
few_act limits w at (act.Move pid path) h few = not_more _ _ _ _ 65536 (counted_act always (λ t ready. refl) limits w at (act.Move pid path) h) (changed_not_more _ (task_of w.tasks pid.0)) few
few_act limits w at _ h few = few

-- ---- numbers of the world

one_trigger : (b : Bool) (n : ℕ) → (b && nat_le 256 n) ≡ false → n ≤ 256 → n + (if b then 1 else 0) ≤ 256
one_trigger true n h few = grind (arith, nat_tests)
one_trigger false n h few = omega (arith, few)

one_pressure : (b : Bool) (n : ℕ) → (b && nat_le 65536 n) ≡ false → n ≤ 65536 → n + (if b then 1 else 0) ≤ 65536
one_pressure true n h few = grind (arith, nat_tests)
one_pressure false n h few = omega (arith, few)

one_line : (n : ℕ) → nat_le 4000000 n ≡ false → n + 1 ≤ 4000000
one_line n h = grind (arith, nat_tests)

in_time : (latest at : ℕ) → nat_lt latest at ≡ false → at ≤ latest
in_time latest at h = grind (arith, nat_tests)

-- slots that there are stay
wider : (cpus slots more : ℕ) → slots ≤ more → (tasks : Tasks) → AreWithin cpus slots tasks → AreWithin cpus more tasks
wider cpus slots more room tasks within pid =
    elim (task_of tasks pid) as (λ o. IfSome o (λ task. (task.cpu.0 < cpus) × (task.slot.0 < slots)) → IfSome o (λ task. (task.cpu.0 < cpus) × (task.slot.0 < more))) [
      | None ↦ λ _. tt
      | Some task ↦ λ fits. (fits.0, omega (arith, fits.1, room))
    ] (within pid)

-- there are as many parents as groups
pub parent_each : (groups : List GroupLife) → length (parents_of groups) ≡ length groups
parent_each groups = length-map groups (λ group. number_of_slot group.parent)

-- groups are never fewer
pub more_groups : (w : World) (event : Event) → length w.groups ≤ length (after_event w event).groups
more_groups w event =
    let same = ap length (parents_kept w event) ∙ length-append (parents_of w.groups) (new_parents w.groups event.act) in
    omega (arith, same, parent_each w.groups, parent_each (after_event w event).groups)

-- ---- legal worlds

pub legal_first : LegalFirst
legal_first limits = record {
  groups = groups_first;
  within = within_first limits.cpus 1;
  once = runs_once_first;
  few_tasks = omega (arith, fin.len-empty nat_cmp Task);
  few_triggers = omega arith;
  few_pressures = omega arith;
  few_lines = omega arith;
  early = omega arith;
}

pub legal_kept : LegalKept
unfolding cause_of
legal_kept limits w event legal world = record {
  groups = groups_kept limits w event legal world.groups;
  within = wider limits.cpus (length w.groups) (length (after_event w event).groups) (more_groups w event) (after_event w event).tasks (within_kept limits w event legal world.within);
  once = runs_once_kept limits w event legal world.once;
  few_tasks = omega (arith, few_act limits w event.at event.act legal (omega (arith, counted_all w.tasks, world.few_tasks)), counted_all (after_event w event).tasks);
  few_triggers = one_trigger (is_trigger event.act) w.triggers (passed (λ why. applies why limits w event) cause_order 6 cause.TooManyTriggers legal refl) world.few_triggers;
  few_pressures = one_pressure (is_pressure event.act) w.pressures (passed (λ why. applies why limits w event) cause_order 7 cause.TooManyPressures legal refl) world.few_pressures;
  few_lines = one_line w.lines (passed (λ why. applies why limits w event) cause_order 3 cause.TooManyEvents legal refl);
  early = in_time limits.latest event.at (passed (λ why. applies why limits w event) cause_order 2 cause.TimeTooLate legal refl);
}

-- ---- tasks that count

-- tests that agree on each entry choose the same
chosen_same : (p q : Task → Bool) (es : List (ℕ × Task)) → AllByRecursion (λ e. p e.1 ≡ q e.1) es → filter p (map (λ e. e.1) es) ≡ filter q (map (λ e. e.1) es)
chosen_same p q [] same = refl
chosen_same p q (e ∷ es) same = rw (same.0, chosen_same p q es same.1) refl

-- each entry's slot is below the last
entries_within : (cpus slots : ℕ) (tasks : Tasks) → AreWithin cpus slots tasks → (es : List (ℕ × Task)) → AllByRecursion (λ e. task_of tasks e.0 ≡ Some e.1) es → AllByRecursion (λ e. e.1.slot.0 < slots) es
entries_within cpus slots tasks within [] at = tt
entries_within cpus slots tasks within (e ∷ es) at =
    let here : (e.1.cpu.0 < cpus) × (e.1.slot.0 < slots) = subst (λ o. IfSome o (λ task. (task.cpu.0 < cpus) × (task.slot.0 < slots))) at.0 (within e.0) in
    (here.1, entries_within cpus slots tasks within es at.1)

entries_same : (parents more : List (Option ℕ)) (cpu slot slots : ℕ) → ((low : ℕ) → low < slots → is_under (parents ++ more) low slot ≡ is_under parents low slot) → (es : List (ℕ × Task)) → AllByRecursion (λ e. e.1.slot.0 < slots) es → AllByRecursion (λ e. is_in (parents ++ more) cpu slot e.1 ≡ is_in parents cpu slot e.1) es
entries_same parents more cpu slot slots under [] below = tt
entries_same parents more cpu slot slots under (e ∷ es) below =
    (ap (λ b. e.1.cpu.0 == cpu && b) (under e.1.slot.0 below.0), entries_same parents more cpu slot slots under es below.1)

pub same_tasks_later : SameTasksLater
same_tasks_later limits w world more cpu slot =
    let under : (low : ℕ) → low < length w.groups → is_under (parents_of w.groups ++ more) low slot ≡ is_under (parents_of w.groups) low slot = λ low room. climbs_kept (parents_of w.groups) more low slot world.groups.older (omega (arith, room, parent_each w.groups)) in
    chosen_same (is_in (parents_of w.groups ++ more) cpu slot) (is_in (parents_of w.groups) cpu slot) (fin.entries w.tasks)
    (entries_same (parents_of w.groups) more cpu slot (length w.groups) under (fin.entries w.tasks) (entries_within limits.cpus (length w.groups) w.tasks world.within (fin.entries w.tasks) (found w.tasks)))

-- ---- how many count

pub chosen_fewer : (p : Task → Bool) (tasks : List Task) → length (filter p tasks) ≤ length tasks
chosen_fewer p [] = omega arith
chosen_fewer p (task ∷ tasks) =
    let rest = chosen_fewer p tasks in
    elim (p task) as (λ b. length (cond b (task ∷ filter p tasks) (filter p tasks)) ≤ length (task ∷ tasks)) [
      | true ↦ let goal : length (filter p tasks) + 1 ≤ length tasks + 1 = omega (arith, rest) in omega (arith, goal)
      | false ↦ omega (arith, rest)
    ]

few_chosen : (limits : Limits) (w : World) → IsLegalWorld limits w → (parents : List (Option ℕ)) (cpu slot : ℕ) (test : Task → Bool) → how_many test (tasks_in parents cpu slot w.tasks) ≤ 65536
few_chosen limits w world parents cpu slot test =
    let first = chosen_fewer test (tasks_in parents cpu slot w.tasks) in
    let second = chosen_fewer (is_in parents cpu slot) (fin.values w.tasks) in
    let all : length (fin.values w.tasks) ≡ fin.len w.tasks = length-map (fin.entries w.tasks) (λ e. e.1) ∙ sym (fin.len-entries w.tasks) in
    omega (arith, first, second, all, world.few_tasks)

pub counts_are_few : CountsAreFew
counts_are_few limits w world parents cpu slot = record {
  io = few_chosen limits w world parents cpu slot _;
  stalled = few_chosen limits w world parents cpu slot _;
  running = few_chosen limits w world parents cpu slot _;
  stalled_running = few_chosen limits w world parents cpu slot _;
}

-- ---- counts over a trace

-- the sums over a change and then over others are the sums over all
all_follow : (old first middle new : Counts) (minus plus more_minus more_plus : Counts) → Follows old minus plus middle → Follows middle more_minus more_plus new → Follows old (both_counts minus more_minus) (both_counts plus more_plus) new
all_follow old first middle new minus plus more_minus more_plus one others = record {
  io = omega (arith, one.io, others.io);
  stalled = omega (arith, one.stalled, others.stalled);
  running = omega (arith, one.running, others.running);
  stalled_running = omega (arith, one.stalled_running, others.stalled_running);
}

-- the change of a touched processor has the parts of the task that the event changes
change_parts : (w : World) (event : Event) (cpu : ℕ) (change : Change) → change_of w event cpu ≡ Some change → (change.minus ≡ part cpu (before w.tasks event.act)) × (change.plus ≡ part cpu (task_after w.groups w.tasks event.act))
unfolding change_of
change_parts w event cpu change is = parts_then (touched event.act (before w.tasks event.act) cpu) (change_on w.groups event (before w.tasks event.act) (task_after w.groups w.tasks event.act) (tasks_after w.groups w.tasks event.act) cpu) change is
  where
    parts_then : (b : Bool) (made other : Change) → (if b then Some made else None) ≡ Some other → (other.minus ≡ made.minus) × (other.plus ≡ made.plus)
    parts_then true made other same = let e : made ≡ other = cc same in (ap (λ (x : Change). x.minus) (sym e), ap (λ (x : Change). x.plus) (sym e))
    parts_then false made other same = absurd (cc same)

-- an event's change, if it has one, and the changes after it
sums_on : (limits : Limits) (w : World) (event : Event) → cause_of limits w event ≡ None → (parents : List (Option ℕ)) (cpu slot : ℕ) (o : Option Change) → change_of w event cpu ≡ o → (changes : List Change) (new : Counts)
    → Follows (counts_among (tasks_in parents cpu slot (after_event w event).tasks)) (taken parents slot changes) (added parents slot changes) new
    → Follows (counts_among (tasks_in parents cpu slot w.tasks)) (taken parents slot (with_change o changes)) (added parents slot (with_change o changes)) new
sums_on limits w event legal parents cpu slot None is changes new follows =
    subst (λ old. Follows old (taken parents slot changes) (added parents slot changes) new) ((stays_untouched limits w event legal cpu is parents slot).0) follows
sums_on limits w event legal parents cpu slot (Some change) is changes new follows =
    let parts = change_parts w event cpu change is in
    let one = counts_follow limits w event legal parents cpu slot in
    all_follow _ no_counts _ new (on_chain parents slot change.minus) (on_chain parents slot change.plus) (taken parents slot changes) (added parents slot changes) (rw (parts.0, parts.1) one) follows

sums_from : (limits : Limits) (w : World) (events : List Event) → AreLegal limits w events → (parents : List (Option ℕ)) (cpu slot : ℕ)
    → Follows (counts_among (tasks_in parents cpu slot w.tasks)) (taken parents slot (changes_from cpu w events)) (added parents slot (changes_from cpu w events)) (counts_among (tasks_in parents cpu slot (after_from w events).tasks))
sums_from limits w [] legal parents cpu slot = record { io = refl; stalled = refl; running = refl; stalled_running = refl }
sums_from limits w (event ∷ events) legal parents cpu slot =
    sums_on limits w event legal.0 parents cpu slot (change_of w event cpu) refl (changes_from cpu (after_event w event) events) _ (sums_from limits (after_event w event) events legal.1 parents cpu slot)

pub counts_are_sums : CountsAreSums
counts_are_sums limits events legal parents cpu slot =
    subst (λ old. Follows old (taken parents slot (changes_from cpu first_world events)) (added parents slot (changes_from cpu first_world events)) (counts_among (tasks_in parents cpu slot (after events).tasks)))
    (ap (λ es. counts_among (filter (is_in parents cpu slot) (map (λ (e : ℕ × Task). e.1) es))) no_entries) (sums_from limits first_world events legal parents cpu slot)
