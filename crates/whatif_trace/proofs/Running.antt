-- Proves that the list of running tasks stays correct after each legal event.
use Rattle.std.proofs.Common.{◌≡◌, ℕ, ◌<◌, List, [], ◌∷◌, refl, ap, ◌∙◌, sym, subst, arith, cond, Bool, true, false, Option, None, Some, ◌==◌, length, ⊎_elim}
use Rattle.std.specs.Prelude.{◌&&◌, IfSome, nat_le, not, replicate, slice_index_or, slice_set}
use Rattle.std.specs.FinMap as tasks_by
use Rattle.std.specs.Ordering.{nat_cmp}
use Rattle.std.proofs.lemmas.Bool.Decides.{eqb_tells, nat_tests}
use Rattle.std.proofs.lemmas.List.{get_or-replicate, get_or-set_same, get_or-set_other, length-replicate, length-set}
use Rattle.psi_base.specs.declared.event.Act.{Act}
use Rattle.psi_base.specs.declared.event.Act.TheVariants as act
use Rattle.psi_base.specs.declared.event.Cpu.{Cpu}
use Rattle.psi_base.specs.declared.event.Event.{Event}
use Rattle.psi_base.specs.declared.event.How.{How}
use Rattle.psi_base.specs.declared.event.How.TheVariants.{Preempt, Sleep, IoWait, Exit, Idle}
use Rattle.psi_base.specs.declared.event.Pid.{Pid}
use Rattle.psi_base.specs.Missing.{is_some_and}
use Rattle.psi_spec.specs.declared.machine.Mode.{Mode}
use Rattle.psi_spec.specs.declared.machine.Mode.TheVariants.{Blocked, Waiting, Ready, Running}
use Rattle.psi_spec.specs.declared.machine.Task.{Task}
use Rattle.psi_spec.specs.Refusal.{AreLegal, is_wrong}
use Rattle.psi_spec.specs.World.{Limits, Tasks, World, after_event, after_from, change_to, is_active, is_ready, is_ready_on, is_running, is_running_on, leave, left_by, new_task, no_tasks, placed, prepared_changes, running_on, start, task_of, tasks_after}
use Rattle.psi_spec.proofs.RefusalLaws.{first_true, second_true}
use Rattle.psi_spec.proofs.TaskLaws.{get_put, task_placed}
use Rattle.psi_counts.specs.Touch.{changed}
use Rattle.psi_counts.proofs.TouchCounts.{running_found}
use Rattle.psi_counts.proofs.TouchLaws.{ready_left}
use Rattle.task_table.specs.Named.{next_task}
use Rattle.task_table.proofs.CauseLaws.{let_through, may_switch, migrate_off, wake_off}
use Rattle.task_table.proofs.Runners.{runs_there}
use Rattle.whatif_spec.specs.Without.{pid_part}
use Rattle.whatif_trace.specs.Left.{AreRunners, exited, is_pid, runner_at, turned, turned_by}
use Rattle.whatif_trace.proofs.Leaving.{found_changed, found_started, running, started}
use Rattle.whatif_trace.proofs.Steps.{NoneAgainst, may_fork}

-- ---- the task that is found

same_number : (a b : ℕ) → (a == b) ≡ true → a ≡ b
same_number a b is = grind (arith, nat_tests)

itself_is : (a : ℕ) → (a == a) ≡ true
itself_is a = grind (arith, nat_tests)

some_found : (e : ℕ × Task) (place : Option Pid) → is_pid e.0 place ≡ true → pid_part (Some e) ≡ place
some_found e None is = absurd (let no : ⊥ = cc is in no)
some_found e (Some pid) is = ap (λ n. let o : Option Pid = Some (record { 0 = n }) in o) (same_number e.0 pid.0 is)

none_found : (tasks : Tasks) (cpu : ℕ) (place : Option Pid) → ((q : ℕ) → is_some_and (task_of tasks q) (is_running_on cpu) ≡ is_pid q place) → running_on tasks cpu ≡ None → (o : Option Task) → IfSome place (λ pid. task_of tasks pid.0 ≡ o) → None ≡ place
none_found tasks cpu None each none o is = refl
none_found tasks cpu (Some pid) each none None is =
    let runs = each pid.0 ∙ itself_is pid.0 in
    absurd (let no : ⊥ = cc (sym (ap (λ o. is_some_and o (is_running_on cpu)) is) ∙ runs) in no)
none_found tasks cpu (Some pid) each none (Some task) is =
    let runs = each pid.0 ∙ itself_is pid.0 in
    let some = runs_there tasks pid.0 task cpu is (sym (ap (λ o. is_some_and o (is_running_on cpu)) is) ∙ runs) in
    absurd (let no : ⊥ = cc (some, none) in no)

place_task : (tasks : Tasks) (place : Option Pid) → (o : Option Task) × IfSome place (λ pid. task_of tasks pid.0 ≡ o)
place_task tasks None = (None, tt)
place_task tasks (Some pid) = (task_of tasks pid.0, refl)

by_found : (tasks : Tasks) (cpu : ℕ) (place : Option Pid) → ((q : ℕ) → is_some_and (task_of tasks q) (is_running_on cpu) ≡ is_pid q place) → (o : Option (ℕ × Task)) → running_on tasks cpu ≡ o → pid_part o ≡ place
by_found tasks cpu place each None is = let there = place_task tasks place in none_found tasks cpu place each is there.0 there.1
by_found tasks cpu place each (Some e) is =
    let there = running_found tasks cpu e is in
    some_found e place (sym (each e.0) ∙ ap (λ o. is_some_and o (is_running_on cpu)) there.0 ∙ there.1)

-- The list has the task that runs on each processor.
pub runner_known : (cpus : ℕ) (runners : List (Option Pid)) (tasks : Tasks) (cpu : ℕ) → AreRunners cpus runners tasks → cpu < cpus → pid_part (running_on tasks cpu) ≡ runner_at runners cpu
runner_known cpus runners tasks cpu are room = by_found tasks cpu (runner_at runners cpu) (λ q. are.each q cpu room) (running_on tasks cpu) refl

-- ---- no task runs at first

none_at : (n cpu : ℕ) → cpu < n → slice_index_or (replicate n (let o : Option Pid = None in o)) cpu None ≡ None
none_at n cpu room = get_or-replicate n cpu None None room

-- ---- changes that don't affect whether a task runs

-- A change of a task doesn't change whether the task runs on the processor.
abbrev Alike : ℕ → Option Task → Option Task → Type 0
Alike cpu before now = is_some_and now (is_running_on cpu) ≡ is_some_and before (is_running_on cpu)

pub record Keeps (before now : Tasks) : Type 0 where
  pub each : (q cpu : ℕ) → Alike cpu (task_of before q) (task_of now q)

same_runners : (cpus : ℕ) (runners : List (Option Pid)) (before now : Tasks) → AreRunners cpus runners before → Keeps before now → AreRunners cpus runners now
same_runners cpus runners before now are keeps = record { long = are.long; each = λ q cpu room. keeps.each q cpu ∙ are.each q cpu room }

keeps_change : (tasks : Tasks) (k : ℕ) (f : Task → Task) → ((cpu : ℕ) → Alike cpu (task_of tasks k) (changed f (task_of tasks k))) → Keeps tasks (change_to tasks k f (task_of tasks k))
keeps_change tasks k f alike = record {
  each = λ q cpu.
      ap (λ o. is_some_and o (is_running_on cpu)) (found_changed tasks k f (task_of tasks k) refl q)
      ∙ ⊎_elim
      (λ same. ap (λ b. is_some_and (cond b (changed f (task_of tasks k)) (task_of tasks q)) (is_running_on cpu)) same.0 ∙ alike cpu ∙ ap (λ n. is_some_and (task_of tasks n) (is_running_on cpu)) (sym same.1))
      (λ other. ap (λ b. is_some_and (cond b (changed f (task_of tasks k)) (task_of tasks q)) (is_running_on cpu)) other.0)
      (eqb_tells q k);
}

same_place : (f : Task → Task) → ((task : Task) (cpu : ℕ) → is_running_on cpu (f task) ≡ is_running_on cpu task) → (o : Option Task) (cpu : ℕ) → Alike cpu o (changed f o)
same_place f same None cpu = refl
same_place f same (Some task) cpu = same task cpu

and_false : (b c : Bool) → c ≡ false → (b && c) ≡ false
and_false true c off = off
and_false false c off = refl

resting : (task : Task) (cpu : ℕ) → is_running task.mode ≡ false → is_running_on cpu task ≡ false
resting task cpu off = and_false (task.cpu.0 == cpu) (is_running task.mode) off

now_ready : (to : ℕ) (o : Option Task) (cpu : ℕ) → IfSome o (λ task. is_running task.mode ≡ false) → Alike cpu o (changed (prepared_changes to) o)
now_ready to None cpu off = refl
now_ready to (Some task) cpu off = resting (prepared_changes to task) cpu refl ∙ sym (resting task cpu off)

asleep : (mode : Mode) → is_active mode ≡ false → is_running mode ≡ false
asleep Running off = absurd (let no : ⊥ = cc off in no)
asleep Ready off = refl
asleep Blocked off = refl
asleep Waiting off = refl

on_queue : (mode : Mode) → not (is_ready mode) ≡ false → is_running mode ≡ false
on_queue Running off = absurd (let no : ⊥ = cc off in no)
on_queue Ready off = refl
on_queue Blocked off = refl
on_queue Waiting off = refl

if_asleep : (o : Option Task) → is_some_and o (λ task. is_active task.mode) ≡ false → IfSome o (λ task. is_running task.mode ≡ false)
if_asleep None off = tt
if_asleep (Some task) off = asleep task.mode off

if_queued : (o : Option Task) → is_some_and o (λ task. not (is_ready task.mode)) ≡ false → IfSome o (λ task. is_running task.mode ≡ false)
if_queued None off = tt
if_queued (Some task) off = on_queue task.mode off

keeps_new : (tasks : Tasks) (k : ℕ) (task : Task) → task_of tasks k ≡ None → is_running task.mode ≡ false → Keeps tasks (placed tasks k (Some task))
keeps_new tasks k task none off = record {
  each = λ q cpu.
      ap (λ o. is_some_and o (is_running_on cpu)) (get_put tasks k task q)
      ∙ ⊎_elim
      (λ same. ap (λ b. is_some_and (cond b (Some task) (task_of tasks q)) (is_running_on cpu)) same.0 ∙ resting task cpu off ∙ sym (ap (λ o. is_some_and o (is_running_on cpu)) (ap (task_of tasks) same.1 ∙ none)))
      (λ other. ap (λ b. is_some_and (cond b (Some task) (task_of tasks q)) (is_running_on cpu)) other.0)
      (eqb_tells q k);
}

-- ---- a switch

-- The result of looking up a task after the running task was switched out.
abbrev gone_by : How → Option (ℕ × Task) → ℕ → Option Task → Option Task
gone_by how None q found = found
gone_by how (Some e) q found = cond (q == e.0) (left_by how e.1) found

found_left : (tasks : Tasks) (how : How) (o : Option (ℕ × Task)) (q : ℕ) → task_of (leave how tasks o) q ≡ gone_by how o q (task_of tasks q)
found_left tasks how None q = refl
found_left tasks how (Some e) q = task_placed tasks e.0 (left_by how e.1) q

left_rests : (cpu : ℕ) (how : How) (e : ℕ × Task) → is_wrong how (Some e) ≡ false → is_some_and (left_by how e.1) (is_running_on cpu) ≡ false
left_rests cpu Preempt e right = resting (record e.1 { mode = Ready }) cpu refl
left_rests cpu Sleep e right = resting (record e.1 { mode = Blocked }) cpu refl
left_rests cpu IoWait e right = resting (record e.1 { mode = Waiting }) cpu refl
left_rests cpu Exit e right = refl
left_rests cpu Idle e right = absurd (let no : ⊥ = cc right in no)

one_place : (task : Task) (c cpu : ℕ) → is_running_on cpu task ≡ true → (c == cpu) ≡ false → is_running_on c task ≡ false
one_place t c cpu h n = grind (arith, nat_tests)

ready_place : (task : Task) (c cpu : ℕ) → is_ready_on cpu task ≡ true → (c == cpu) ≡ false → is_running_on c (running task) ≡ false
ready_place t c cpu h n = grind (arith, nat_tests)

-- After the running task was switched out, no task runs on the processor.
off_here : (tasks : Tasks) (cpu : ℕ) (how : How) (o : Option (ℕ × Task)) → running_on tasks cpu ≡ o → is_wrong how o ≡ false → ((q : ℕ) → is_some_and (task_of tasks q) (is_running_on cpu) ≡ is_pid q (pid_part o)) → (q : ℕ) → is_some_and (gone_by how o q (task_of tasks q)) (is_running_on cpu) ≡ false
off_here tasks cpu how None runs right each q = each q
off_here tasks cpu how (Some e) runs right each q =
    elim (q == e.0) as (λ b. (q == e.0) ≡ b → is_some_and (cond b (left_by how e.1) (task_of tasks q)) (is_running_on cpu) ≡ false) [
      | true ↦ λ _. left_rests cpu how e right
      | false ↦ λ other. each q ∙ other
    ] refl

-- On all other processors, the same tasks run as before.
still_there : (tasks : Tasks) (c cpu : ℕ) (how : How) (o : Option (ℕ × Task)) → running_on tasks cpu ≡ o → is_wrong how o ≡ false → (c == cpu) ≡ false → (q : ℕ) → Alike c (task_of tasks q) (gone_by how o q (task_of tasks q))
still_there tasks c cpu how None runs right other q = refl
still_there tasks c cpu how (Some e) runs right other q =
    let there = running_found tasks cpu e runs in
    ⊎_elim
    (λ same. ap (λ b. is_some_and (cond b (left_by how e.1) (task_of tasks q)) (is_running_on c)) same.0 ∙ left_rests c how e right ∙ sym (one_place e.1 c cpu there.1 other) ∙ sym (ap (λ o. is_some_and o (is_running_on c)) (ap (task_of tasks) same.1 ∙ there.0)))
    (λ apart. ap (λ b. is_some_and (cond b (left_by how e.1) (task_of tasks q)) (is_running_on c)) apart.0)
    (eqb_tells q e.0)

-- The next task runs on the processor if it was ready there.
now_runs : (cpu : ℕ) (found : Option Task) → is_some_and found (is_ready_on cpu) ≡ true → is_some_and (changed running found) (is_running_on cpu) ≡ true
now_runs cpu None ready = absurd (let no : ⊥ = cc ready in no)
now_runs cpu (Some task) ready = rw (first_true (task.cpu.0 == cpu) (is_ready task.mode) ready) refl

runs_here : (cpu : ℕ) (next : Option Pid) (q : ℕ) (found : Option Task) → is_some_and found (is_running_on cpu) ≡ false → IfSome next (λ pid. (q == pid.0) ≡ true → is_some_and found (is_ready_on cpu) ≡ true) → is_some_and (started next q found) (is_running_on cpu) ≡ is_pid q next
runs_here cpu None q found off ready = off
runs_here cpu (Some pid) q found off ready =
    elim (q == pid.0) as (λ b. (q == pid.0) ≡ b → is_some_and (cond b (changed running found) found) (is_running_on cpu) ≡ b) [
      | true ↦ λ same. now_runs cpu found (ready same)
      | false ↦ λ _. off
    ] refl

-- A ready task doesn't run.
ready_off : (mode : Mode) → is_ready mode ≡ true → is_running mode ≡ false
ready_off Ready on = refl
ready_off Running on = absurd (let no : ⊥ = cc on in no)
ready_off Blocked on = refl
ready_off Waiting on = refl

runs_apart : (c cpu : ℕ) (found : Option Task) → is_some_and found (is_ready_on cpu) ≡ true → (c == cpu) ≡ false → Alike c found (changed running found)
runs_apart c cpu None ready other = refl
runs_apart c cpu (Some task) ready other = ready_place task c cpu ready other ∙ sym (resting task c (ready_off task.mode (second_true (task.cpu.0 == cpu) (is_ready task.mode) ready)))

elsewhere : (c cpu : ℕ) (next : Option Pid) (q : ℕ) (found : Option Task) → (c == cpu) ≡ false → IfSome next (λ pid. (q == pid.0) ≡ true → is_some_and found (is_ready_on cpu) ≡ true) → Alike c found (started next q found)
elsewhere c cpu None q found other ready = refl
elsewhere c cpu (Some pid) q found other ready =
    elim (q == pid.0) as (λ b. (q == pid.0) ≡ b → Alike c found (cond b (changed running found) found)) [
      | true ↦ λ same. runs_apart c cpu found (ready same) other
      | false ↦ λ _. refl
    ] refl

-- The next task is still ready after the running task was switched out.
still_ready : (tasks : Tasks) (cpu : ℕ) (how : How) (next : Option Pid) → IfSome next (λ _. is_some_and (next_task tasks next) (is_ready_on cpu) ≡ true) → (q : ℕ) → IfSome next (λ pid. (q == pid.0) ≡ true → is_some_and (task_of (leave how tasks (running_on tasks cpu)) q) (is_ready_on cpu) ≡ true)
still_ready tasks cpu how None ready q = tt
still_ready tasks cpu how (Some pid) ready q = λ is.
    let same : q ≡ pid.0 = same_number q pid.0 is in
    ap (λ n. is_some_and (task_of (leave how tasks (running_on tasks cpu)) n) (is_ready_on cpu)) same
    ∙ ap (λ o. is_some_and o (is_ready_on cpu)) (ready_left tasks cpu how pid.0 ready (running_on tasks cpu) refl) ∙ ready

length_set : (runners : List (Option Pid)) (cpu : ℕ) (next : Option Pid) → length (slice_set runners cpu next) ≡ length runners
length_set runners cpu next = length-set runners cpu next

below : (cpus cpu : ℕ) → nat_le cpus cpu ≡ false → cpu < cpus
below cpus cpu off = grind (arith, nat_tests)

pub switched : (limits : Limits) (w : World) (runners : List (Option Pid)) (cpu : Cpu) (next : Option Pid) (how : How) → AreRunners limits.cpus runners w.tasks → nat_le limits.cpus cpu.0 ≡ false → IfSome next (λ _. is_some_and (next_task w.tasks next) (is_ready_on cpu.0) ≡ true) → is_wrong how (running_on w.tasks cpu.0) ≡ false
    → AreRunners limits.cpus (slice_set runners cpu.0 next) (start next (leave how w.tasks (running_on w.tasks cpu.0)))
switched limits w runners cpu next how are there ready right =
    let room = below limits.cpus cpu.0 there in
    let left = leave how w.tasks (running_on w.tasks cpu.0) in
    let known = runner_known limits.cpus runners w.tasks cpu.0 are room in
    record {
      long = length_set runners cpu.0 next ∙ are.long;
      each = λ q c inside.
          ap (λ o. is_some_and o (is_running_on c)) (found_started left next q)
          ∙ ⊎_elim
          (λ same.
          let off : is_some_and (task_of left q) (is_running_on cpu.0) ≡ false = ap (λ o. is_some_and o (is_running_on cpu.0)) (found_left w.tasks how (running_on w.tasks cpu.0) q) ∙ off_here w.tasks cpu.0 how (running_on w.tasks cpu.0) refl right (λ k. are.each k cpu.0 room ∙ ap (is_pid k) (sym known)) q in
          ap (λ n. is_some_and (started next q (task_of left q)) (is_running_on n)) same.1
          ∙ runs_here cpu.0 next q (task_of left q) off (still_ready w.tasks cpu.0 how next ready q)
          ∙ ap (is_pid q) (sym (ap (λ n. slice_index_or (slice_set runners cpu.0 next) n None) same.1 ∙ get_or-set_same runners cpu.0 next None (subst (λ n. cpu.0 < n) (sym are.long) room))))
          (λ other.
          elsewhere c cpu.0 next q (task_of left q) other.0 (still_ready w.tasks cpu.0 how next ready q)
          ∙ ap (λ o. is_some_and o (is_running_on c)) (found_left w.tasks how (running_on w.tasks cpu.0) q)
          ∙ still_there w.tasks c cpu.0 how (running_on w.tasks cpu.0) refl right other.0 q
          ∙ are.each q c inside
          ∙ ap (is_pid q) (sym (get_or-set_other runners cpu.0 c next None other.1)))
          (eqb_tells c cpu.0);
    }

-- ---- any legal event

pub turns : (limits : Limits) (w : World) (at : ℕ) (runners : List (Option Pid)) (what : Act) → AreRunners limits.cpus runners w.tasks → NoneAgainst limits w at what → AreRunners limits.cpus (turned runners what) (tasks_after w.groups w.tasks what)
turns limits w at runners (act.Fork pid path cpu) are none =
    let may = may_fork limits.cpus w.groups (tasks_by.len w.tasks) (task_of w.tasks pid.0) path cpu.0 none in
    same_runners limits.cpus runners w.tasks _ are (keeps_new w.tasks pid.0 (new_task w.groups path cpu.0) may.new refl)
turns limits w at runners (act.Wake pid cpu) are none =
    same_runners limits.cpus runners w.tasks _ are (keeps_change w.tasks pid.0 (prepared_changes cpu.0) (λ c. now_ready cpu.0 (task_of w.tasks pid.0) c (if_asleep (task_of w.tasks pid.0) (wake_off limits.cpus (task_of w.tasks pid.0) cpu.0 none))))
turns limits w at runners (act.Migrate pid cpu) are none =
    same_runners limits.cpus runners w.tasks _ are (keeps_change w.tasks pid.0 (prepared_changes cpu.0) (λ c. now_ready cpu.0 (task_of w.tasks pid.0) c (if_queued (task_of w.tasks pid.0) (migrate_off limits.cpus (task_of w.tasks pid.0) cpu.0 none))))
turns limits w at runners (act.Stall pid) are none =
    same_runners limits.cpus runners w.tasks _ are (keeps_change w.tasks pid.0 _ (same_place _ (λ task c. refl) (task_of w.tasks pid.0)))
turns limits w at runners (act.Unstall pid) are none =
    same_runners limits.cpus runners w.tasks _ are (keeps_change w.tasks pid.0 _ (same_place _ (λ task c. refl) (task_of w.tasks pid.0)))
turns limits w at runners (act.Move pid path) are none =
    same_runners limits.cpus runners w.tasks _ are (keeps_change w.tasks pid.0 _ (same_place _ (λ task c. refl) (task_of w.tasks pid.0)))
turns limits w at runners (act.Switch cpu next how) are none =
    let may = may_switch limits.cpus cpu.0 next (next_task w.tasks next) how (running_on w.tasks cpu.0) none in
    switched limits w runners cpu next how are may.room may.ready may.leaves
turns limits w at runners (act.Group path) are none = are
turns limits w at runners (act.Remove path) are none = are
turns limits w at runners (act.Prefer path preference) are none = are
turns limits w at runners (act.Mem path current swap scan) are none = are
turns limits w at runners (act.Host mem_total swap_total swap_free) are none = are
turns limits w at runners (act.Trigger path res level threshold_us window_us) are none = are
turns limits w at runners (act.Irq cpu ns) are none = are
turns limits w at runners (act.Pressure path on) are none = are
turns limits w at runners act.End are none = are

-- The list stays correct after any number of legal events.
pub turn_by_turn : (limits : Limits) (w : World) (events : List Event) (runners : List (Option Pid)) → AreRunners limits.cpus runners w.tasks → AreLegal limits w events → AreRunners limits.cpus (turned_by runners events) (after_from w events).tasks
turn_by_turn limits w [] runners are legal = are
turn_by_turn limits w (event ∷ events) runners are legal =
    turn_by_turn limits (after_event w event) events (turned runners event.act) (turns limits w event.at runners event.act are (let_through limits w event legal.0)) legal.1

-- No task runs before the first event.
pub none_first : (cpus : ℕ) → AreRunners cpus (replicate cpus None) no_tasks
none_first cpus = record {
  long = length-replicate cpus (let o : Option Pid = None in o);
  each = λ q cpu room. ap (λ o. is_some_and o (is_running_on cpu)) (tasks_by.get-empty nat_cmp q) ∙ sym (ap (is_pid q) (none_at cpus cpu room));
}

-- ---- a task that exits

apart_from : (q pid p : ℕ) → (pid == p) ≡ true → (q == pid) ≡ false → (q == p) ≡ false
apart_from q pid p same other = grind (arith, nat_tests)

other_pid : (pid q : ℕ) (place : Option Pid) → is_pid pid place ≡ true → (q == pid) ≡ false → is_pid q place ≡ false
other_pid pid q None is other = refl
other_pid pid q (Some p) is other = apart_from q pid p.0 is other

-- `less` is the map `tasks` without the task with the pid `pid`.
abbrev Gone : Tasks → ℕ → Tasks → Type 0
Gone tasks pid less = (k : ℕ) → task_of less k ≡ cond (k == pid) None (task_of tasks k)

-- After the exit of the running task, no task runs on its processor.
none_here : (tasks less : Tasks) (pid cpu : ℕ) (place : Option Pid) → Gone tasks pid less → ((q : ℕ) → is_some_and (task_of tasks q) (is_running_on cpu) ≡ is_pid q place) → is_pid pid place ≡ true → (q : ℕ) → is_some_and (task_of less q) (is_running_on cpu) ≡ false
none_here tasks less pid cpu place gone each is q =
    ap (λ o. is_some_and o (is_running_on cpu)) (gone q)
    ∙ elim (q == pid) as (λ b. (q == pid) ≡ b → is_some_and (cond b None (task_of tasks q)) (is_running_on cpu) ≡ false) [
      | true ↦ λ _. refl
      | false ↦ λ other. each q ∙ other_pid pid q place is other
    ] refl

-- The exit of a task that doesn't run doesn't change the running task.
same_here : (tasks less : Tasks) (pid cpu : ℕ) (task : Task) (place : Option Pid) → Gone tasks pid less → task_of tasks pid ≡ Some task → is_running_on cpu task ≡ false → ((q : ℕ) → is_some_and (task_of tasks q) (is_running_on cpu) ≡ is_pid q place) → (q : ℕ) → is_some_and (task_of less q) (is_running_on cpu) ≡ is_pid q place
same_here tasks less pid cpu task place gone is off each q =
    ap (λ o. is_some_and o (is_running_on cpu)) (gone q)
    ∙ ⊎_elim
    (λ same. ap (λ b. is_some_and (cond b None (task_of tasks q)) (is_running_on cpu)) same.0 ∙ sym (ap (λ o. is_some_and o (is_running_on cpu)) (ap (task_of tasks) same.1 ∙ is) ∙ off) ∙ each q)
    (λ other. ap (λ b. is_some_and (cond b None (task_of tasks q)) (is_running_on cpu)) other.0 ∙ each q)
    (eqb_tells q pid)

runs_on : (task : Task) → is_running task.mode ≡ true → is_running_on task.cpu.0 task ≡ true
runs_on task runs = rw (itself_is task.cpu.0, runs) refl

never : (tasks less : Tasks) (pid : ℕ) → task_of tasks pid ≡ None → Gone tasks pid less → Keeps tasks less
never tasks less pid none gone = record {
  each = λ q cpu. ap (λ o. is_some_and o (is_running_on cpu)) (gone q ∙ ⊎_elim (λ same. ap (λ b. cond b None (task_of tasks q)) same.0 ∙ sym (ap (task_of tasks) same.1 ∙ none)) (λ other. ap (λ b. cond b None (task_of tasks q)) other.0) (eqb_tells q pid));
}

-- After the exit of a running task, its processor is idle in the list.
pub exit_runs : (cpus : ℕ) (runners : List (Option Pid)) (tasks less : Tasks) (pid : ℕ) (o : Option Task) → AreRunners cpus runners tasks → task_of tasks pid ≡ o → IfSome o (λ task. task.cpu.0 < cpus) → Gone tasks pid less → AreRunners cpus (exited runners o) less
exit_runs cpus runners tasks less pid None are is inside gone = same_runners cpus runners tasks less are (never tasks less pid is gone)
exit_runs cpus runners tasks less pid (Some task) are is inside gone =
    elim (is_running task.mode) as (λ b. is_running task.mode ≡ b → AreRunners cpus (cond b (slice_set runners task.cpu.0 None) runners) less) [
      | true ↦ λ runs.
          let ran : is_pid pid (slice_index_or runners task.cpu.0 None) ≡ true = sym (are.each pid task.cpu.0 inside) ∙ ap (λ o. is_some_and o (is_running_on task.cpu.0)) is ∙ runs_on task runs in
          record {
            long = length_set runners task.cpu.0 None ∙ are.long;
            each = λ q cpu room. ⊎_elim
                (λ same.
                ap (λ n. is_some_and (task_of less q) (is_running_on n)) same.1
                ∙ none_here tasks less pid task.cpu.0 (slice_index_or runners task.cpu.0 None) gone (λ k. are.each k task.cpu.0 inside) ran q
                ∙ ap (is_pid q) (sym (ap (λ n. slice_index_or (slice_set runners task.cpu.0 None) n None) same.1 ∙ get_or-set_same runners task.cpu.0 None None (subst (λ n. task.cpu.0 < n) (sym are.long) inside))))
                (λ other.
                same_here tasks less pid cpu task (slice_index_or runners cpu None) gone is (one_place task cpu task.cpu.0 (runs_on task runs) other.0) (λ k. are.each k cpu room) q
                ∙ ap (is_pid q) (sym (get_or-set_other runners task.cpu.0 cpu None None other.1)))
                (eqb_tells cpu task.cpu.0);
          }
      | false ↦ λ off. record {
        long = are.long;
        each = λ q cpu room. same_here tasks less pid cpu task (slice_index_or runners cpu None) gone is (resting task cpu off) (λ k. are.each k cpu room) q;
      }
    ] refl
