-- Proves that the exits of killed tasks are legal.
use Rattle.std.proofs.Common.{◌≡◌, ℕ, ◌+◌, ◌<◌, List, [], ◌∷◌, ◌++◌, refl, ap, ◌∙◌, sym, subst, arith, cond, Bool, true, false, Option, None, Some, ◌==◌, length, ⊎_elim}
use Rattle.std.specs.Prelude.{◌&&◌, ◌||◌, IfSome, if◌then◌else◌, nat_le, not}
use Rattle.std.proofs.lemmas.Bool.Decides.{eqb_tells, nat_tests}
use Rattle.std.proofs.lemmas.List.{length-append, length-map}
use Rattle.psi_base.specs.declared.event.Act.{Act}
use Rattle.psi_base.specs.declared.event.Act.TheVariants as act
use Rattle.psi_base.specs.declared.event.How.TheVariants.{Exit}
use Rattle.psi_base.specs.declared.event.Pid.{Pid}
use Rattle.psi_base.specs.Missing.{is_some_and}
use Rattle.psi_spec.specs.declared.machine.Mode.{Mode}
use Rattle.psi_spec.specs.declared.machine.Mode.TheVariants.{Blocked, Waiting, Ready, Running}
use Rattle.psi_spec.specs.declared.machine.Task.{Task}
use Rattle.psi_spec.specs.Refusal.{AreLegal}
use Rattle.psi_spec.specs.World.{Limits, Tasks, World, after_event, after_from, change_to, is_active, is_ready_on, is_running, is_running_on, put, prepared_changes, running_on, task_of, events_at}
use Rattle.psi_spec.proofs.Following.{after_from-append}
use Rattle.psi_spec.proofs.RefusalLaws.{first_true, second_true}
use Rattle.psi_spec.proofs.TaskLaws.{get_put, itself}
use Rattle.psi_counts.specs.Touch.{RunsOnce}
use Rattle.psi_counts.proofs.TouchCounts.{running_found}
use Rattle.task_table.specs.Causes.{wake_cause}
use Rattle.task_table.proofs.Runners.{runs_there}
use Rattle.whatif_spec.specs.Without.{acts_if, exit_of, exits_from, is_pid_among, making_room, pid_part}
use Rattle.whatif_trace.specs.Rest.{IsWithout, kept}
use Rattle.whatif_trace.proofs.Steps.{event_at, of_tasks}
use Rattle.whatif_trace.proofs.Switching.{next_apart}
use Rattle.whatif_trace.proofs.Doing.{Does, IsReady, does_none, does_one, does_then, ready_for}
use Rattle.whatif_trace.proofs.Leaving.{IsNext, comes_in, leaves, preempted, put_aside, runner_is, running, started}
use Rattle.whatif_trace.proofs.Resting.{legal_join}

-- The task with the pid `pid` exits by these acts. Afterwards no task has this pid, and all other
-- tasks are unchanged.
pub record Exited (limits : Limits) (at room : ℕ) (v : World) (pid : ℕ) (acts : List Act) : Type 0 where
  pub does : Does limits at room v acts
  pub tasks : (k : ℕ) → task_of (after_from v (events_at at acts)).tasks k ≡ cond (k == pid) None (task_of v.tasks k)

-- ---- a ready task

mode_is : (mode : Mode) → is_running mode ≡ true → mode ≡ Running
mode_is Running is = refl
mode_is Ready is = absurd (let no : ⊥ = cc is in no)
mode_is Blocked is = absurd (let no : ⊥ = cc is in no)
mode_is Waiting is = absurd (let no : ⊥ = cc is in no)

-- A task that was switched out for the exiting task runs again afterwards.
runs_again : (task : Task) → is_running task.mode ≡ true → running (preempted task) ≡ task
runs_again task is = let same : record task { mode = Running } ≡ record task { mode = task.mode } = rw (mode_is task.mode is) refl in same

restored : (tasks : Tasks) (cpu : ℕ) (o : Option (ℕ × Task)) → running_on tasks cpu ≡ o → (k : ℕ) → started (pid_part o) k (put_aside o k (task_of tasks k)) ≡ task_of tasks k
restored tasks cpu None runs k = refl
restored tasks cpu (Some e) runs k =
    let there = running_found tasks cpu e runs in
    let again = runs_again e.1 (second_true (e.1.cpu.0 == cpu) (is_running e.1.mode) there.1) in
    ⊎_elim
    (λ same. rw (same.0) (ap Some again) ∙ sym (ap (task_of tasks) same.1 ∙ there.0))
    (λ other. rw (other.0) refl) (eqb_tells k e.0)

started_none : (next : Option Pid) (k : ℕ) → started next k None ≡ None
started_none None k = refl
started_none (Some next) k = elim (k == next.0) as (λ b. ◌≡◌ {A = Option Task} (cond b None None) None) [ true ↦ refl | false ↦ refl ]

all_back : (tasks : Tasks) (cpu pid : ℕ) (task : Task) (o : Option (ℕ × Task)) → running_on tasks cpu ≡ o → (k : ℕ) → started (pid_part o) k (cond (k == pid) None (cond (k == pid) (Some task) (put_aside o k (task_of tasks k)))) ≡ cond (k == pid) None (task_of tasks k)
all_back tasks cpu pid task o runs k =
    elim (k == pid) as (λ b. started (pid_part o) k (cond b None (cond b (Some task) (put_aside o k (task_of tasks k)))) ≡ cond b None (task_of tasks k)) [
      | true ↦ started_none (pid_part o) k
      | false ↦ restored tasks cpu o runs k
    ]

apart_too : (a b : ℕ) → (a == b) ≡ false → (b == a) ≡ false
apart_too a b off = grind (arith, nat_tests)

-- A task that was switched out is ready on its processor.
ready_next : (v u : Tasks) (cpu pid : ℕ) (task : Task) (o : Option (ℕ × Task)) → running_on v cpu ≡ o → is_some_and (task_of v pid) (is_ready_on cpu) ≡ true
    → ((k : ℕ) → task_of u k ≡ cond (k == pid) (Some task) (put_aside o k (task_of v k))) → IsNext u cpu (pid_part o)
ready_next v u cpu pid task None runs ready are = tt
ready_next v u cpu pid task (Some e) runs ready are =
    let there = running_found v cpu e runs in
    let other = apart_too pid e.0 (next_apart v cpu pid e ready runs) in
    let found : task_of u e.0 ≡ Some (preempted e.1) = are e.0 ∙ ap (λ b. cond b (Some task) (put_aside (Some e) e.0 (task_of v e.0))) other ∙ ap (λ b. cond b (Some (preempted e.1)) (task_of v e.0)) (itself e.0) in
    ap (λ o. is_some_and o (is_ready_on cpu)) found ∙ rw (first_true (e.1.cpu.0 == cpu) (is_running e.1.mode) there.1) refl

abbrev last_acts : Pid → Task → Option Pid → List Act
last_acts pid task next = acts_if task.stalled (act.Unstall pid ∷ []) ++ act.Switch task.cpu next Exit ∷ []

abbrev turn_acts : Pid → Task → Option (ℕ × Task) → List Act
turn_acts pid task o = act.Switch task.cpu (Some pid) (making_room (pid_part o)) ∷ last_acts pid task (pid_part o)

from_ready : (limits : Limits) (at room : ℕ) (v : World) (pid : Pid) (task : Task) (o : Option (ℕ × Task)) → IsReady limits at (room + length (turn_acts pid task o)) v → nat_le limits.cpus task.cpu.0 ≡ false
    → task_of v.tasks pid.0 ≡ Some task → is_ready_on task.cpu.0 task ≡ true → running_on v.tasks task.cpu.0 ≡ o → Exited limits at room v pid.0 (turn_acts pid task o)
from_ready limits at room v pid task o ready there is can runs =
    let rest = length (last_acts pid task (pid_part o)) in
    let come = comes_in limits at (room + rest) v pid task o (ready_for limits at (room + length (turn_acts pid task o)) (room + rest + 1) v (omega arith) ready) there is can runs in
    let switch = act.Switch task.cpu (Some pid) (making_room (pid_part o)) in
    let suffix = after_event v (event_at at switch) in
    let found : task_of suffix.tasks pid.0 ≡ Some (running task) = come.tasks pid.0 ∙ ap (λ b. cond b (Some (running task)) (put_aside o pid.0 (task_of v.tasks pid.0))) (itself pid.0) in
    let turn = ap (λ t. is_some_and t (is_ready_on task.cpu.0)) is ∙ can in
    let next = ready_next v.tasks suffix.tasks task.cpu.0 pid.0 (running task) o runs turn come.tasks in
    let last = leaves limits at room suffix pid (running task) (pid_part o) come.does.ready there found (rw (itself task.cpu.0) refl) next in
    record {
      does = does_then limits at (room + rest) room v (switch ∷ []) (last_acts pid task (pid_part o)) come.does last.does;
      tasks = λ k. last.tasks k ∙ ap (λ t. started (pid_part o) k (cond (k == pid.0) None t)) (come.tasks k) ∙ all_back v.tasks task.cpu.0 pid.0 (running task) o runs k;
    }

-- ---- a task that sleeps

other_still : (tasks : Tasks) (pid : ℕ) (other : Task) (k : ℕ) → (k == pid) ≡ false → task_of (put tasks pid other) k ≡ task_of tasks k
other_still tasks pid other k apart = get_put tasks pid other k ∙ ap (λ b. cond b (Some other) (task_of tasks k)) apart

none_runs_then : (tasks : Tasks) (pid cpu : ℕ) (other : Task) → is_running_on cpu other ≡ false → running_on tasks cpu ≡ None → (o : Option (ℕ × Task)) → running_on (put tasks pid other) cpu ≡ o → o ≡ None
none_runs_then tasks pid cpu other off none None is = refl
none_runs_then tasks pid cpu other off none (Some x) is =
    let there = running_found (put tasks pid other) cpu x is in
    let found = sym (get_put tasks pid other x.0) ∙ there.0 in
    absurd (elim (x.0 == pid) as (λ b. cond b (Some other) (task_of tasks x.0) ≡ Some x.1 → ⊥) [
      | true ↦ λ i. let same : other ≡ x.1 = cc i in let no : ⊥ = cc (ap (is_running_on cpu) same, off, there.1) in no
      | false ↦ λ i. let some = runs_there tasks x.0 x.1 cpu i there.1 in let no : ⊥ = cc (some, none) in no
    ] found)

some_runs_then : (tasks : Tasks) (pid cpu : ℕ) (task other : Task) (e : ℕ × Task) → task_of tasks pid ≡ Some task → is_running_on cpu task ≡ false → RunsOnce (put tasks pid other) → running_on tasks cpu ≡ Some e → running_on (put tasks pid other) cpu ≡ Some e
some_runs_then tasks pid cpu task other e is off once runs =
    let there = running_found tasks cpu e runs in
    let apart : (e.0 == pid) ≡ false = ⊎_elim (λ same. let found : Some e.1 ≡ Some task = sym there.0 ∙ ap (task_of tasks) same.1 ∙ is in let at : e.1 ≡ task = cc found in absurd (let no : ⊥ = cc (ap (is_running_on cpu) at, there.1, off) in no)) (λ other. other.0) (eqb_tells e.0 pid) in
    runner_is (put tasks pid other) once cpu e.0 e.1 (other_still tasks pid other e.0 apart ∙ there.0) there.1

runs_then : (tasks : Tasks) (pid cpu : ℕ) (task other : Task) (o : Option (ℕ × Task)) → task_of tasks pid ≡ Some task → is_running_on cpu task ≡ false → is_running_on cpu other ≡ false → RunsOnce (put tasks pid other) → running_on tasks cpu ≡ o → running_on (put tasks pid other) cpu ≡ o
runs_then tasks pid cpu task other None is off too once runs = none_runs_then tasks pid cpu other too runs (running_on (put tasks pid other) cpu) refl
runs_then tasks pid cpu task other (Some e) is off too once runs = some_runs_then tasks pid cpu task other e is off once runs

and_false : (b c : Bool) → c ≡ false → (b && c) ≡ false
and_false true c off = off
and_false false c off = refl

may_wake : (cpus : ℕ) (o : Option Task) (task : Task) (cpu : ℕ) → o ≡ Some task → nat_le cpus cpu ≡ false → is_active task.mode ≡ false → wake_cause cpus o cpu ≡ None
may_wake cpus o task cpu is there sleeps = rw (is, there, sleeps) refl

twice_gone : (tasks : Tasks) (pid k : ℕ) (task : Task) → cond (k == pid) None (task_of (put tasks pid task) k) ≡ cond (k == pid) None (task_of tasks k)
twice_gone tasks pid k task = ap (cond (k == pid) None) (get_put tasks pid task k) ∙ elim (k == pid) as (λ b. cond b None (cond b (Some task) (task_of tasks k)) ≡ cond b None (task_of tasks k)) [ true ↦ refl | false ↦ refl ]

from_sleep : (limits : Limits) (at room : ℕ) (v : World) (pid : Pid) (task : Task) (o : Option (ℕ × Task)) → IsReady limits at (room + length (act.Wake pid task.cpu ∷ turn_acts pid task o)) v → nat_le limits.cpus task.cpu.0 ≡ false
    → task_of v.tasks pid.0 ≡ Some task → is_active task.mode ≡ false → is_running task.mode ≡ false → running_on v.tasks task.cpu.0 ≡ o → Exited limits at room v pid.0 (act.Wake pid task.cpu ∷ turn_acts pid task o)
from_sleep limits at room v pid task o ready there is sleeps still runs =
    let rest = length (turn_acts pid task o) in
    let woken = prepared_changes task.cpu.0 task in
    let wake = does_one limits at (room + rest) v (act.Wake pid task.cpu) (ready_for limits at (room + length (act.Wake pid task.cpu ∷ turn_acts pid task o)) (room + rest + 1) v (omega arith) ready) (of_tasks at (act.Wake pid task.cpu) (λ g. refl) (λ i. refl) refl refl refl)
    (may_wake limits.cpus (task_of v.tasks pid.0) task task.cpu.0 is there sleeps) in
    let suffix = after_event v (event_at at (act.Wake pid task.cpu)) in
    let tasks : suffix.tasks ≡ put v.tasks pid.0 woken = ap (change_to v.tasks pid.0 (prepared_changes task.cpu.0)) is in
    let found : task_of suffix.tasks pid.0 ≡ Some woken = ap (λ ts. task_of ts pid.0) tasks ∙ get_put v.tasks pid.0 woken pid.0 ∙ ap (λ b. cond b (Some woken) (task_of v.tasks pid.0)) (itself pid.0) in
    let once : RunsOnce (put v.tasks pid.0 woken) = subst RunsOnce tasks wake.ready.world.once in
    let same : running_on suffix.tasks task.cpu.0 ≡ o = ap (λ ts. running_on ts task.cpu.0) tasks ∙ runs_then v.tasks pid.0 task.cpu.0 task woken o is (and_false (task.cpu.0 == task.cpu.0) (is_running task.mode) still) (and_false (task.cpu.0 == task.cpu.0) false refl) once runs in
    let turn = from_ready limits at room suffix pid woken o wake.ready there found (rw (itself task.cpu.0) refl) same in
    record {
      does = does_then limits at (room + rest) room v (act.Wake pid task.cpu ∷ []) (turn_acts pid task o) wake turn.does;
      tasks = λ k. turn.tasks k ∙ ap (λ ts. cond (k == pid.0) None (task_of ts k)) tasks ∙ twice_gone v.tasks pid.0 k woken;
    }

-- ---- a task in any mode

abbrev acts_by : Mode → Pid → Task → Option (ℕ × Task) → List Act
acts_by mode pid task o =
    acts_if (not (is_active mode)) (act.Wake pid task.cpu ∷ [])
    ++ acts_if (not (is_running mode)) (act.Switch task.cpu (Some pid) (making_room (pid_part o)) ∷ [])
    ++ acts_if task.stalled (act.Unstall pid ∷ [])
    ++ act.Switch task.cpu (if is_running mode then None else pid_part o) Exit ∷ []

by_mode : (limits : Limits) (at room : ℕ) (v : World) (pid : Pid) (task : Task) (o : Option (ℕ × Task)) (mode : Mode) → task.mode ≡ mode → IsReady limits at (room + length (acts_by mode pid task o)) v → nat_le limits.cpus task.cpu.0 ≡ false
    → task_of v.tasks pid.0 ≡ Some task → running_on v.tasks task.cpu.0 ≡ o → Exited limits at room v pid.0 (acts_by mode pid task o)
by_mode limits at room v pid task o Running mode ready there is runs =
    let last = leaves limits at room v pid task None ready there is (rw (itself task.cpu.0, mode) refl) tt in
    record { does = last.does; tasks = last.tasks }
by_mode limits at room v pid task o Ready mode ready there is runs = from_ready limits at room v pid task o ready there is (rw (itself task.cpu.0, mode) refl) runs
by_mode limits at room v pid task o Blocked mode ready there is runs = from_sleep limits at room v pid task o ready there is (ap is_active mode) (ap is_running mode) runs
by_mode limits at room v pid task o Waiting mode ready there is runs = from_sleep limits at room v pid task o ready there is (ap is_active mode) (ap is_running mode) runs

below_cpus : (cpus cpu : ℕ) → cpu < cpus → nat_le cpus cpu ≡ false
below_cpus cpus cpu room = grind (arith, nat_tests)

none_gone : (tasks : Tasks) (pid k : ℕ) → task_of tasks pid ≡ None → task_of tasks k ≡ cond (k == pid) None (task_of tasks k)
none_gone tasks pid k none = ⊎_elim (λ same. ap (task_of tasks) same.1 ∙ none ∙ sym (ap (λ b. cond b None (task_of tasks k)) same.0)) (λ other. sym (ap (λ b. cond b None (task_of tasks k)) other.0)) (eqb_tells k pid)

by_found : (limits : Limits) (at room : ℕ) (v : World) (pid : ℕ) (found : Option Task) → task_of v.tasks pid ≡ found → IsReady limits at (room + length (exit_of v pid found)) v → Exited limits at room v pid (exit_of v pid found)
by_found limits at room v pid None is ready = record { does = does_none limits at room v (ready_for limits at (room + 0) room v (omega arith) ready); tasks = λ k. none_gone v.tasks pid k is }
by_found limits at room v pid (Some task) is ready =
    let within = subst (λ o. IfSome o (λ task. (task.cpu.0 < limits.cpus) × (task.slot.0 < length v.groups))) is (ready.world.within pid) in
    by_mode limits at room v (record { 0 = pid }) task (running_on v.tasks task.cpu.0) task.mode refl ready (below_cpus limits.cpus task.cpu.0 within.0) is refl

-- The exit of a killed task is legal.
pub exit_goes : (limits : Limits) (at room : ℕ) (v : World) (pid : ℕ) → IsReady limits at (room + length (exit_of v pid (task_of v.tasks pid))) v → Exited limits at room v pid (exit_of v pid (task_of v.tasks pid))
exit_goes limits at room v pid ready = by_found limits at room v pid (task_of v.tasks pid) refl ready

-- ---- the exits of all killed tasks

pub record ExitsGo (limits : Limits) (at room : ℕ) (v : World) (pids : List ℕ) : Type 0 where
  pub legal : AreLegal limits v (exits_from at v pids)
  pub ready : IsReady limits at room (after_from v (exits_from at v pids))
  pub later : IsWithout pids v (after_from v (exits_from at v pids))

both_gone : (b c : Bool) (o : Option Task) → cond b None (cond c None o) ≡ cond (c || b) None o
both_gone true true o = refl
both_gone true false o = refl
both_gone false true o = refl
both_gone false false o = refl

one_more : (pid : ℕ) (pids : List ℕ) (v u x : World) → ((k : ℕ) → task_of u.tasks k ≡ cond (k == pid) None (task_of v.tasks k)) → IsWithout pids u x → (k : ℕ) → task_of x.tasks k ≡ kept (pid ∷ pids) k (task_of v.tasks k)
one_more pid pids v u x first rest k = rest.tasks k ∙ ap (kept pids k) (first k) ∙ both_gone (is_pid_among pids k) (k == pid) (task_of v.tasks k)

pub exits_go : (limits : Limits) (at room : ℕ) (v : World) (pids : List ℕ) → IsReady limits at (room + length (exits_from at v pids)) v → ExitsGo limits at room v pids
exits_go limits at room v [] ready = record {
  legal = tt;
  ready = ready_for limits at (room + 0) room v (omega arith) ready;
  later = record { tasks = λ k. refl; groups = refl; irqs = refl; triggers = refl; pressures = refl; ended = refl };
}
exits_go limits at room v (pid ∷ pids) ready =
    let acts = exit_of v pid (task_of v.tasks pid) in
    let prefix = events_at at acts in
    let suffix = after_from v prefix in
    let rest = exits_from at suffix pids in
    let many = length-append prefix rest in
    let count = length-map acts (λ what. event_at at what) in
    let one = exit_goes limits at (room + length rest) v pid (ready_for limits at (room + length (prefix ++ rest)) (room + length rest + length acts) v (omega (arith, many, count)) ready) in
    let others = exits_go limits at room suffix pids one.does.ready in
    let same = sym (after_from-append v prefix rest) in
    record {
      legal = legal_join limits v prefix rest one.does.legal others.legal;
      ready = subst (IsReady limits at room) same others.ready;
      later = subst (IsWithout (pid ∷ pids) v) same (record {
        tasks = one_more pid pids v suffix (after_from suffix rest) one.tasks others.later;
        groups = others.later.groups ∙ one.does.aside.groups;
        irqs = others.later.irqs ∙ one.does.aside.irqs;
        triggers = others.later.triggers ∙ one.does.aside.triggers;
        pressures = others.later.pressures ∙ one.does.aside.pressures;
        ended = others.later.ended ∙ one.does.aside.ended;
      });
    }
