-- Proves how a killed task is switched in and out.
use Rattle.std.proofs.Common.{◌≡◌, ℕ, ◌+◌, List, [], ◌∷◌, ◌++◌, refl, ap, ◌∙◌, sym, subst, arith, cond, Bool, true, false, Option, None, Some, ◌==◌, length, ⊎_elim}
use Rattle.std.specs.Prelude.{IfSome, nat_le}
use Rattle.std.proofs.lemmas.Bool.Decides.{eqb_tells}
use Rattle.psi_base.specs.declared.event.Act.{Act}
use Rattle.psi_base.specs.declared.event.Act.TheVariants as act
use Rattle.psi_base.specs.declared.event.Cause.TheVariants as cause
use Rattle.psi_base.specs.declared.event.How.TheVariants.{Exit}
use Rattle.psi_base.specs.declared.event.Pid.{Pid}
use Rattle.psi_base.specs.Missing.{is_some_and}
use Rattle.psi_spec.specs.declared.machine.Mode.TheVariants.{Ready, Running}
use Rattle.psi_spec.specs.declared.machine.Task.{Task}
use Rattle.psi_spec.specs.World.{Limits, Tasks, World, after_event, after_from, change_to, is_ready_on, is_running, is_running_on, leave, put, remove, running_on, start, task_of, events_at}
use Rattle.psi_spec.proofs.TaskLaws.{get_put, get_remove, itself, task_placed}
use Rattle.psi_counts.specs.Touch.{RunsOnce, changed}
use Rattle.psi_counts.proofs.TouchCounts.{running_found}
use Rattle.psi_counts.proofs.TouchLaws.{ready_left}
use Rattle.task_table.specs.Causes.{how_cause, unstall_cause}
use Rattle.task_table.specs.Named.{next_task}
use Rattle.task_table.proofs.Runners.{only_runs, runs_there}
use Rattle.whatif_spec.specs.Without.{acts_if, making_room, pid_part}
use Rattle.whatif_trace.proofs.Steps.{event_at, of_tasks}
use Rattle.psi_spec.proofs.RefusalLaws.{second_true}
use Rattle.whatif_trace.proofs.Switching.{may_be, next_apart, next_may, of_switch}
use Rattle.whatif_trace.proofs.Doing.{Does, IsReady, does_one, does_then, ready_for}

-- ---- the running task

-- The task with the mode changed to running.
abbrev pub running : Task → Task
running task = record task { mode = Running }

-- The task with the mode changed to ready.
abbrev pub preempted : Task → Task
preempted task = record task { mode = Ready }

number_is : (tasks : Tasks) (pid : ℕ) (task : Task) (e : ℕ × Task) → task_of tasks pid ≡ Some task → task_of tasks e.0 ≡ Some e.1 → e.0 ≡ pid → e ≡ (pid, task)
number_is tasks pid task e is there number =
    let found : Some e.1 ≡ Some task = sym there ∙ ap (task_of tasks) number ∙ is in
    let same : e.1 ≡ task = cc found in
    let pair : (e.0, e.1) ≡ (pid, task) = rw (number, same) refl in pair

runner_in : (tasks : Tasks) → RunsOnce tasks → (cpu pid : ℕ) (task : Task) → task_of tasks pid ≡ Some task → is_running_on cpu task ≡ true → (o : Option (ℕ × Task)) → running_on tasks cpu ≡ o → o ≡ Some (pid, task)
runner_in tasks once cpu pid task is runs None none =
    let some = runs_there tasks pid task cpu is runs in
    absurd (let no : ⊥ = cc (some, none) in no)
runner_in tasks once cpu pid task is runs (Some e) found =
    ap Some (number_is tasks pid task e is (running_found tasks cpu e found).0 (only_runs tasks once cpu pid task e is runs found))

-- A task that runs on a processor is the task that is found to run there.
pub runner_is : (tasks : Tasks) → RunsOnce tasks → (cpu pid : ℕ) (task : Task) → task_of tasks pid ≡ Some task → is_running_on cpu task ≡ true → running_on tasks cpu ≡ Some (pid, task)
runner_is tasks once cpu pid task is runs = runner_in tasks once cpu pid task is runs (running_on tasks cpu) refl

-- ---- look-ups after a change

pub found_changed : (tasks : Tasks) (k : ℕ) (f : Task → Task) (o : Option Task) → task_of tasks k ≡ o → (pid : ℕ) → task_of (change_to tasks k f o) pid ≡ cond (pid == k) (changed f o) (task_of tasks pid)
found_changed tasks k f None is pid = ⊎_elim (λ same. ap (task_of tasks) same.1 ∙ is ∙ sym (ap (λ b. cond b None (task_of tasks pid)) same.0)) (λ other. sym (ap (λ b. cond b None (task_of tasks pid)) other.0)) (eqb_tells pid k)
found_changed tasks k f (Some task) is pid = get_put tasks k (f task) pid

-- The result of looking up a task after the next task was switched in.
abbrev pub started : Option Pid → ℕ → Option Task → Option Task
started None pid found = found
started (Some next) pid found = cond (pid == next.0) (changed running found) found

pub found_started : (tasks : Tasks) (next : Option Pid) (pid : ℕ) → task_of (start next tasks) pid ≡ started next pid (task_of tasks pid)
found_started tasks None pid = refl
found_started tasks (Some next) pid =
    found_changed tasks next.0 running (task_of tasks next.0) refl pid
    ∙ ⊎_elim (λ same. rw (ap (task_of tasks) same.1) refl) (λ other. rw other.0 refl) (eqb_tells pid next.0)

-- The result of looking up a task after the running task was switched out for another task.
abbrev pub put_aside : Option (ℕ × Task) → ℕ → Option Task → Option Task
put_aside None pid found = found
put_aside (Some e) pid found = cond (pid == e.0) (Some (preempted e.1)) found

pub found_aside : (tasks : Tasks) (o : Option (ℕ × Task)) (pid : ℕ) → task_of (leave (making_room (pid_part o)) tasks o) pid ≡ put_aside o pid (task_of tasks pid)
found_aside tasks None pid = refl
found_aside tasks (Some e) pid = task_placed tasks e.0 (Some (preempted e.1)) pid

-- ---- the killed task is switched in

may_make_room : (o : Option (ℕ × Task)) → how_cause (making_room (pid_part o)) o ≡ None
may_make_room None = refl
may_make_room (Some e) = refl

-- A ready task is switched in, and the running task is switched out.
pub record Comes (limits : Limits) (at room : ℕ) (v : World) (pid : Pid) (task : Task) (o : Option (ℕ × Task)) : Type 0 where
  pub does : Does limits at room v (act.Switch task.cpu (Some pid) (making_room (pid_part o)) ∷ [])
  pub tasks : (k : ℕ) → task_of (after_event v (event_at at (act.Switch task.cpu (Some pid) (making_room (pid_part o))))).tasks k ≡ cond (k == pid.0) (Some (running task)) (put_aside o k (task_of v.tasks k))

pub comes_in : (limits : Limits) (at room : ℕ) (v : World) (pid : Pid) (task : Task) (o : Option (ℕ × Task)) → IsReady limits at (room + 1) v → nat_le limits.cpus task.cpu.0 ≡ false → task_of v.tasks pid.0 ≡ Some task → is_ready_on task.cpu.0 task ≡ true → running_on v.tasks task.cpu.0 ≡ o
    → Comes limits at room v pid task o
comes_in limits at room v pid task o ready there is can runs =
    let how = making_room (pid_part o) in
    let turn : is_some_and (task_of v.tasks pid.0) (is_ready_on task.cpu.0) ≡ true = ap (λ t. is_some_and t (is_ready_on task.cpu.0)) is ∙ can in
    let left = leave how v.tasks o in
    let still : task_of left pid.0 ≡ Some task = ready_left v.tasks task.cpu.0 how pid.0 turn o runs ∙ is in
    record {
      does = does_one limits at room v (act.Switch task.cpu (Some pid) how) ready (of_switch at task.cpu (Some pid) how)
          (may_be limits.cpus task.cpu.0 (Some pid) (task_of v.tasks pid.0) how (running_on v.tasks task.cpu.0) (next_may limits.cpus task.cpu.0 (Some pid) (task_of v.tasks pid.0) there turn) (ap (how_cause how) runs ∙ may_make_room o));
      tasks = λ k.
          ap (λ o. task_of (start (Some pid) (leave how v.tasks o)) k) runs
          ∙ found_changed left pid.0 running (task_of left pid.0) refl k
          ∙ ap (λ t. cond (k == pid.0) (changed running t) (task_of left k)) still
          ∙ ap (λ t. cond (k == pid.0) (Some (running task)) t) (found_aside v.tasks o k);
    }

-- ---- the killed task is switched out

-- The task that runs next after an exit, if any, is ready on the processor.
abbrev pub IsNext : Tasks → ℕ → Option Pid → Type 0
IsNext tasks cpu next = IfSome next (λ _. is_some_and (next_task tasks next) (is_ready_on cpu) ≡ true)

pub record Leaves (limits : Limits) (at room : ℕ) (v : World) (pid : Pid) (next : Option Pid) (acts : List Act) : Type 0 where
  pub does : Does limits at room v acts
  pub tasks : (k : ℕ) → task_of (after_from v (events_at at acts)).tasks k ≡ started next k (cond (k == pid.0) None (task_of v.tasks k))

no_stall : (b : Bool) → b ≡ false → cond b (Some cause.InStall) None ≡ None
no_stall b off = rw off refl

exits : (limits : Limits) (at room : ℕ) (v : World) (pid : Pid) (task : Task) (next : Option Pid) → IsReady limits at (room + 1) v → nat_le limits.cpus task.cpu.0 ≡ false → task_of v.tasks pid.0 ≡ Some task → is_running_on task.cpu.0 task ≡ true → task.stalled ≡ false
    → IsNext v.tasks task.cpu.0 next → Leaves limits at room v pid next (act.Switch task.cpu next Exit ∷ [])
exits limits at room v pid task next ready there is runs free turn =
    let found = runner_is v.tasks ready.world.once task.cpu.0 pid.0 task is runs in
    record {
      does = does_one limits at room v (act.Switch task.cpu next Exit) ready (of_switch at task.cpu next Exit)
          (may_be limits.cpus task.cpu.0 next (next_task v.tasks next) Exit (running_on v.tasks task.cpu.0) (next_may limits.cpus task.cpu.0 next (next_task v.tasks next) there turn) (ap (how_cause Exit) found ∙ no_stall task.stalled free));
      tasks = λ k.
          ap (λ o. task_of (start next (leave Exit v.tasks o)) k) found
          ∙ found_started (remove v.tasks pid.0) next k
          ∙ ap (started next k) (get_remove v.tasks pid.0 k);
    }

-- Replacing the running task doesn't change that the next task is ready.
next_still : (tasks : Tasks) (cpu : ℕ) (pid : ℕ) (task other : Task) (next : Option Pid) → running_on tasks cpu ≡ Some (pid, task) → IsNext tasks cpu next → IsNext (put tasks pid other) cpu next
next_still tasks cpu pid task other None runs turn = tt
next_still tasks cpu pid task other (Some next) runs turn =
    ap (λ o. is_some_and o (is_ready_on cpu)) (get_put tasks pid other next.0 ∙ ap (λ b. cond b (Some other) (task_of tasks next.0)) (next_apart tasks cpu next.0 (pid, task) turn runs)) ∙ turn

abbrev freed : Task → Task
freed task = record task { stalled = false }

may_free : (o : Option Task) (task : Task) → o ≡ Some task → is_running task.mode ≡ true → task.stalled ≡ true → unstall_cause o ≡ None
may_free o task is runs stalled = rw (is, runs, stalled) refl

then_exits : (tasks : Tasks) (pid k : ℕ) (task : Task) (next : Option Pid) → started next k (cond (k == pid) None (cond (k == pid) (Some task) (task_of tasks k))) ≡ started next k (cond (k == pid) None (task_of tasks k))
then_exits tasks pid k task next = ap (started next k) (elim (k == pid) as (λ b. cond b None (cond b (Some task) (task_of tasks k)) ≡ cond b None (task_of tasks k)) [ true ↦ refl | false ↦ refl ])

frees : (limits : Limits) (at room : ℕ) (v : World) (pid : Pid) (task : Task) (next : Option Pid) → IsReady limits at (room + 2) v → nat_le limits.cpus task.cpu.0 ≡ false → task_of v.tasks pid.0 ≡ Some task → is_running_on task.cpu.0 task ≡ true → task.stalled ≡ true
    → IsNext v.tasks task.cpu.0 next → Leaves limits at room v pid next (act.Unstall pid ∷ act.Switch task.cpu next Exit ∷ [])
frees limits at room v pid task next ready there is runs stalled turn =
    let found = runner_is v.tasks ready.world.once task.cpu.0 pid.0 task is runs in
    let free = does_one limits at (room + 1) v (act.Unstall pid) (ready_for limits at (room + 2) (room + 1 + 1) v (omega arith) ready) (of_tasks at (act.Unstall pid) (λ g. refl) (λ i. refl) refl refl refl) (may_free (task_of v.tasks pid.0) task is (second_true (task.cpu.0 == task.cpu.0) (is_running task.mode) runs) stalled) in
    let suffix = after_event v (event_at at (act.Unstall pid)) in
    let tasks : suffix.tasks ≡ put v.tasks pid.0 (freed task) = ap (change_to v.tasks pid.0 freed) is in
    let is_then : task_of suffix.tasks pid.0 ≡ Some (freed task) = ap (λ ts. task_of ts pid.0) tasks ∙ get_put v.tasks pid.0 (freed task) pid.0 ∙ ap (λ b. cond b (Some (freed task)) (task_of v.tasks pid.0)) (itself pid.0) in
    let turn_then : IsNext suffix.tasks task.cpu.0 next = subst (λ ts. IsNext ts task.cpu.0 next) (sym tasks) (next_still v.tasks task.cpu.0 pid.0 task (freed task) next found turn) in
    let last = exits limits at room suffix pid (freed task) next free.ready there is_then runs refl turn_then in
    record {
      does = does_then limits at (room + 1) room v (act.Unstall pid ∷ []) (act.Switch task.cpu next Exit ∷ []) free last.does;
      tasks = λ k. last.tasks k ∙ ap (λ ts. started next k (cond (k == pid.0) None (task_of ts k))) tasks ∙ ap (λ o. started next k (cond (k == pid.0) None o)) (get_put v.tasks pid.0 (freed task) k) ∙ then_exits v.tasks pid.0 k (freed task) next;
    }

-- A running task ends its memory stall, if it is in a stall, and exits.
pub leaves : (limits : Limits) (at room : ℕ) (v : World) (pid : Pid) (task : Task) (next : Option Pid) → IsReady limits at (room + length (acts_if task.stalled (act.Unstall pid ∷ []) ++ act.Switch task.cpu next Exit ∷ [])) v → nat_le limits.cpus task.cpu.0 ≡ false
    → task_of v.tasks pid.0 ≡ Some task → is_running_on task.cpu.0 task ≡ true → IsNext v.tasks task.cpu.0 next
    → Leaves limits at room v pid next (acts_if task.stalled (act.Unstall pid ∷ []) ++ act.Switch task.cpu next Exit ∷ [])
leaves limits at room v pid task next ready there is runs turn =
    elim task.stalled as (λ b. task.stalled ≡ b → IsReady limits at (room + length (acts_if b (act.Unstall pid ∷ []) ++ act.Switch task.cpu next Exit ∷ [])) v → Leaves limits at room v pid next (acts_if b (act.Unstall pid ∷ []) ++ act.Switch task.cpu next Exit ∷ [])) [
      | true ↦ λ stalled ready. frees limits at room v pid task next (ready_for limits at (room + 2) (room + 2) v (omega arith) ready) there is runs stalled turn
      | false ↦ λ free ready. exits limits at room v pid task next ready there is runs free turn
    ] refl ready
