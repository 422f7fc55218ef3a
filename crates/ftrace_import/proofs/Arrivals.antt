-- Proofs about the acts that bring a task to a processor: they are legal, the task is ready there
-- after them, and the running task of the processor doesn't change.
use Rattle.std.proofs.Common.{◌≡◌, ℕ, ◌+◌, ◌≤◌, ◌<◌, List, [], ◌∷◌, refl, ap, ◌∙◌, sym, subst, arith, cond, true, false, Option, None, Some, ◌==◌, length}
use Rattle.std.specs.Prelude.{codes, is_some, not}
use Rattle.std.specs.FinMap as tasks_by
use Rattle.psi_base.specs.declared.event.Act.{Act}
use Rattle.psi_base.specs.declared.event.Act.TheVariants as act
use Rattle.psi_base.specs.declared.event.Cpu.{Cpu}
use Rattle.psi_base.specs.declared.event.How.TheVariants.{Preempt}
use Rattle.psi_base.specs.declared.event.Pid.{Pid}
use Rattle.psi_base.specs.Missing.{is_some_and}
use Rattle.psi_spec.specs.declared.machine.Mode.{Mode}
use Rattle.psi_spec.specs.declared.machine.Mode.TheVariants.{Blocked, Ready, Running, Waiting}
use Rattle.psi_spec.specs.declared.machine.Task.{Task}
use Rattle.psi_spec.specs.Fields.{IsPid}
use Rattle.psi_spec.specs.World.{Tasks, World, after_event, after_from, change, change_to, is_active, is_ready, is_ready_on, is_running, is_running_on, leave, new_task, put, prepared_changes, running_on, task_of, events_at}
use Rattle.psi_spec.proofs.TaskLaws.{get_put, itself}
use Rattle.psi_counts.specs.Touch.{RunsOnce}
use Rattle.psi_counts.proofs.TouchCounts.{running_found}
use Rattle.task_table.proofs.Runners.{only_runs, runs_there}
use Rattle.import_spec.specs.Events.{arrival_acts, coming_acts, made}
use Rattle.ftrace_import.proofs.Runs.{RunsAsBefore, rests, runs_put}
use Rattle.ftrace_import.specs.Stands.{Stands}
use Rattle.ftrace_import.proofs.Steps.{Goes, Step, event_at, goes_none, goes_one, goes_then, later_in, step_make, step_migrate, step_switch, step_wake}

-- The invariant of an import also holds if fewer further events are allowed.
pub less_room : (cpus at have room : ℕ) (w : World) → Stands cpus at have w → room ≤ have → Stands cpus at room w
less_room cpus at have room w so few = let all = so.few in later_in cpus at have at room w so (omega arith) so.early (omega (arith, few, all))

-- The acts are legal, the running task of processor `cpu` doesn't change, and the task is ready on
-- `cpu` after them.
pub record Comes (cpus at room : ℕ) (cpu : Cpu) (pid : Pid) (w : World) (acts : List Act) : Type 0 where
  pub goes : Goes cpus at room w acts
  pub same : RunsAsBefore cpu.0 w.tasks (after_from w (events_at at acts)).tasks
  pub ready : is_some_and (task_of (after_from w (events_at at acts)).tasks pid.0) (is_ready_on cpu.0) ≡ true

-- A task that was put into the map is found.
put_there : (tasks : Tasks) (k : ℕ) (t : Task) → task_of (put tasks k t) k ≡ Some t
put_there tasks k t = get_put tasks k t k ∙ ap (λ b. cond b (Some t) (task_of tasks k)) (itself k)

pub changed_is : (tasks : Tasks) (k : ℕ) (f : Task → Task) (t : Task) → task_of tasks k ≡ Some t → change tasks k f ≡ put tasks k (f t)
changed_is tasks k f t is = ap (change_to tasks k f) is

-- A ready task that was put into the map is found ready on its processor.
ready_there : (tasks : Tasks) (k cpu : ℕ) (t : Task) → t.cpu.0 ≡ cpu → is_ready t.mode ≡ true → is_some_and (task_of (put tasks k t) k) (is_ready_on cpu) ≡ true
ready_there tasks k cpu t there ready = rw (put_there tasks k t, there, itself cpu, ready) refl

-- One act that puts the task, ready, on the processor.
comes_by : (cpus at room : ℕ) (cpu : Cpu) (pid : Pid) (w : World) (what : Act) (t : Task) → Step cpus at room w what → (after_event w (event_at at what)).tasks ≡ put w.tasks pid.0 t
    → is_some_and (task_of w.tasks pid.0) (is_running_on cpu.0) ≡ false → t.cpu.0 ≡ cpu.0 → t.mode ≡ Ready → Comes cpus at room cpu pid w (what ∷ [])
comes_by cpus at room cpu pid w what t step is off there mode = record {
  goes = goes_one cpus at room w what step;
  same = subst (λ (tasks : Tasks). RunsAsBefore cpu.0 w.tasks tasks) (sym is) (runs_put cpu.0 w.tasks pid.0 t off (rests cpu.0 t (ap is_running mode)));
  ready = subst (λ (tasks : Tasks). is_some_and (task_of tasks pid.0) (is_ready_on cpu.0) ≡ true) (sym is) (ready_there w.tasks pid.0 cpu.0 t there (ap is_ready mode));
}

off_none : (o : Option Task) (cpu : ℕ) → o ≡ None → is_some_and o (is_running_on cpu) ≡ false
off_none o cpu is = rw is refl

off_some : (o : Option Task) (t : Task) (cpu : ℕ) → o ≡ Some t → is_running t.mode ≡ false → is_some_and o (is_running_on cpu) ≡ false
off_some o t cpu is off = rw is (rests cpu t off)

asleep_off : (m : Mode) → is_active m ≡ false → is_running m ≡ false
asleep_off Blocked h = refl
asleep_off Waiting h = refl
asleep_off Ready h = refl
asleep_off Running h = h

ready_off : (m : Mode) → is_ready m ≡ true → is_running m ≡ false
ready_off Blocked h = refl
ready_off Waiting h = refl
ready_off Ready h = refl
ready_off Running h = absurd (cc h)

-- Creating the task brings it to the processor.
pub comes_made : (cpus at room : ℕ) (cpu : Cpu) (pid : Pid) (w : World) → Stands cpus at (room + 1) w → IsPid pid → cpu.0 < cpus → task_of w.tasks pid.0 ≡ None → tasks_by.len w.tasks < 65536 → Comes cpus at room cpu pid w (made pid cpu ∷ [])
comes_made cpus at room cpu pid w so is there none space =
    comes_by cpus at room cpu pid w (made pid cpu) (new_task w.groups (codes "/") cpu.0) (step_make cpus at room w pid cpu so is there none space) refl (off_none (task_of w.tasks pid.0) cpu.0 none) refl refl

-- Waking the task brings it to the processor.
pub comes_woken : (cpus at room : ℕ) (cpu : Cpu) (pid : Pid) (w : World) (task : Task) → Stands cpus at (room + 1) w → IsPid pid → cpu.0 < cpus → task_of w.tasks pid.0 ≡ Some task → is_active task.mode ≡ false → Comes cpus at room cpu pid w (act.Wake pid cpu ∷ [])
comes_woken cpus at room cpu pid w task so is there live sleeps =
    comes_by cpus at room cpu pid w (act.Wake pid cpu) (prepared_changes cpu.0 task) (step_wake cpus at room w pid cpu task so is there live sleeps) (changed_is w.tasks pid.0 (prepared_changes cpu.0) task live)
    (off_some (task_of w.tasks pid.0) task cpu.0 live (asleep_off task.mode sleeps)) refl refl

-- Migrating a ready task brings it to the processor.
pub comes_moved : (cpus at room : ℕ) (cpu : Cpu) (pid : Pid) (w : World) (task : Task) → Stands cpus at (room + 1) w → IsPid pid → cpu.0 < cpus → task_of w.tasks pid.0 ≡ Some task → is_ready task.mode ≡ true → Comes cpus at room cpu pid w (act.Migrate pid cpu ∷ [])
comes_moved cpus at room cpu pid w task so is there live ready =
    comes_by cpus at room cpu pid w (act.Migrate pid cpu) (prepared_changes cpu.0 task) (step_migrate cpus at room w pid cpu task so is there live ready) (changed_is w.tasks pid.0 (prepared_changes cpu.0) task live)
    (off_some (task_of w.tasks pid.0) task cpu.0 live (ready_off task.mode ready)) refl refl

-- A task that is ready on the processor needs no act.
comes_ready : (cpus at room : ℕ) (cpu : Cpu) (pid : Pid) (w : World) (task : Task) → Stands cpus at room w → task_of w.tasks pid.0 ≡ Some task → is_ready task.mode ≡ true → (task.cpu.0 == cpu.0) ≡ true → Comes cpus at room cpu pid w []
comes_ready cpus at room cpu pid w task so live ready there = record {
  goes = goes_none cpus at room w so;
  same = λ q. refl;
  ready = rw (live, there, ready) refl;
}

-- ---- a task that runs on another processor

-- The processor of a live task exists.
place_of : (cpus at room : ℕ) (w : World) → Stands cpus at room w → (k : ℕ) (t : Task) → task_of w.tasks k ≡ Some t → t.cpu.0 < cpus
place_of cpus at room w so k t is = let here = so.legal.within k in (rw is at here).0

-- After a task is preempted, it is ready on its processor.
pulled_by : (tasks : Tasks) → RunsOnce tasks → (k cpu : ℕ) (t : Task) → task_of tasks k ≡ Some t → is_running_on cpu t ≡ true → (o : Option (ℕ × Task)) → running_on tasks cpu ≡ o → leave Preempt tasks o ≡ put tasks k (record t { mode = Ready })
pulled_by tasks once k cpu t is runs None found = let some = runs_there tasks k t cpu is runs in absurd (cc (some, ap is_some found))
pulled_by tasks once k cpu t is runs (Some e) found =
    let number : e.0 ≡ k = only_runs tasks once cpu k t e is runs found in
    let there : task_of tasks k ≡ Some e.1 = subst (λ n. task_of tasks n ≡ Some e.1) number (running_found tasks cpu e found).0 in
    let same : e.1 ≡ t = cc (there, is) in
    ap (λ n. put tasks n (record e.1 { mode = Ready })) number ∙ ap (λ (x : Task). put tasks k (record x { mode = Ready })) same

runs_at_home : (t : Task) → t.mode ≡ Running → is_running_on t.cpu.0 t ≡ true
runs_at_home t mode = rw (itself t.cpu.0, mode) refl

not_wrong : (o : Option (ℕ × Task)) → is_some o ≡ true → not (is_some o) ≡ false
not_wrong o some = rw some refl

comes_pulled : (cpus at room : ℕ) (cpu : Cpu) (pid : Pid) (w : World) (task : Task) → Stands cpus at (room + 1 + 1) w → IsPid pid → cpu.0 < cpus → task_of w.tasks pid.0 ≡ Some task → task.mode ≡ Running → is_some_and (task_of w.tasks pid.0) (is_running_on cpu.0) ≡ false
    → Comes cpus at room cpu pid w (act.Switch task.cpu None Preempt ∷ act.Migrate pid cpu ∷ [])
comes_pulled cpus at room cpu pid w task so is there live mode off =
    let home = runs_at_home task mode in
    let some = runs_there w.tasks pid.0 task task.cpu.0 live home in
    let first = step_switch cpus at (room + 1) w task.cpu None Preempt so (place_of cpus at (room + 1 + 1) w so pid.0 task live) tt (not_wrong (running_on w.tasks task.cpu.0) some) in
    let between = after_event w (event_at at (act.Switch task.cpu None Preempt)) in
    let pulled : between.tasks ≡ put w.tasks pid.0 (record task { mode = Ready }) = pulled_by w.tasks so.legal.once pid.0 task.cpu.0 task live home (running_on w.tasks task.cpu.0) refl in
    let ready : task_of between.tasks pid.0 ≡ Some (record task { mode = Ready }) = ap (λ (tasks : Tasks). task_of tasks pid.0) pulled ∙ put_there w.tasks pid.0 (record task { mode = Ready }) in
    let second = comes_moved cpus at room cpu pid between (record task { mode = Ready }) first.later is there ready refl in
    let kept : RunsAsBefore cpu.0 w.tasks between.tasks = subst (λ (tasks : Tasks). RunsAsBefore cpu.0 w.tasks tasks) (sym pulled) (runs_put cpu.0 w.tasks pid.0 (record task { mode = Ready }) off (rests cpu.0 (record task { mode = Ready }) refl)) in
    record {
      goes = goes_then cpus at (room + 1) room w (act.Switch task.cpu None Preempt) (act.Migrate pid cpu ∷ []) first second.goes;
      same = λ q. second.same q ∙ kept q;
      ready = second.ready;
    }

-- ---- all cases

comes_live : (cpus at have room : ℕ) (cpu : Cpu) (pid : Pid) (w : World) (task : Task) (mode : Mode) → Stands cpus at have w → length (coming_acts pid cpu task.cpu mode) + room ≤ have → IsPid pid → cpu.0 < cpus → task_of w.tasks pid.0 ≡ Some task → task.mode ≡ mode → is_some_and (task_of w.tasks pid.0) (is_running_on cpu.0) ≡ false
    → Comes cpus at room cpu pid w (coming_acts pid cpu task.cpu mode)
comes_live cpus at have room cpu pid w task Blocked so few is there live mode off = comes_woken cpus at room cpu pid w task (less_room cpus at have (room + 1) w so (omega (arith, few))) is there live (ap is_active mode)
comes_live cpus at have room cpu pid w task Waiting so few is there live mode off = comes_woken cpus at room cpu pid w task (less_room cpus at have (room + 1) w so (omega (arith, few))) is there live (ap is_active mode)
comes_live cpus at have room cpu pid w task Ready so few is there live mode off =
    elim (task.cpu.0 == cpu.0) as (λ b. (task.cpu.0 == cpu.0) ≡ b → length (cond b [] (act.Migrate pid cpu ∷ [])) + room ≤ have → Comes cpus at room cpu pid w (cond b [] (act.Migrate pid cpu ∷ []))) [
      | true ↦ λ here fits. comes_ready cpus at room cpu pid w task (less_room cpus at have room w so (omega (arith, fits))) live (ap is_ready mode) here
      | false ↦ λ other fits. comes_moved cpus at room cpu pid w task (less_room cpus at have (room + 1) w so (omega (arith, fits))) is there live (ap is_ready mode)
    ] refl few
comes_live cpus at have room cpu pid w task Running so few is there live mode off = comes_pulled cpus at room cpu pid w task (less_room cpus at have (room + 1 + 1) w so (omega (arith, few))) is there live mode off

pub comes : (cpus at have room : ℕ) (cpu : Cpu) (pid : Pid) (w : World) (o : Option Task) → Stands cpus at have w → length (arrival_acts pid cpu o) + room ≤ have → IsPid pid → cpu.0 < cpus → task_of w.tasks pid.0 ≡ o → (o ≡ None → tasks_by.len w.tasks < 65536) → is_some_and (task_of w.tasks pid.0) (is_running_on cpu.0) ≡ false
    → Comes cpus at room cpu pid w (arrival_acts pid cpu o)
comes cpus at have room cpu pid w None so few is there live space off = comes_made cpus at room cpu pid w (less_room cpus at have (room + 1) w so (omega (arith, few))) is there live (space refl)
comes cpus at have room cpu pid w (Some task) so few is there live space off = comes_live cpus at have room cpu pid w task task.mode so few is there live refl off
