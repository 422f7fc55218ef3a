-- Proofs that the next act of a task (what its event does) is legal, and that all tasks stay live
-- after it.
use Rattle.std.proofs.Common.{◌≡◌, ℕ, zero, suc, ◌^◌, ◌<◌, ◌≤◌, List, [], ◌∷◌, refl, ap, arith, cond, true, false, Option, None, Some, ◌==◌}
use Rattle.std.specs.Prelude.{find, is_some, nat_le, IfSome, IsSome, if◌then◌else◌}
use Rattle.std.specs.FinMap as tasks_by
use Rattle.std.proofs.Math.Nat.{mod-lt}
use Rattle.std.proofs.lemmas.Bool.Decides.{nat_tests}
use Rattle.psi_base.specs.declared.event.Pid.{Pid}
use Rattle.psi_base.specs.declared.event.How.{How}
use Rattle.psi_base.specs.declared.event.How.TheVariants.{Exit, Idle, IoWait, Preempt, Sleep}
use Rattle.psi_base.specs.declared.event.Act.{Act}
use Rattle.psi_base.specs.declared.event.Act.TheVariants as act
use Rattle.psi_spec.specs.declared.machine.GroupLife.{GroupLife}
use Rattle.psi_spec.specs.declared.machine.Mode.{Mode}
use Rattle.psi_spec.specs.declared.machine.Mode.TheVariants.{Blocked, Ready, Running, Waiting}
use Rattle.psi_spec.specs.declared.machine.Task.{Task}
use Rattle.psi_spec.specs.Fields.{IsAmong}
use Rattle.psi_spec.specs.Grammar as verb
use Rattle.psi_spec.specs.Grammar.{ActFits, first_verbs, phrase_of}
use Rattle.psi_spec.specs.Refusal.{is_exit, is_wrong}
use Rattle.psi_spec.specs.World.{Tasks, change, change_to, ends, is_active, is_ready, is_ready_on, is_running, is_running_on, leave, left_by, placed, put, prepared_changes, running_on, start, task_of, tasks_after}
use Rattle.trace_laws.proofs.GrammarReads.{found_first}
use Rattle.psi_spec.proofs.RefusalLaws.{first_true}
use Rattle.psi_spec.proofs.TaskLaws.{get_put}
use Rattle.run_spec.specs.declared.command.Shape.{Shape}
use Rattle.run_spec.specs.Generated.{RandomEvent, chosen, random_event, next_random, next_if, next_of, next_state, running_act, stall_turn, started, task_count, way_of, woken}
use Rattle.run_spec.specs.LegalCommand.{IsShape}
use Rattle.task_table.specs.Causes.{act_cause, takes_memory}
use Rattle.task_table.proofs.Runners.{runs_there}
use Rattle.trace_gen.specs.Generating.{AreLive}

-- ---- the running task of a processor

-- A task that runs on processor `cpu` is assigned to it.
processor_of : (cpu : ℕ) (task : Task) → is_running_on cpu task ≡ true → task.cpu.0 ≡ cpu
processor_of cpu task runs = let same : (task.cpu.0 == cpu) ≡ true = first_true (task.cpu.0 == cpu) (is_running task.mode) runs in grind (arith, nat_tests)

-- The task that is found running on an existing processor is on an existing processor.
found_within : (cpus cpu : ℕ) → cpu < cpus → (es : List (ℕ × Task)) → IfSome (find (λ e. is_running_on cpu e.1) es) (λ e. e.1.cpu.0 < cpus)
found_within cpus cpu room [] = tt
found_within cpus cpu room (e ∷ es) =
    elim (is_running_on cpu e.1) as (λ b. is_running_on cpu e.1 ≡ b → IfSome (cond b (Some e) (find (λ e. is_running_on cpu e.1) es)) (λ e. e.1.cpu.0 < cpus)) [
      | true ↦ λ runs. let same = processor_of cpu e.1 runs in omega (arith, same, room)
      | false ↦ λ _. found_within cpus cpu room es
    ] refl

-- ---- all tasks stay live

-- All tasks are live after a task on an existing processor is put into the map.
pub put_live : (shape : Shape) (tasks : Tasks) → AreLive shape tasks → (pid : ℕ) (task : Task) → task.cpu.0 < shape.cpus → AreLive shape (put tasks pid task)
put_live shape tasks are pid task room = record {
  live = λ q low high. rw (get_put tasks pid task q) (elim (q == pid) as (λ b. IsSome (cond b (Some task) (task_of tasks q))) [ true ↦ refl | false ↦ are.live q low high ]);
  within = λ q. rw (get_put tasks pid task q) (elim (q == pid) as (λ b. IfSome (cond b (Some task) (task_of tasks q)) (λ task. task.cpu.0 < shape.cpus)) [ true ↦ room | false ↦ are.within q ]);
}

-- The change `f` leaves a task on an existing processor.
abbrev StaysWithin : Shape → (Task → Task) → Type 0
StaysWithin shape f = (task : Task) → task.cpu.0 < shape.cpus → (f task).cpu.0 < shape.cpus

-- All tasks are live after an optional task is changed.
changed_live : (shape : Shape) (tasks : Tasks) → AreLive shape tasks → (pid : ℕ) (f : Task → Task) → StaysWithin shape f → (o : Option Task) → IfSome o (λ task. task.cpu.0 < shape.cpus) → AreLive shape (change_to tasks pid f o)
changed_live shape tasks are pid f stays None room = are
changed_live shape tasks are pid f stays (Some task) room = put_live shape tasks are pid (f task) (stays task room)

change_live : (shape : Shape) (tasks : Tasks) → AreLive shape tasks → (pid : ℕ) (f : Task → Task) → StaysWithin shape f → AreLive shape (change tasks pid f)
change_live shape tasks are pid f stays = changed_live shape tasks are pid f stays (task_of tasks pid) (are.within pid)

-- All tasks are live after a task leaves its processor without exiting.
left_live : (shape : Shape) (tasks : Tasks) → AreLive shape tasks → (how : How) → is_exit how ≡ false → (e : ℕ × Task) → e.1.cpu.0 < shape.cpus → AreLive shape (placed tasks e.0 (left_by how e.1))
left_live shape tasks are Preempt stays e room = put_live shape tasks are e.0 (record e.1 { mode = Ready }) room
left_live shape tasks are Sleep stays e room = put_live shape tasks are e.0 (record e.1 { mode = Blocked }) room
left_live shape tasks are IoWait stays e room = put_live shape tasks are e.0 (record e.1 { mode = Waiting }) room
left_live shape tasks are Exit stays e room = absurd (cc stays)
left_live shape tasks are Idle stays e room = put_live shape tasks are e.0 e.1 room

leave_live : (shape : Shape) (tasks : Tasks) → AreLive shape tasks → (how : How) → is_exit how ≡ false → (o : Option (ℕ × Task)) → IfSome o (λ e. e.1.cpu.0 < shape.cpus) → AreLive shape (leave how tasks o)
leave_live shape tasks are how stays None room = are
leave_live shape tasks are how stays (Some e) room = left_live shape tasks are how stays e room

-- All tasks are live after the next task, if any, starts.
start_live : (shape : Shape) (tasks : Tasks) → AreLive shape tasks → (next : Option Pid) → AreLive shape (start next tasks)
start_live shape tasks are None = are
start_live shape tasks are (Some pid) = change_live shape tasks are pid.0 (λ task. record task { mode = Running }) (λ task room. room)

switch_live : (shape : Shape) (tasks : Tasks) → AreLive shape tasks → (cpu : ℕ) → cpu < shape.cpus → (next : Option Pid) (how : How) → is_exit how ≡ false → AreLive shape (start next (leave how tasks (running_on tasks cpu)))
switch_live shape tasks are cpu room next how stays =
    start_live shape (leave how tasks (running_on tasks cpu)) (leave_live shape tasks are how stays (running_on tasks cpu) (found_within shape.cpus cpu room (tasks_by.entries tasks))) next

-- ---- the next act of a task

-- The act can be written in a trace line, its verb is in every version, and it is legal for any
-- groups, `irq` lines, triggers and `pressure` lines and at any time. All tasks stay live after it,
-- it isn't the end, and it needs no memory.
pub record IsStep (shape : Shape) (tasks : Tasks) (a : Act) : Type 0 where
  pub legal : (groups : List GroupLife) (irqs : List ℕ) (triggers pressures at : ℕ) → act_cause shape.cpus groups tasks irqs triggers pressures at a ≡ None
  pub fits : ActFits a
  pub known : IsAmong (phrase_of a).verb first_verbs
  pub live : (groups : List GroupLife) → AreLive shape (tasks_after groups tasks a)
  pub goes : ends a ≡ false
  pub light : takes_memory a ≡ false

-- `task` is the live task with number `pid` of a shape
record IsTask (shape : Shape) (tasks : Tasks) (pid : ℕ) (task : Task) : Type 0 where
  shaped : IsShape shape
  are : AreLive shape tasks
  low : 1 ≤ pid
  high : pid ≤ task_count shape
  is : task_of tasks pid ≡ Some task

-- The task is on an existing processor.
place_of : (shape : Shape) (tasks : Tasks) (pid : ℕ) (task : Task) → IsTask shape tasks pid task → task.cpu.0 < shape.cpus
place_of shape tasks pid task it = let here = it.are.within pid in rw it.is at here

-- The task's number is in the range of pids.
number_fits : (shape : Shape) (tasks : Tasks) (pid : ℕ) (task : Task) → IsTask shape tasks pid task → (0 < pid) × (pid < 2 ^ 32)
number_fits shape tasks pid task it =
    let few = it.shaped.cpus.1 in
    let low = it.low in
    let high = it.high in
    (omega (arith, low), omega (arith, few, high))

-- The number of an existing processor is in the range that a trace line allows.
processor_fits : (shape : Shape) → IsShape shape → (cpu : ℕ) → cpu < shape.cpus → cpu < 2 ^ 32
processor_fits shape shaped cpu room = let few = shaped.cpus.1 in omega (arith, few, room)

-- The test for a processor that doesn't exist is false for an existing processor.
there_is : (cpus cpu : ℕ) → cpu < cpus → nat_le cpus cpu ≡ false
there_is cpus cpu room = grind (arith, nat_tests)

-- Waking a blocked task is legal.
wake_step : (shape : Shape) (tasks : Tasks) (pid : ℕ) (task : Task) → IsTask shape tasks pid task → is_active task.mode ≡ false → (state : ℕ) → IsStep shape tasks (woken shape state pid).act
wake_step shape tasks pid task it sleeps state =
    let some = it.shaped.cpus.0 in
    let room : random_event (next_state state) shape.cpus < shape.cpus = mod-lt _ (omega (arith, some)) in
    let there = there_is shape.cpus (random_event (next_state state) shape.cpus) room in
    record {
      legal = λ groups irqs triggers pressures at. rw (it.is, there, sleeps) refl;
      fits = (number_fits shape tasks pid task it, (processor_fits shape it.shaped _ room, tt));
      known = found_first verb.Wake refl;
      live = λ groups. change_live shape tasks it.are pid (prepared_changes (random_event (next_state state) shape.cpus)) (λ _ _. room);
      goes = refl;
      light = refl;
    }

-- A task in mode ready is ready on its processor; a task in mode running runs there.
ready_on : (task : Task) → is_ready task.mode ≡ true → is_ready_on task.cpu.0 task ≡ true
ready_on task ready = let same : (task.cpu.0 == task.cpu.0) ≡ true = grind (arith, nat_tests) in rw (same, ready) refl

runs_on : (task : Task) → is_running task.mode ≡ true → is_running_on task.cpu.0 task ≡ true
runs_on task runs = let same : (task.cpu.0 == task.cpu.0) ≡ true = grind (arith, nat_tests) in rw (same, runs) refl

-- A random way of switching out is legal if a task runs.
way_needs : (n : ℕ) (running : Option (ℕ × Task)) → is_some running ≡ true → is_wrong (way_of n) running ≡ false
way_needs zero running some = rw some refl
way_needs (suc zero) running some = rw some refl
way_needs (suc (suc n)) running some = rw some refl

way_stays : (n : ℕ) → is_exit (way_of n) ≡ false
way_stays zero = refl
way_stays (suc zero) = refl
way_stays (suc (suc n)) = refl

-- A switch to a ready task on its processor is legal, if the way of switching out is.
start_step : (shape : Shape) (tasks : Tasks) (pid : ℕ) (task : Task) → IsTask shape tasks pid task → is_ready task.mode ≡ true → (how : How) → is_exit how ≡ false → is_wrong how (running_on tasks task.cpu.0) ≡ false
    → IsStep shape tasks (act.Switch task.cpu (Some (record { 0 = pid })) how)
start_step shape tasks pid task it ready how stays right =
    let room = place_of shape tasks pid task it in
    let there = there_is shape.cpus task.cpu.0 room in
    record {
      legal = λ groups irqs triggers pressures at. rw (it.is, there, ready_on task ready, right, stays) refl;
      fits = (processor_fits shape it.shaped _ room, (number_fits shape tasks pid task it, (tt, tt)));
      known = found_first verb.Switch refl;
      live = λ groups. switch_live shape tasks it.are task.cpu.0 room (Some (record { 0 = pid })) how stays;
      goes = refl;
      light = refl;
    }

started_step : (shape : Shape) (tasks : Tasks) (pid : ℕ) (task : Task) → IsTask shape tasks pid task → is_ready task.mode ≡ true → (state : ℕ) → IsStep shape tasks (started tasks state pid task).act
started_step shape tasks pid task it ready state =
    let way = way_of (random_event (next_state state) 4) in
    elim (is_some (running_on tasks task.cpu.0)) as (λ b. is_some (running_on tasks task.cpu.0) ≡ b → IsStep shape tasks (let d : RandomEvent = if b
    then record { act = act.Switch task.cpu (Some (record { 0 = pid })) way; state = next_state state }
    else record { act = act.Switch task.cpu (Some (record { 0 = pid })) Idle; state = state } in d.act)) [
      | true ↦ λ some. start_step shape tasks pid task it ready way (way_stays _) (way_needs _ (running_on tasks task.cpu.0) some)
      | false ↦ λ none. start_step shape tasks pid task it ready Idle refl none
    ] refl

-- A switch in which the running task sleeps or waits for IO is legal.
leave_step : (shape : Shape) (tasks : Tasks) (pid : ℕ) (task : Task) → IsTask shape tasks pid task → is_running task.mode ≡ true → (how : How) → is_exit how ≡ false → is_wrong how (running_on tasks task.cpu.0) ≡ false
    → IsStep shape tasks (act.Switch task.cpu None how)
leave_step shape tasks pid task it runs how stays right =
    let room = place_of shape tasks pid task it in
    let there = there_is shape.cpus task.cpu.0 room in
    record {
      legal = λ groups irqs triggers pressures at. rw (there, right, stays) refl;
      fits = (processor_fits shape it.shaped _ room, (tt, (tt, tt)));
      known = found_first verb.Switch refl;
      live = λ groups. switch_live shape tasks it.are task.cpu.0 room None how stays;
      goes = refl;
      light = refl;
    }

-- The begin or the end of a memory stall of the running task is legal.
stall_step : (shape : Shape) (tasks : Tasks) (pid : ℕ) (task : Task) → IsTask shape tasks pid task → is_running task.mode ≡ true → task.stalled ≡ false → IsStep shape tasks (act.Stall (record { 0 = pid }))
stall_step shape tasks pid task it runs calm = record {
  legal = λ groups irqs triggers pressures at. rw (it.is, runs, calm) refl;
  fits = (number_fits shape tasks pid task it, tt);
  known = found_first verb.Stall refl;
  live = λ groups. change_live shape tasks it.are pid (λ task. record task { stalled = true }) (λ _ room. room);
  goes = refl;
  light = refl;
}

unstall_step : (shape : Shape) (tasks : Tasks) (pid : ℕ) (task : Task) → IsTask shape tasks pid task → is_running task.mode ≡ true → task.stalled ≡ true → IsStep shape tasks (act.Unstall (record { 0 = pid }))
unstall_step shape tasks pid task it runs stalled = record {
  legal = λ groups irqs triggers pressures at. rw (it.is, runs, stalled) refl;
  fits = (number_fits shape tasks pid task it, tt);
  known = found_first verb.Unstall refl;
  live = λ groups. change_live shape tasks it.are pid (λ task. record task { stalled = false }) (λ _ room. room);
  goes = refl;
  light = refl;
}

turn_step : (shape : Shape) (tasks : Tasks) (pid : ℕ) (task : Task) → IsTask shape tasks pid task → is_running task.mode ≡ true → IsStep shape tasks (stall_turn pid task)
turn_step shape tasks pid task it runs =
    elim task.stalled as (λ b. task.stalled ≡ b → IsStep shape tasks (if b then act.Unstall (record { 0 = pid }) else act.Stall (record { 0 = pid }))) [
      | true ↦ λ stalled. unstall_step shape tasks pid task it runs stalled
      | false ↦ λ calm. stall_step shape tasks pid task it runs calm
    ] refl

running_step : (shape : Shape) (tasks : Tasks) (pid : ℕ) (task : Task) → IsTask shape tasks pid task → is_running task.mode ≡ true → (n : ℕ) → IsStep shape tasks (running_act pid task n)
running_step shape tasks pid task it runs zero =
    let some = runs_there tasks pid task task.cpu.0 it.is (runs_on task runs) in leave_step shape tasks pid task it runs Sleep refl (rw some refl)
running_step shape tasks pid task it runs (suc zero) =
    let some = runs_there tasks pid task task.cpu.0 it.is (runs_on task runs) in leave_step shape tasks pid task it runs IoWait refl (rw some refl)
running_step shape tasks pid task it runs (suc (suc n)) = turn_step shape tasks pid task it runs

-- The next act of a task is legal, for each mode of the task.
mode_step : (shape : Shape) (tasks : Tasks) (pid : ℕ) (task : Task) → IsTask shape tasks pid task → (mode : Mode) → task.mode ≡ mode → (state : ℕ) → IsStep shape tasks (next_of shape tasks state pid task mode).act
mode_step shape tasks pid task it Blocked is state = wake_step shape tasks pid task it (ap is_active is) state
mode_step shape tasks pid task it Waiting is state = wake_step shape tasks pid task it (ap is_active is) state
mode_step shape tasks pid task it Ready is state = started_step shape tasks pid task it (ap is_ready is) state
mode_step shape tasks pid task it Running is state = running_step shape tasks pid task it (ap is_running is) _

-- The next act of a task that is looked up is legal.
task_step : (shape : Shape) (tasks : Tasks) (pid : ℕ) → IsShape shape → AreLive shape tasks → 1 ≤ pid → pid ≤ task_count shape → (o : Option Task) → task_of tasks pid ≡ o → (state : ℕ) → IsStep shape tasks (next_if shape tasks state pid o).act
task_step shape tasks pid shaped are low high None is state = let some = are.live pid low high in absurd (cc (some, ap is_some is))
task_step shape tasks pid shaped are low high (Some task) is state =
    mode_step shape tasks pid task (record { shaped = shaped; are = are; low = low; high = high; is = is }) task.mode refl state

-- The next random act is legal.
pub next_step : (shape : Shape) (tasks : Tasks) → IsShape shape → AreLive shape tasks → (state : ℕ) → IsStep shape tasks (next_random shape tasks state).act
unfolding next_random
next_step shape tasks shaped are state =
    let after = next_state (next_state state) in
    let some = shaped.cpus.0 in
    let below : random_event after (task_count shape) < task_count shape = mod-lt _ (omega (arith, some)) in
    task_step shape tasks (chosen shape after) shaped are (omega arith) (omega (arith, below)) (task_of tasks (chosen shape after)) refl after
