-- Proofs about a switch on a processor: the running task leaves, and the next task runs after it.
use Rattle.std.proofs.Common.{◌≡◌, ℕ, ◌+◌, ◌≤◌, ◌<◌, List, [], ◌∷◌, ◌++◌, refl, ap, ◌∙◌, sym, subst, arith, cond, Bool, true, false, Option, None, Some, ◌==◌, length}
use Rattle.std.specs.Prelude.{IfSome, is_some}
use Rattle.std.specs.FinMap as tasks_by
use Rattle.std.proofs.lemmas.List.{length-append, map-append}
use Rattle.psi_base.specs.declared.event.Act.{Act}
use Rattle.psi_base.specs.declared.event.Act.TheVariants as act
use Rattle.psi_base.specs.declared.event.Cpu.{Cpu}
use Rattle.psi_base.specs.declared.event.How.{How}
use Rattle.psi_base.specs.declared.event.How.TheVariants.{Idle, Preempt}
use Rattle.psi_base.specs.declared.event.Pid.{Pid}
use Rattle.psi_base.specs.Missing.{is_some_and}
use Rattle.psi_spec.specs.declared.machine.Mode.TheVariants.{Running}
use Rattle.psi_spec.specs.declared.machine.Task.{Task}
use Rattle.psi_spec.specs.Fields.{IsPid}
use Rattle.psi_spec.specs.Refusal.{is_wrong}
use Rattle.psi_spec.specs.World.{Tasks, World, after_event, after_from, change, is_ready, is_ready_on, is_running_on, leave, put, running_on, start, task_of, events_at}
use Rattle.psi_spec.proofs.Following.{after_from-append}
use Rattle.psi_spec.proofs.RefusalLaws.{first_true}
use Rattle.psi_spec.proofs.TaskLaws.{get_put, itself}
use Rattle.psi_counts.proofs.TouchLaws.{ready_left}
use Rattle.import_spec.specs.Events.{leaving, next_acts, runs_there, start_acts, switch_acts, turn_acts}
use Rattle.ftrace_import.specs.Laws.{runner}
use Rattle.ftrace_import.proofs.Runs.{no_runner, none_runs, runner_is, same_runs}
use Rattle.ftrace_import.specs.Stands.{Leaves, Stands}
use Rattle.ftrace_import.proofs.Steps.{Goes, IsNext, event_at, goes_none, goes_on, goes_one, step_switch}
use Rattle.ftrace_import.proofs.Arrivals.{changed_is, comes, less_room}

-- The acts are legal, and after them the next task, or none, runs on the processor.
pub record Turned (cpus at room : ℕ) (cpu : Cpu) (next : Option Pid) (w : World) (acts : List Act) : Type 0 where
  pub goes : Goes cpus at room w acts
  pub runs : runner (after_from w (events_at at acts)).tasks cpu.0 ≡ next

-- ---- the next task runs

put_there : (tasks : Tasks) (k : ℕ) (t : Task) → task_of (put tasks k t) k ≡ Some t
put_there tasks k t = get_put tasks k t k ∙ ap (λ b. cond b (Some t) (task_of tasks k)) (itself k)

-- A task that was ready on a processor runs there after it is started.
started_from : (tasks : Tasks) (cpu : ℕ) (how : How) (k : ℕ) (o : Option Task) → task_of tasks k ≡ o → is_some_and o (is_ready_on cpu) ≡ true → is_some_and (task_of (start (Some (record { 0 = k })) (leave how tasks (running_on tasks cpu))) k) (is_running_on cpu) ≡ true
started_from tasks cpu how k None is ready = absurd (cc ready)
started_from tasks cpu how k (Some t) is ready =
    let left = leave how tasks (running_on tasks cpu) in
    let still : task_of left k ≡ Some t = ready_left tasks cpu how k (ap (λ o. is_some_and o (is_ready_on cpu)) is ∙ ready) (running_on tasks cpu) refl ∙ is in
    let there : (t.cpu.0 == cpu) ≡ true = first_true (t.cpu.0 == cpu) (is_ready t.mode) ready in
    let now : change left k (λ task. record task { mode = Running }) ≡ put left k (record t { mode = Running }) = changed_is left k (λ task. record task { mode = Running }) t still in
    ap (λ (tasks : Tasks). is_some_and (task_of tasks k) (is_running_on cpu)) now ∙ rw (put_there left k (record t { mode = Running }), there) refl

started : (tasks : Tasks) (cpu : ℕ) (how : How) (pid : Pid) → is_some_and (task_of tasks pid.0) (is_ready_on cpu) ≡ true → is_some_and (task_of (start (Some pid) (leave how tasks (running_on tasks cpu))) pid.0) (is_running_on cpu) ≡ true
started tasks cpu how pid ready = started_from tasks cpu how pid.0 (task_of tasks pid.0) refl ready

-- One switch, after which the next task runs.
turned_to : (cpus at room : ℕ) (w : World) (cpu : Cpu) (pid : Pid) (how : How) → Stands cpus at (room + 1) w → cpu.0 < cpus → IsNext w.tasks cpu.0 (Some pid) → is_wrong how (running_on w.tasks cpu.0) ≡ false → Turned cpus at room cpu (Some pid) w (act.Switch cpu (Some pid) how ∷ [])
turned_to cpus at room w cpu pid how so there next right =
    let step = step_switch cpus at room w cpu (Some pid) how so there next right in
    record {
      goes = goes_one cpus at room w (act.Switch cpu (Some pid) how) step;
      runs = runner_is (after_event w (event_at at (act.Switch cpu (Some pid) how))).tasks step.later.legal.once cpu.0 pid (started w.tasks cpu.0 how pid next.1);
    }

-- One switch, after which no task runs.
turned_off : (cpus at room : ℕ) (w : World) (cpu : Cpu) (how : How) (o : Option (ℕ × Task)) → Stands cpus at (room + 1) w → cpu.0 < cpus → running_on w.tasks cpu.0 ≡ o → is_some o ≡ true → Leaves how → Turned cpus at room cpu None w (act.Switch cpu None how ∷ [])
turned_off cpus at room w cpu how None so there found some leaves = absurd (cc some)
turned_off cpus at room w cpu how (Some e) so there found some leaves =
    let right : is_wrong how (running_on w.tasks cpu.0) ≡ false = ap (is_wrong how) found ∙ leaves (Some e) some in
    let step = step_switch cpus at room w cpu None how so there tt right in
    record {
      goes = goes_one cpus at room w (act.Switch cpu None how) step;
      runs = none_runs w.tasks so.legal.once cpu.0 how e found (leaves (Some e) some);
    }

-- ---- the acts that change the running task

-- If a task is running on the processor, one switch makes the next task run there.
turned_some : (cpus at room : ℕ) (w : World) (cpu : Cpu) (next : Option Pid) (how : How) → Stands cpus at (room + 1) w → cpu.0 < cpus → IsNext w.tasks cpu.0 next → is_some (running_on w.tasks cpu.0) ≡ true → Leaves how → Turned cpus at room cpu next w (act.Switch cpu next how ∷ [])
turned_some cpus at room w cpu None how so there ready some leaves = turned_off cpus at room w cpu how (running_on w.tasks cpu.0) so there refl some leaves
turned_some cpus at room w cpu (Some pid) how so there ready some leaves = turned_to cpus at room w cpu pid how so there ready (leaves (running_on w.tasks cpu.0) some)

-- If no task is running on the processor, the acts of a start make the next task run there.
turned_none : (cpus at have room : ℕ) (w : World) (cpu : Cpu) (next : Option Pid) → Stands cpus at have w → length (start_acts cpu next) + room ≤ have → cpu.0 < cpus → IsNext w.tasks cpu.0 next → is_some (running_on w.tasks cpu.0) ≡ false → Turned cpus at room cpu next w (start_acts cpu next)
turned_none cpus at have room w cpu None so few there ready none = record {
  goes = goes_none cpus at room w (less_room cpus at have room w so (omega (arith, few)));
  runs = no_runner w.tasks cpu.0 (running_on w.tasks cpu.0) refl none;
}
turned_none cpus at have room w cpu (Some pid) so few there ready none = turned_to cpus at room w cpu pid Idle (less_room cpus at have (room + 1) w so (omega (arith, few))) there ready none

-- Returns the acts that change the running task. They depend on whether a task is running.
abbrev pub turn_by : Bool → Cpu → Option Pid → How → List Act
turn_by some cpu next how = cond some (act.Switch cpu next how ∷ []) (start_acts cpu next)

pub turned : (cpus at have room : ℕ) (w : World) (cpu : Cpu) (next : Option Pid) (how : How) (some : Bool) → Stands cpus at have w → length (turn_by some cpu next how) + room ≤ have → cpu.0 < cpus → IsNext w.tasks cpu.0 next → is_some (running_on w.tasks cpu.0) ≡ some → Leaves how → Turned cpus at room cpu next w (turn_by some cpu next how)
turned cpus at have room w cpu next how true so few there ready is leaves = turned_some cpus at room w cpu next how (less_room cpus at have (room + 1) w so (omega (arith, few))) there ready is leaves
turned cpus at have room w cpu next how false so few there ready is leaves = turned_none cpus at have room w cpu next so few there ready is

-- ---- a switch

leaves_by : (tasks : Tasks) (cpu : Cpu) (previous : Option Pid) (how : How) → Leaves how → Leaves (leaving tasks cpu previous how)
leaves_by tasks cpu previous how leaves =
    elim (runs_there tasks cpu previous) as (λ b. Leaves (cond b how Preempt)) [ true ↦ leaves | false ↦ λ o some. rw some refl ]

-- If the next task already runs on the processor, no act is needed.
turned_already : (cpus at have room : ℕ) (w : World) (cpu : Cpu) (next : Option Pid) → Stands cpus at have w → room ≤ have → runs_there w.tasks cpu next ≡ true → Turned cpus at room cpu next w []
turned_already cpus at have room w cpu None so few runs = absurd (cc runs)
turned_already cpus at have room w cpu (Some pid) so few runs = record {
  goes = goes_none cpus at room w (less_room cpus at have room w so few);
  runs = runner_is w.tasks so.legal.once cpu.0 pid runs;
}

-- The world after two lists of acts is the world after the second list, starting from the world
-- after the first list.
pub events_after : (at : ℕ) (w : World) (xs ys : List Act) → after_from w (events_at at (xs ++ ys)) ≡ after_from (after_from w (events_at at xs)) (events_at at ys)
events_after at w xs ys = ap (after_from w) (map-append (event_at at) xs ys) ∙ after_from-append w (events_at at xs) (events_at at ys)

-- The acts that make the next task ready on the processor, followed by the acts that change the
-- running task, make the next task run there.
turned_in : (cpus at have room : ℕ) (w : World) (cpu : Cpu) (next : Option Pid) (how : How) → Stands cpus at have w → length (next_acts w.tasks cpu next ++ turn_by (is_some (running_on w.tasks cpu.0)) cpu next how) + room ≤ have → cpu.0 < cpus → IfSome next IsPid → Leaves how
    → IfSome next (λ pid. task_of w.tasks pid.0 ≡ None → tasks_by.len w.tasks < 65536) → runs_there w.tasks cpu next ≡ false → Turned cpus at room cpu next w (next_acts w.tasks cpu next ++ turn_by (is_some (running_on w.tasks cpu.0)) cpu next how)
turned_in cpus at have room w cpu None how so few there is leaves space off = turned cpus at have room w cpu None how (is_some (running_on w.tasks cpu.0)) so few there tt refl leaves
turned_in cpus at have room w cpu (Some pid) how so few there is leaves space off =
    let prefix = next_acts w.tasks cpu (Some pid) in
    let turn = turn_by (is_some (running_on w.tasks cpu.0)) cpu (Some pid) how in
    let all = length-append prefix turn in
    let first = comes cpus at have (length turn + room) cpu pid w (task_of w.tasks pid.0) so (omega (arith, few, all)) is there refl space off in
    let between = after_from w (events_at at prefix) in
    let then = turned cpus at (length turn + room) room between cpu (Some pid) how (is_some (running_on w.tasks cpu.0)) first.goes.later (omega arith) there (is, first.ready) (same_runs cpu.0 w.tasks between.tasks first.same) leaves in
    record {
      goes = goes_on cpus at (length turn + room) room w prefix turn first.goes then.goes;
      runs = subst (λ (v : World). runner v.tasks cpu.0 ≡ Some pid) (sym (events_after at w prefix turn)) then.runs;
    }

-- The acts of a switch make the next task run on the processor.
pub turns : (cpus at have room : ℕ) (w : World) (cpu : Cpu) (previous next : Option Pid) (how : How) → Stands cpus at have w → length (switch_acts w.tasks cpu previous next how) + room ≤ have → cpu.0 < cpus → IfSome next IsPid → Leaves how
    → (runs_there w.tasks cpu next ≡ false → IfSome next (λ pid. task_of w.tasks pid.0 ≡ None → tasks_by.len w.tasks < 65536)) → Turned cpus at room cpu next w (switch_acts w.tasks cpu previous next how)
turns cpus at have room w cpu previous next how so few there is leaves space =
    let acts = next_acts w.tasks cpu next ++ turn_acts w.tasks cpu previous next how in
    elim (runs_there w.tasks cpu next) as (λ b. runs_there w.tasks cpu next ≡ b → length (cond b [] acts) + room ≤ have → Turned cpus at room cpu next w (cond b [] acts)) [
      | true ↦ λ runs fits. turned_already cpus at have room w cpu next so (omega (arith, fits)) runs
      | false ↦ λ off fits. turned_in cpus at have room w cpu next (leaving w.tasks cpu previous how) so fits there is (leaves_by w.tasks cpu previous how leaves) (space off) off
    ] refl few
