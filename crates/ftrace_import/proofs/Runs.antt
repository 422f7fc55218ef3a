-- Proofs about the running task of a processor before and after changes of other tasks, and that no
-- task is in a memory stall.
use Rattle.std.proofs.Common.{◌≡◌, ℕ, refl, ap, ◌∙◌, sym, arith, cond, Bool, true, false, Option, None, Some, ◌==◌}
use Rattle.std.specs.Prelude.{◌&&◌, is_some, option_map}
use Rattle.std.proofs.lemmas.Bool.Decides.{nat_tests}
use Rattle.psi_base.specs.declared.event.How.{How}
use Rattle.psi_base.specs.declared.event.How.TheVariants.{Exit, Idle, IoWait, Preempt, Sleep}
use Rattle.psi_base.specs.declared.event.Pid.{Pid}
use Rattle.psi_base.specs.Missing.{is_some_and}
use Rattle.psi_spec.specs.declared.machine.Mode.TheVariants.{Blocked, Ready, Running, Waiting}
use Rattle.psi_spec.specs.declared.machine.Task.{Task}
use Rattle.psi_spec.specs.Refusal.{is_wrong}
use Rattle.psi_spec.specs.World.{Tasks, change_to, is_running, is_running_on, leave, left_by, placed, put, running_on, start, task_of, task_part}
use Rattle.psi_spec.proofs.TaskLaws.{get_put, task_placed}
use Rattle.psi_counts.specs.Touch.{RunsOnce}
use Rattle.psi_counts.proofs.TouchCounts.{running_found}
use Rattle.ftrace_import.specs.Laws.{runner}
use Rattle.ftrace_import.specs.Stands.{IsCalm}
use Rattle.task_table.proofs.Runners.{only_runs, runs_there}

-- ---- no task is in a memory stall

pub calm_placed : (tasks : Tasks) → IsCalm tasks → (k : ℕ) (x : Option Task) → is_some_and x (λ t. t.stalled) ≡ false → IsCalm (placed tasks k x)
calm_placed tasks calm k x is q = rw (task_placed tasks k x q) (elim (q == k) as (λ b. is_some_and (cond b x (task_of tasks q)) (λ t. t.stalled) ≡ false) [ true ↦ is | false ↦ calm q ])

pub calm_put : (tasks : Tasks) → IsCalm tasks → (k : ℕ) (t : Task) → t.stalled ≡ false → IsCalm (put tasks k t)
calm_put tasks calm k t is = calm_placed tasks calm k (Some t) is

-- A live task isn't in a memory stall.
pub calm_task : (tasks : Tasks) → IsCalm tasks → (k : ℕ) (t : Task) → task_of tasks k ≡ Some t → t.stalled ≡ false
calm_task tasks calm k t is = let here = calm k in rw is at here

pub calm_change : (tasks : Tasks) → IsCalm tasks → (k : ℕ) (f : Task → Task) → ((t : Task) → (f t).stalled ≡ t.stalled) → (o : Option Task) → task_of tasks k ≡ o → IsCalm (change_to tasks k f o)
calm_change tasks calm k f keeps None is = calm
calm_change tasks calm k f keeps (Some t) is = calm_put tasks calm k (f t) (keeps t ∙ calm_task tasks calm k t is)

calm_left : (how : How) (t : Task) → t.stalled ≡ false → is_some_and (left_by how t) (λ t. t.stalled) ≡ false
calm_left Preempt t is = is
calm_left Sleep t is = is
calm_left IoWait t is = is
calm_left Exit t is = refl
calm_left Idle t is = is

calm_leave : (tasks : Tasks) → IsCalm tasks → (cpu : ℕ) (how : How) (o : Option (ℕ × Task)) → running_on tasks cpu ≡ o → IsCalm (leave how tasks o)
calm_leave tasks calm cpu how None is = calm
calm_leave tasks calm cpu how (Some e) is = calm_placed tasks calm e.0 (left_by how e.1) (calm_left how e.1 (calm_task tasks calm e.0 e.1 (running_found tasks cpu e is).0))

calm_start : (tasks : Tasks) → IsCalm tasks → (next : Option Pid) → IsCalm (start next tasks)
calm_start tasks calm None = calm
calm_start tasks calm (Some pid) = calm_change tasks calm pid.0 (λ task. record task { mode = Running }) (λ t. refl) (task_of tasks pid.0) refl

pub calm_switch : (tasks : Tasks) → IsCalm tasks → (cpu : ℕ) (next : Option Pid) (how : How) → IsCalm (start next (leave how tasks (running_on tasks cpu)))
calm_switch tasks calm cpu next how = calm_start (leave how tasks (running_on tasks cpu)) (calm_leave tasks calm cpu how (running_on tasks cpu) refl) next

-- The running task isn't in a memory stall.
pub calm_running : (tasks : Tasks) → IsCalm tasks → (cpu : ℕ) (o : Option (ℕ × Task)) → running_on tasks cpu ≡ o → is_some_and (task_part o) (λ t. t.stalled) ≡ false
calm_running tasks calm cpu None is = refl
calm_running tasks calm cpu (Some e) is = calm_task tasks calm e.0 e.1 (running_found tasks cpu e is).0

-- ---- the running task

-- The same tasks run on a processor before and after.
abbrev pub RunsAsBefore : ℕ → Tasks → Tasks → Type 0
RunsAsBefore cpu before now = (q : ℕ) → is_some_and (task_of now q) (is_running_on cpu) ≡ is_some_and (task_of before q) (is_running_on cpu)

pub runs_put : (cpu : ℕ) (tasks : Tasks) (k : ℕ) (t : Task) → is_some_and (task_of tasks k) (is_running_on cpu) ≡ false → is_running_on cpu t ≡ false → RunsAsBefore cpu tasks (put tasks k t)
runs_put cpu tasks k t off rests q =
    rw (get_put tasks k t q) (elim (q == k) as (λ b. (q == k) ≡ b → is_some_and (cond b (Some t) (task_of tasks q)) (is_running_on cpu) ≡ is_some_and (task_of tasks q) (is_running_on cpu)) [
      | true ↦ λ number. let same : q ≡ k = grind (arith, nat_tests) in rests ∙ sym (rw same off)
      | false ↦ λ _. refl
    ] refl)

-- A processor has a running task if a given task runs on it.
runs_if : (tasks : Tasks) (cpu q : ℕ) → is_some_and (task_of tasks q) (is_running_on cpu) ≡ true → is_some (running_on tasks cpu) ≡ true
runs_if tasks cpu q runs =
    elim (task_of tasks q) as (λ o. task_of tasks q ≡ o → is_some_and o (is_running_on cpu) ≡ true → is_some (running_on tasks cpu) ≡ true) [
      | None ↦ λ is r. absurd (cc r)
      | Some t ↦ λ is r. runs_there tasks q t cpu is r
    ] refl runs

-- A processor has a running task if it had one before.
runs_on : (cpu : ℕ) (before now : Tasks) → RunsAsBefore cpu before now → (o : Option (ℕ × Task)) → running_on before cpu ≡ o → is_some o ≡ true → is_some (running_on now cpu) ≡ true
runs_on cpu before now same None is some = absurd (cc some)
runs_on cpu before now same (Some e) is some =
    let there = running_found before cpu e is in
    runs_if now cpu e.0 (same e.0 ∙ ap (λ o. is_some_and o (is_running_on cpu)) there.0 ∙ there.1)

either_way : (a b : Bool) → (a ≡ true → b ≡ true) → (b ≡ true → a ≡ true) → b ≡ a
either_way true b one other = one refl
either_way false true one other = sym (other refl)
either_way false false one other = refl

-- A processor has a running task exactly if it had one before.
pub same_runs : (cpu : ℕ) (before now : Tasks) → RunsAsBefore cpu before now → is_some (running_on now cpu) ≡ is_some (running_on before cpu)
same_runs cpu before now same =
    either_way (is_some (running_on before cpu)) (is_some (running_on now cpu))
    (runs_on cpu before now same (running_on before cpu) refl)
    (runs_on cpu now before (λ q. sym (same q)) (running_on now cpu) refl)

-- The running task of a processor is the task that is known to run there.
runner_in : (tasks : Tasks) → RunsOnce tasks → (cpu : ℕ) (pid : Pid) (task : Task) → task_of tasks pid.0 ≡ Some task → is_running_on cpu task ≡ true → (o : Option (ℕ × Task)) → running_on tasks cpu ≡ o → option_map (λ (e : ℕ × Task). let pid : Pid = record { 0 = e.0 } in pid) o ≡ Some pid
runner_in tasks once cpu pid task is runs None found = let some = runs_there tasks pid.0 task cpu is runs in absurd (cc (some, ap is_some found))
runner_in tasks once cpu pid task is runs (Some e) found = ap (λ n. let o : Option Pid = Some (record { 0 = n }) in o) (only_runs tasks once cpu pid.0 task e is runs found)

pub runner_is : (tasks : Tasks) → RunsOnce tasks → (cpu : ℕ) (pid : Pid) → is_some_and (task_of tasks pid.0) (is_running_on cpu) ≡ true → runner tasks cpu ≡ Some pid
runner_is tasks once cpu pid runs =
    elim (task_of tasks pid.0) as (λ o. task_of tasks pid.0 ≡ o → is_some_and o (is_running_on cpu) ≡ true → runner tasks cpu ≡ Some pid) [
      | None ↦ λ is r. absurd (cc r)
      | Some t ↦ λ is r. runner_in tasks once cpu pid t is r (running_on tasks cpu) refl
    ] refl runs

-- If no running task is found, the processor has none.
pub no_runner : (tasks : Tasks) (cpu : ℕ) (o : Option (ℕ × Task)) → running_on tasks cpu ≡ o → is_some o ≡ false → runner tasks cpu ≡ None
no_runner tasks cpu None is none = ap (option_map (λ (e : ℕ × Task). let pid : Pid = record { 0 = e.0 } in pid)) is
no_runner tasks cpu (Some e) is none = absurd (cc none)

-- ---- a running task that leaves

pub rests : (cpu : ℕ) (t : Task) → is_running t.mode ≡ false → is_running_on cpu t ≡ false
rests cpu t off = elim (t.cpu.0 == cpu) as (λ b. (b && is_running t.mode) ≡ false) [ true ↦ off | false ↦ refl ]

-- A task that left its processor doesn't run there.
left_rests : (cpu : ℕ) (how : How) (e : ℕ × Task) → is_wrong how (Some e) ≡ false → is_some_and (left_by how e.1) (is_running_on cpu) ≡ false
left_rests cpu Preempt e right = rests cpu (record e.1 { mode = Ready }) refl
left_rests cpu Sleep e right = rests cpu (record e.1 { mode = Blocked }) refl
left_rests cpu IoWait e right = rests cpu (record e.1 { mode = Waiting }) refl
left_rests cpu Exit e right = refl
left_rests cpu Idle e right = absurd (cc right)

-- After the running task left, no task runs on the processor.
none_after : (tasks : Tasks) → RunsOnce tasks → (cpu : ℕ) (how : How) (e : ℕ × Task) → running_on tasks cpu ≡ Some e → is_wrong how (Some e) ≡ false → (q : ℕ) → is_some_and (task_of (placed tasks e.0 (left_by how e.1)) q) (is_running_on cpu) ≡ false
none_after tasks once cpu how e found right q =
    rw (task_placed tasks e.0 (left_by how e.1) q) (elim (q == e.0) as (λ b. (q == e.0) ≡ b → is_some_and (cond b (left_by how e.1) (task_of tasks q)) (is_running_on cpu) ≡ false) [
      | true ↦ λ _. left_rests cpu how e right
      | false ↦ λ other.
          elim (task_of tasks q) as (λ o. task_of tasks q ≡ o → is_some_and o (is_running_on cpu) ≡ false) [
            | None ↦ λ _. refl
            | Some t ↦ λ is.
                elim (is_running_on cpu t) as (λ b. is_running_on cpu t ≡ b → b ≡ false) [
                  | true ↦ λ runs. let same : e.0 ≡ q = only_runs tasks once cpu q t e is runs found in absurd (grind (arith, nat_tests))
                  | false ↦ λ _. refl
                ] refl
          ] refl
    ] refl)

off_if : (tasks : Tasks) (cpu : ℕ) → ((q : ℕ) → is_some_and (task_of tasks q) (is_running_on cpu) ≡ false) → (o : Option (ℕ × Task)) → running_on tasks cpu ≡ o → is_some o ≡ false
off_if tasks cpu none None is = refl
off_if tasks cpu none (Some e) is = let there = running_found tasks cpu e is in absurd (cc (none e.0, ap (λ o. is_some_and o (is_running_on cpu)) there.0, there.1))

pub none_runs : (tasks : Tasks) → RunsOnce tasks → (cpu : ℕ) (how : How) (e : ℕ × Task) → running_on tasks cpu ≡ Some e → is_wrong how (Some e) ≡ false → runner (leave how tasks (running_on tasks cpu)) cpu ≡ None
none_runs tasks once cpu how e found right =
    let left = placed tasks e.0 (left_by how e.1) in
    let none : runner left cpu ≡ None = no_runner left cpu (running_on left cpu) refl (off_if left cpu (none_after tasks once cpu how e found right) (running_on left cpu) refl) in
    rw found none
