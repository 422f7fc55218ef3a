-- Proves that what remains of a switch without the dead tasks is legal.
use Rattle.std.proofs.Common.{◌≡◌, ℕ, List, [], ◌∷◌, refl, ap, ◌∙◌, sym, subst, cond, Bool, true, false, Option, None, Some, ◌==◌, ⊎_elim}
use Rattle.std.specs.Prelude.{◌&&◌, IfSome, filter, is_some, not, nat_le, if◌then◌else◌}
use Rattle.std.proofs.lemmas.Bool.Decides.{eqb_tells}
use Rattle.psi_base.specs.declared.event.Act.TheVariants as act
use Rattle.psi_base.specs.declared.event.Cpu.{Cpu}
use Rattle.psi_base.specs.declared.event.How.{How}
use Rattle.psi_base.specs.declared.event.How.TheVariants.{Preempt, Sleep, IoWait, Exit, Idle}
use Rattle.psi_base.specs.declared.event.Pid.{Pid}
use Rattle.psi_base.specs.Missing.{is_some_and}
use Rattle.psi_spec.specs.declared.machine.Task.{Task}
use Rattle.psi_spec.specs.Refusal.{is_wrong}
use Rattle.psi_spec.specs.World.{Limits, Tasks, World, is_ready_on, leave, left_by, running_on, start, task_of}
use Rattle.psi_counts.specs.Touch.{RunsOnce}
use Rattle.psi_counts.proofs.TouchLaws.{ready_left}
use Rattle.psi_spec.proofs.TaskLaws.{get_remove}
use Rattle.task_table.specs.Causes.{how_cause, next_cause, switch_cause}
use Rattle.task_table.specs.Named.{next_task}
use Rattle.task_table.proofs.CauseLaws.{may_switch}
use Rattle.whatif_spec.specs.Without.{dead_after, is_alive, is_pid_among, if_alive, pid_part, switch_without}
use Rattle.whatif_trace.specs.Rest.{IsWithout}
use Rattle.whatif_trace.proofs.Fewer.{AreWithout, found_kept, if_kept, runs_kept}
use Rattle.whatif_trace.proofs.Changing.{among_less, exits_alive, exits_dead, placed_alive, placed_dead, start_alive, start_dead, start_kept}
use Rattle.whatif_trace.proofs.Living.{dead_by, dead_is}
use Rattle.whatif_trace.proofs.Steps.{Goes, HasRoom, IsOfTasks, NoneAgainst, both_none, in_place, left_out}

-- ---- causes

not_true : (b : Bool) → not b ≡ true → b ≡ false
not_true true h = absurd (let no : ⊥ = cc h in no)
not_true false h = refl

ready_some : (o : Option Task) (cpu : ℕ) → is_some_and o (is_ready_on cpu) ≡ true → is_some o ≡ true
ready_some None cpu ready = absurd (let no : ⊥ = cc ready in no)
ready_some (Some task) cpu ready = refl

-- A switch to a task that is ready on an existing processor, or to no task, is legal.
pub next_may : (cpus cpu : ℕ) (next : Option Pid) (task : Option Task) → nat_le cpus cpu ≡ false → IfSome next (λ _. is_some_and task (is_ready_on cpu) ≡ true) → next_cause cpus cpu next task ≡ None
next_may cpus cpu None task there ready = rw there refl
next_may cpus cpu (Some pid) task there ready = rw (ready_some task cpu ready, there, ready) refl

-- A next task that isn't dead is ready in both maps.
ready_kept : (dead : List ℕ) (tasks fewer : Tasks) (cpu : ℕ) (next : Option Pid) → AreWithout dead tasks fewer → is_alive dead next ≡ true → IfSome next (λ _. is_some_and (next_task tasks next) (is_ready_on cpu) ≡ true) → IfSome next (λ _. is_some_and (next_task fewer next) (is_ready_on cpu) ≡ true)
ready_kept dead tasks fewer cpu None are alive ready = tt
ready_kept dead tasks fewer cpu (Some pid) are alive ready = ap (λ o. is_some_and o (is_ready_on cpu)) (found_kept dead tasks fewer are pid.0 (not_true (is_pid_among dead pid.0) alive)) ∙ ready

ready_if : (dead : List ℕ) (tasks fewer : Tasks) (cpu : ℕ) (next : Option Pid) → AreWithout dead tasks fewer → IfSome next (λ _. is_some_and (next_task tasks next) (is_ready_on cpu) ≡ true) → IfSome (if_alive dead next) (λ _. is_some_and (next_task fewer (if_alive dead next)) (is_ready_on cpu) ≡ true)
ready_if dead tasks fewer cpu next are ready =
    elim (is_alive dead next) as (λ b. is_alive dead next ≡ b → IfSome (cond b next None) (λ _. is_some_and (next_task fewer (cond b next None)) (is_ready_on cpu) ≡ true)) [
      | true ↦ λ alive. ready_kept dead tasks fewer cpu next are alive ready
      | false ↦ λ gone. tt
    ] refl

pub may_be : (cpus cpu : ℕ) (next : Option Pid) (task : Option Task) (how : How) (running : Option (ℕ × Task)) → next_cause cpus cpu next task ≡ None → how_cause how running ≡ None → switch_cause cpus cpu next task how running ≡ None
may_be cpus cpu next task how running first second = rw (first, second) refl

-- ---- a switch

pub of_switch : (at : ℕ) (cpu : Cpu) (next : Option Pid) (how : How) → IsOfTasks at (act.Switch cpu next how)
of_switch at cpu next how = record { groups = λ groups. refl; irqs = λ irqs. refl; plain = refl; on = refl; goes_on = refl }

-- The facts about the switch and the worlds that the proofs of this module use.
record IsSwitch (limits : Limits) (dead : List ℕ) (w v : World) (at : ℕ) (cpu : Cpu) (next : Option Pid) (how : How) (running : Option (ℕ × Task)) : Type 0 where
  is : IsWithout dead w v
  room : HasRoom limits v at
  there : nat_le limits.cpus cpu.0 ≡ false
  ready : IfSome next (λ _. is_some_and (next_task w.tasks next) (is_ready_on cpu.0) ≡ true)
  leaves : how_cause how running ≡ None
  right : is_wrong how running ≡ false
  runs : running_on w.tasks cpu.0 ≡ running
  kept : running_on v.tasks cpu.0 ≡ if_kept dead running

-- The relation of the maps of tasks after the switch in the original trace.
tasks_are : (w : World) (cpu : Cpu) (next : Option Pid) (how : How) (running : Option (ℕ × Task)) (dead : List ℕ) (fewer : Tasks) → running_on w.tasks cpu.0 ≡ running → AreWithout dead (start next (leave how w.tasks running)) fewer → AreWithout dead (start next (leave how w.tasks (running_on w.tasks cpu.0))) fewer
tasks_are w cpu next how running dead fewer runs are = subst (λ o. AreWithout dead (start next (leave how w.tasks o)) fewer) (sym runs) are

-- The step for a switch that only switches in a task that isn't dead.
comes : (limits : Limits) (dead later : List ℕ) (w v : World) (at : ℕ) (cpu : Cpu) (next : Option Pid) (how : How) (running : Option (ℕ × Task)) → IsSwitch limits dead w v at cpu next how running → if_kept dead running ≡ None → is_alive dead next ≡ true
    → AreWithout later (start next (leave how w.tasks running)) (start next v.tasks) → Goes limits later w v at (act.Switch cpu next how) (act.Switch cpu next Idle ∷ [])
comes limits dead later w v at cpu next how running so none alive are =
    let idle : running_on v.tasks cpu.0 ≡ None = so.kept ∙ none in
    let ready = ready_kept dead w.tasks v.tasks cpu.0 next so.is.tasks alive so.ready in
    in_place limits dead later w v at (act.Switch cpu next how) (act.Switch cpu next Idle) so.is (of_switch at cpu next how) (of_switch at cpu next Idle) so.room
    (may_be limits.cpus cpu.0 next (next_task v.tasks next) Idle (running_on v.tasks cpu.0) (next_may limits.cpus cpu.0 next (next_task v.tasks next) so.there ready) (rw idle refl))
    (subst (λ o. AreWithout later (start next (leave how w.tasks (running_on w.tasks cpu.0))) (start next (leave Idle v.tasks o))) (sym idle) (tasks_are w cpu next how running later (start next v.tasks) so.runs are))

-- The step for a switch of which nothing remains.
stays : (limits : Limits) (dead later : List ℕ) (w v : World) (at : ℕ) (cpu : Cpu) (next : Option Pid) (how : How) (running : Option (ℕ × Task)) → IsSwitch limits dead w v at cpu next how running
    → AreWithout later (start next (leave how w.tasks running)) v.tasks → Goes limits later w v at (act.Switch cpu next how) []
stays limits dead later w v at cpu next how running so are =
    left_out limits dead later w v at (act.Switch cpu next how) so.is (of_switch at cpu next how) (tasks_are w cpu next how running later v.tasks so.runs are)

-- The step for a switch that doesn't switch out any task that isn't dead.
none_leaves : (limits : Limits) (dead later : List ℕ) (w v : World) (at : ℕ) (cpu : Cpu) (next : Option Pid) (how : How) (running : Option (ℕ × Task)) → IsSwitch limits dead w v at cpu next how running → if_kept dead running ≡ None
    → AreWithout later (leave how w.tasks running) v.tasks → is_alive later next ≡ is_alive dead next
    → Goes limits later w v at (act.Switch cpu next how) (if is_alive dead next then act.Switch cpu next Idle ∷ [] else [])
none_leaves limits dead later w v at cpu next how running so none are same =
    elim (is_alive dead next) as (λ b. is_alive dead next ≡ b → Goes limits later w v at (act.Switch cpu next how) (cond b (act.Switch cpu next Idle ∷ []) [])) [
      | true ↦ λ alive. comes limits dead later w v at cpu next how running so none alive (start_alive later (leave how w.tasks running) v.tasks next are (same ∙ alive))
      | false ↦ λ gone. stays limits dead later w v at cpu next how running so (start_dead later (leave how w.tasks running) v.tasks next are (same ∙ gone))
    ] refl

-- ---- no task ran

idled : (dead : List ℕ) (how : How) → is_wrong how None ≡ false → dead_by how dead None ≡ dead
idled dead Exit right = absurd (let no : ⊥ = cc right in no)
idled dead Preempt right = refl
idled dead Sleep right = refl
idled dead IoWait right = refl
idled dead Idle right = refl

none_ran : (limits : Limits) (dead : List ℕ) (w v : World) (at : ℕ) (cpu : Cpu) (next : Option Pid) (how : How) → IsSwitch limits dead w v at cpu next how None → Goes limits (dead_by how dead None) w v at (act.Switch cpu next how) (switch_without dead cpu None next how)
none_ran limits dead w v at cpu next how so =
    subst (λ later. Goes limits later w v at (act.Switch cpu next how) (switch_without dead cpu None next how)) (sym (idled dead how so.right))
    (none_leaves limits dead dead w v at cpu next how None so refl so.is.tasks refl)

-- ---- a task that isn't dead ran

led_alive : (dead : List ℕ) (tasks fewer : Tasks) (how : How) (e : ℕ × Task) → AreWithout dead tasks fewer → is_pid_among dead e.0 ≡ false → AreWithout dead (leave how tasks (Some e)) (leave how fewer (Some e))
led_alive dead tasks fewer how e are alive = placed_alive dead tasks fewer e.0 (left_by how e.1) are alive

by_exit : (dead : List ℕ) (tasks fewer : Tasks) (how : How) (e : ℕ × Task) → is_pid_among dead e.0 ≡ false → AreWithout dead tasks fewer → AreWithout (dead_by how dead (Some e)) tasks fewer
by_exit dead tasks fewer Exit e alive are = exits_alive dead tasks fewer e.0 are alive
by_exit dead tasks fewer Preempt e alive are = are
by_exit dead tasks fewer Sleep e alive are = are
by_exit dead tasks fewer IoWait e alive are = are
by_exit dead tasks fewer Idle e alive are = are

one_leaves : (limits : Limits) (dead : List ℕ) (w v : World) (at : ℕ) (cpu : Cpu) (next : Option Pid) (how : How) (e : ℕ × Task) → IsSwitch limits dead w v at cpu next how (Some e) → is_pid_among dead e.0 ≡ false
    → Goes limits (dead_by how dead (Some e)) w v at (act.Switch cpu next how) (act.Switch cpu (if_alive dead next) how ∷ [])
one_leaves limits dead w v at cpu next how e so alive =
    let runs : running_on v.tasks cpu.0 ≡ Some e = so.kept ∙ ap (λ b. cond b None (Some e)) alive in
    let left = led_alive dead w.tasks v.tasks how e so.is.tasks alive in
    let tasks = start_kept dead (leave how w.tasks (Some e)) (leave how v.tasks (Some e)) next left in
    let ready = ready_if dead w.tasks v.tasks cpu.0 next so.is.tasks so.ready in
    in_place limits dead (dead_by how dead (Some e)) w v at (act.Switch cpu next how) (act.Switch cpu (if_alive dead next) how) so.is (of_switch at cpu next how) (of_switch at cpu (if_alive dead next) how) so.room
    (may_be limits.cpus cpu.0 (if_alive dead next) (next_task v.tasks (if_alive dead next)) how (running_on v.tasks cpu.0) (next_may limits.cpus cpu.0 (if_alive dead next) (next_task v.tasks (if_alive dead next)) so.there ready) (ap (how_cause how) runs ∙ so.leaves))
    (subst (λ o. AreWithout (dead_by how dead (Some e)) (start next (leave how w.tasks (running_on w.tasks cpu.0))) (start (if_alive dead next) (leave how v.tasks o))) (sym runs)
    (tasks_are w cpu next how (Some e) (dead_by how dead (Some e)) (start (if_alive dead next) (leave how v.tasks (Some e))) so.runs
    (by_exit dead (start next (leave how w.tasks (Some e))) (start (if_alive dead next) (leave how v.tasks (Some e))) how e alive tasks)))

-- ---- a dead task ran

led_dead : (dead : List ℕ) (tasks fewer : Tasks) (how : How) (e : ℕ × Task) → AreWithout dead tasks fewer → is_pid_among dead e.0 ≡ true → AreWithout (dead_by how dead (Some e)) (leave how tasks (Some e)) fewer
led_dead dead tasks fewer Exit e are gone = exits_dead dead tasks fewer e.0 are gone
led_dead dead tasks fewer Preempt e are gone = placed_dead dead tasks fewer e.0 (left_by Preempt e.1) are gone
led_dead dead tasks fewer Sleep e are gone = placed_dead dead tasks fewer e.0 (left_by Sleep e.1) are gone
led_dead dead tasks fewer IoWait e are gone = placed_dead dead tasks fewer e.0 (left_by IoWait e.1) are gone
led_dead dead tasks fewer Idle e are gone = placed_dead dead tasks fewer e.0 (left_by Idle e.1) are gone

-- A conjunction with the negation of a false test equals its first test.
true_and : (b c : Bool) → c ≡ false → (b && not c) ≡ b
true_and true c off = rw off refl
true_and false c off = refl

-- The next task isn't the running task.
pub next_apart : (tasks : Tasks) (cpu pid : ℕ) (e : ℕ × Task) → is_some_and (task_of tasks pid) (is_ready_on cpu) ≡ true → running_on tasks cpu ≡ Some e → (pid == e.0) ≡ false
next_apart tasks cpu pid e ready runs =
    let still = ready_left tasks cpu Exit pid ready (Some e) runs in
    let gone = get_remove tasks e.0 pid in
    ⊎_elim
    (λ same. let none : task_of tasks pid ≡ None = sym still ∙ gone ∙ ap (λ b. cond b None (task_of tasks pid)) same.0 in absurd (let no : ⊥ = cc (ready, ap (λ o. is_some_and o (is_ready_on cpu)) none) in no))
    (λ other. other.0) (eqb_tells pid e.0)

same_alive : (dead : List ℕ) (tasks : Tasks) (cpu : ℕ) (next : Option Pid) (e : ℕ × Task) → IfSome next (λ _. is_some_and (next_task tasks next) (is_ready_on cpu) ≡ true) → running_on tasks cpu ≡ Some e
    → is_alive (filter (λ other. not (other == e.0)) dead) next ≡ is_alive dead next
same_alive dead tasks cpu None e ready runs = refl
same_alive dead tasks cpu (Some pid) e ready runs = ap not (among_less dead e.0 pid.0 ∙ true_and (is_pid_among dead pid.0) (pid.0 == e.0) (next_apart tasks cpu pid.0 e ready runs))

alive_by : (dead : List ℕ) (tasks : Tasks) (cpu : ℕ) (next : Option Pid) (how : How) (e : ℕ × Task) → IfSome next (λ _. is_some_and (next_task tasks next) (is_ready_on cpu) ≡ true) → running_on tasks cpu ≡ Some e
    → is_alive (dead_by how dead (Some e)) next ≡ is_alive dead next
alive_by dead tasks cpu next Exit e ready runs = same_alive dead tasks cpu next e ready runs
alive_by dead tasks cpu next Preempt e ready runs = refl
alive_by dead tasks cpu next Sleep e ready runs = refl
alive_by dead tasks cpu next IoWait e ready runs = refl
alive_by dead tasks cpu next Idle e ready runs = refl

dead_leaves : (limits : Limits) (dead : List ℕ) (w v : World) (at : ℕ) (cpu : Cpu) (next : Option Pid) (how : How) (e : ℕ × Task) → IsSwitch limits dead w v at cpu next how (Some e) → is_pid_among dead e.0 ≡ true
    → Goes limits (dead_by how dead (Some e)) w v at (act.Switch cpu next how) (if is_alive dead next then act.Switch cpu next Idle ∷ [] else [])
dead_leaves limits dead w v at cpu next how e so gone =
    none_leaves limits dead (dead_by how dead (Some e)) w v at cpu next how (Some e) so (ap (λ b. cond b None (Some e)) gone)
    (led_dead dead w.tasks v.tasks how e so.is.tasks gone) (alive_by dead w.tasks cpu.0 next how e so.ready so.runs)

-- ---- any task ran

some_ran : (limits : Limits) (dead : List ℕ) (w v : World) (at : ℕ) (cpu : Cpu) (next : Option Pid) (how : How) (e : ℕ × Task) → IsSwitch limits dead w v at cpu next how (Some e)
    → Goes limits (dead_by how dead (Some e)) w v at (act.Switch cpu next how) (switch_without dead cpu (pid_part (Some e)) next how)
some_ran limits dead w v at cpu next how e so =
    elim (is_pid_among dead e.0) as (λ b. is_pid_among dead e.0 ≡ b → Goes limits (dead_by how dead (Some e)) w v at (act.Switch cpu next how) (if not b then act.Switch cpu (if_alive dead next) how ∷ [] else if is_alive dead next then act.Switch cpu next Idle ∷ [] else [])) [
      | true ↦ λ gone. dead_leaves limits dead w v at cpu next how e so gone
      | false ↦ λ alive. one_leaves limits dead w v at cpu next how e so alive
    ] refl

whoever_ran : (limits : Limits) (dead : List ℕ) (w v : World) (at : ℕ) (cpu : Cpu) (next : Option Pid) (how : How) (running : Option (ℕ × Task)) → IsSwitch limits dead w v at cpu next how running
    → Goes limits (dead_by how dead running) w v at (act.Switch cpu next how) (switch_without dead cpu (pid_part running) next how)
whoever_ran limits dead w v at cpu next how None so = none_ran limits dead w v at cpu next how so
whoever_ran limits dead w v at cpu next how (Some e) so = some_ran limits dead w v at cpu next how e so

-- What remains of a legal switch is legal.
pub switch_goes : (limits : Limits) (dead : List ℕ) (w v : World) (at : ℕ) (cpu : Cpu) (next : Option Pid) (how : How) → IsWithout dead w v → RunsOnce w.tasks → HasRoom limits v at → NoneAgainst limits w at (act.Switch cpu next how)
    → Goes limits (dead_after dead w (act.Switch cpu next how)) w v at (act.Switch cpu next how) (switch_without dead cpu (pid_part (running_on w.tasks cpu.0)) next how)
switch_goes limits dead w v at cpu next how is once room none =
    let may = may_switch limits.cpus cpu.0 next (next_task w.tasks next) how (running_on w.tasks cpu.0) none in
    let parts = both_none (next_cause limits.cpus cpu.0 next (next_task w.tasks next)) (how_cause how (running_on w.tasks cpu.0)) none in
    subst (λ later. Goes limits later w v at (act.Switch cpu next how) (switch_without dead cpu (pid_part (running_on w.tasks cpu.0)) next how)) (sym (dead_is dead w cpu next how))
    (whoever_ran limits dead w v at cpu next how (running_on w.tasks cpu.0) (record {
      is = is;
      room = room;
      there = may.room;
      ready = may.ready;
      leaves = parts.1;
      right = may.leaves;
      runs = refl;
      kept = runs_kept dead w.tasks v.tasks is.tasks once cpu.0;
    }))
