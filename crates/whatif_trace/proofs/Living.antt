-- Proves that the dead tasks stay live in the original trace until they exit there.
use Rattle.std.proofs.Common.{◌≡◌, ℕ, List, refl, ap, ◌∙◌, sym, subst, cond, Bool, true, false, Option, None, Some, ◌==◌}
use Rattle.std.specs.Prelude.{◌&&◌, filter, is_some, not}
use Rattle.psi_base.specs.declared.event.Act.{Act}
use Rattle.psi_base.specs.declared.event.Act.TheVariants as act
use Rattle.psi_base.specs.declared.event.Cpu.{Cpu}
use Rattle.psi_base.specs.declared.event.How.{How}
use Rattle.psi_base.specs.declared.event.How.TheVariants.{Preempt, Sleep, IoWait, Exit, Idle}
use Rattle.psi_base.specs.declared.event.Pid.{Pid}
use Rattle.psi_spec.specs.declared.machine.Task.{Task}
use Rattle.psi_spec.specs.World.{Tasks, World, change_to, leave, placed, running_on, start, task_of, tasks_after}
use Rattle.psi_spec.proofs.TaskLaws.{get_put, get_remove}
use Rattle.whatif_spec.specs.Without.{dead_after, is_pid_among, pid_part, without_pid}
use Rattle.whatif_trace.proofs.Changing.{among_less}

-- Each of these pids is the pid of a live task.
abbrev pub AreLive : List ℕ → Tasks → Type 0
AreLive dead tasks = (pid : ℕ) → is_pid_among dead pid ≡ true → is_some (task_of tasks pid) ≡ true

some_or : (b : Bool) (task : Task) (o : Option Task) → is_some o ≡ true → is_some (cond b (Some task) o) ≡ true
some_or true task o some = refl
some_or false task o some = some

put_live : (dead : List ℕ) (tasks : Tasks) (k : ℕ) (task : Task) → AreLive dead tasks → AreLive dead (placed tasks k (Some task))
put_live dead tasks k task live pid is = ap is_some (get_put tasks k task pid) ∙ some_or (pid == k) task (task_of tasks pid) (live pid is)

change_live : (dead : List ℕ) (tasks : Tasks) (k : ℕ) (f : Task → Task) (o : Option Task) → AreLive dead tasks → AreLive dead (change_to tasks k f o)
change_live dead tasks k f None live = live
change_live dead tasks k f (Some task) live = put_live dead tasks k (f task) live

start_live : (dead : List ℕ) (tasks : Tasks) (next : Option Pid) → AreLive dead tasks → AreLive dead (start next tasks)
start_live dead tasks None live = live
start_live dead tasks (Some pid) live = change_live dead tasks pid.0 _ (task_of tasks pid.0) live

both_true : (b c : Bool) → (b && not c) ≡ true → (b ≡ true) × (c ≡ false)
both_true true false is = (refl, refl)
both_true true true is = absurd (let no : ⊥ = cc is in no)
both_true false c is = absurd (let no : ⊥ = cc is in no)

-- A task that exits is removed from the dead tasks, and the other dead tasks are still live.
exit_live : (dead : List ℕ) (tasks : Tasks) (k : ℕ) → AreLive dead tasks → AreLive (filter (λ other. not (other == k)) dead) (placed tasks k None)
exit_live dead tasks k live pid is =
    let parts = both_true (is_pid_among dead pid) (pid == k) (sym (among_less dead k pid) ∙ is) in
    ap is_some (get_remove tasks k pid ∙ ap (λ b. cond b None (task_of tasks pid)) parts.1) ∙ live pid parts.0

-- ---- by acts

-- The dead tasks after a switch. `running` is the task that is switched out, if any.
abbrev pub dead_by : How → List ℕ → Option (ℕ × Task) → List ℕ
dead_by Exit dead running = without_pid dead (pid_part running)
dead_by Preempt dead running = dead
dead_by Sleep dead running = dead
dead_by IoWait dead running = dead
dead_by Idle dead running = dead

pub dead_is : (dead : List ℕ) (w : World) (cpu : Cpu) (next : Option Pid) (how : How) → dead_after dead w (act.Switch cpu next how) ≡ dead_by how dead (running_on w.tasks cpu.0)
dead_is dead w cpu next Exit = refl
dead_is dead w cpu next Preempt = refl
dead_is dead w cpu next Sleep = refl
dead_is dead w cpu next IoWait = refl
dead_is dead w cpu next Idle = refl

left_live : (dead : List ℕ) (tasks : Tasks) (how : How) (o : Option (ℕ × Task)) → AreLive dead tasks → AreLive (dead_by how dead o) (leave how tasks o)
left_live dead tasks Exit None live = live
left_live dead tasks Exit (Some e) live = exit_live dead tasks e.0 live
left_live dead tasks Preempt None live = live
left_live dead tasks Preempt (Some e) live = put_live dead tasks e.0 _ live
left_live dead tasks Sleep None live = live
left_live dead tasks Sleep (Some e) live = put_live dead tasks e.0 _ live
left_live dead tasks IoWait None live = live
left_live dead tasks IoWait (Some e) live = put_live dead tasks e.0 _ live
left_live dead tasks Idle None live = live
left_live dead tasks Idle (Some e) live = put_live dead tasks e.0 _ live

-- After each act of the trace, the dead tasks are live in the original trace.
pub act_live : (dead : List ℕ) (w : World) (what : Act) → AreLive dead w.tasks → AreLive (dead_after dead w what) (tasks_after w.groups w.tasks what)
act_live dead w (act.Fork pid path cpu) live = put_live dead w.tasks pid.0 _ live
act_live dead w (act.Wake pid cpu) live = change_live dead w.tasks pid.0 _ (task_of w.tasks pid.0) live
act_live dead w (act.Stall pid) live = change_live dead w.tasks pid.0 _ (task_of w.tasks pid.0) live
act_live dead w (act.Unstall pid) live = change_live dead w.tasks pid.0 _ (task_of w.tasks pid.0) live
act_live dead w (act.Migrate pid cpu) live = change_live dead w.tasks pid.0 _ (task_of w.tasks pid.0) live
act_live dead w (act.Move pid path) live = change_live dead w.tasks pid.0 _ (task_of w.tasks pid.0) live
act_live dead w (act.Switch cpu next how) live =
    subst (λ later. AreLive later (start next (leave how w.tasks (running_on w.tasks cpu.0)))) (sym (dead_is dead w cpu next how))
    (start_live (dead_by how dead (running_on w.tasks cpu.0)) (leave how w.tasks (running_on w.tasks cpu.0)) next (left_live dead w.tasks how (running_on w.tasks cpu.0) live))
act_live dead w (act.Group path) live = live
act_live dead w (act.Remove path) live = live
act_live dead w (act.Prefer path preference) live = live
act_live dead w (act.Mem path current swap scan) live = live
act_live dead w (act.Host mem_total swap_total swap_free) live = live
act_live dead w (act.Trigger path res level threshold_us window_us) live = live
act_live dead w (act.Irq cpu ns) live = live
act_live dead w (act.Pressure path on) live = live
act_live dead w act.End live = live
