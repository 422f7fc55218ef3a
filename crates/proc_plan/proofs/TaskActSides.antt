-- Proves that a task act adds only changes: it sets no trigger, and has no side unless a task
-- exits.
use Rattle.std.proofs.Common.{◌≡◌, ℕ, List, [], refl, ap, true, false, Option, None, Some}
use Rattle.psi_base.specs.declared.event.How.{How}
use Rattle.psi_base.specs.declared.event.How.TheVariants.{Preempt, Sleep, IoWait, Exit, Idle}
use Rattle.psi_spec.specs.declared.machine.GroupLife.{GroupLife}
use Rattle.psi_spec.specs.declared.machine.Task.{Task}
use Rattle.psi_spec.specs.Collected.{trigger_by}
use Rattle.psi_spec.specs.World.{World, prepared_changes, running_on, task_of, task_part}
use Rattle.psi_spec.specs.Refusal.{is_exit}
use Rattle.psi_spec.proofs.TaskLaws.{itself}
use Rattle.psi_counts.specs.Touch.{changed, left_if}
use Rattle.trace_player.specs.declared.task_act.TaskAct.{TaskAct}
use Rattle.trace_player.specs.declared.task_act.TaskAct.TheVariants as task_act
use Rattle.trace_player.specs.TaskActs.{as_act, as_event, exits}
use Rattle.proc_plan.specs.Sides.{group_of, passage, sides_by}

pub no_trigger : (at : ℕ) (groups : List GroupLife) (a : TaskAct) → [] ≡ trigger_by at groups (as_act a)
no_trigger at groups (task_act.Wake pid cpu) = refl
no_trigger at groups (task_act.Switch cpu next how) = refl
no_trigger at groups (task_act.Stall pid) = refl
no_trigger at groups (task_act.Unstall pid) = refl
no_trigger at groups (task_act.Migrate pid cpu) = refl

-- A task that stays in its group neither leaves nor joins a group.
stays : (at : ℕ) (old new : Option Task) → group_of new ≡ group_of old → [] ≡ passage at (group_of old) (group_of new)
stays at None None same = refl
stays at (Some old) (Some new) same = let slot : new.slot ≡ old.slot = cc same in rw (slot, itself old.slot.0) refl
stays at None (Some new) same = absurd (cc same)
stays at (Some old) None same = absurd (cc same)

-- A task changed by a function that keeps its slot stays in its group.
changed_stays : (at : ℕ) (f : Task → Task) → ((t : Task) → (f t).slot ≡ t.slot) → (old : Option Task) → [] ≡ passage at (group_of old) (group_of (changed f old))
changed_stays at f keeps None = refl
changed_stays at f keeps (Some t) = stays at (Some t) (Some (f t)) (ap (λ slot. Some slot) (keeps t))

-- A task that leaves its processor without exiting stays in its group.
left_stays : (at : ℕ) (how : How) → is_exit how ≡ false → (old : Option Task) → [] ≡ passage at (group_of old) (group_of (left_if how old))
left_stays at how stay None = refl
left_stays at Preempt stay (Some t) = stays at (Some t) (Some t) refl
left_stays at Sleep stay (Some t) = stays at (Some t) (Some t) refl
left_stays at IoWait stay (Some t) = stays at (Some t) (Some t) refl
left_stays at Idle stay (Some t) = stays at (Some t) (Some t) refl
left_stays at Exit stay (Some t) = absurd (cc stay)

pub no_sides : (w : World) (at : ℕ) (a : TaskAct) → exits a ≡ false → [] ≡ sides_by w (as_event at a)
no_sides w at (task_act.Wake pid cpu) stay = changed_stays at (prepared_changes cpu.0) (λ t. refl) (task_of w.tasks pid.0)
no_sides w at (task_act.Migrate pid cpu) stay = changed_stays at (prepared_changes cpu.0) (λ t. refl) (task_of w.tasks pid.0)
no_sides w at (task_act.Stall pid) stay = changed_stays at (λ t. record t { stalled = true }) (λ t. refl) (task_of w.tasks pid.0)
no_sides w at (task_act.Unstall pid) stay = changed_stays at (λ t. record t { stalled = false }) (λ t. refl) (task_of w.tasks pid.0)
no_sides w at (task_act.Switch cpu next how) stay = left_stays at how stay (task_part (running_on w.tasks cpu.0))
