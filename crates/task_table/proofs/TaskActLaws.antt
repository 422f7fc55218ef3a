-- Properties of the act that a task act stands for.
use Rattle.std.proofs.Common.{◌≡◌, ℕ, ◌+◌, ◌≤◌, List, refl, ap, ◌∙◌, sym, Bool, true, false, Option, None, Some, ◌==◌, arith, subst}
use Rattle.std.specs.Prelude.{if◌then◌else◌, ◌||◌, slice_index_or}
use Rattle.std.proofs.lemmas.Bool.{false≢true}
use Rattle.std.proofs.lemmas.Bool.Decides.{eqb_tells}
use Rattle.psi_base.specs.declared.event.Cpu.{Cpu}
use Rattle.psi_base.specs.declared.event.Act.{Act}
use Rattle.psi_counts.specs.declared.changes.Change.{Change}
use Rattle.psi_spec.specs.declared.machine.GroupLife.{GroupLife}
use Rattle.psi_spec.specs.declared.machine.Task.{Task}
use Rattle.psi_base.specs.Missing.{is_some_and}
use Rattle.psi_spec.proofs.TaskLaws.{itself}
use Rattle.psi_spec.specs.World.{Tasks, World, after_event, ends, groups_after, irqs_after, is_pressure, is_trigger, tasks_after}
use Rattle.psi_spec.specs.Changes.{is_at, touched}
use Rattle.psi_spec.specs.Stall.{irq_time_by}
use Rattle.psi_counts.specs.Touch.{IsBeside, account_of, known_first}
use Rattle.trace_player.specs.declared.task_act.TaskAct.{TaskAct}
use Rattle.trace_player.specs.declared.task_act.TaskAct.TheVariants as task_act
use Rattle.trace_player.specs.TaskActs.{as_act, as_event, pid_of}
use Rattle.task_table.specs.declared.task_update.TaskUpdate.{TaskUpdate}
use Rattle.psi_counts.specs.Legal.{IsLegalWorld}
use Rattle.psi_counts.proofs.LegalLaws.{legal_kept}
use Rattle.psi_spec.specs.Refusal.{cause_of}
use Rattle.task_table.specs.Stands.{HasPlayed, table_of}
use Rattle.task_table.specs.Acts.{cpu_in, cpus_touched, unless_on}
use Rattle.task_table.specs.Named.{change_for, named_task, next_task, touched_change}

-- The task that a task act names is the task with the named pid.
pub named_by_pid : (tasks : Tasks) (a : TaskAct) → named_task tasks (as_act a) ≡ next_task tasks (pid_of a)
named_by_pid tasks (task_act.Wake pid cpu) = refl
named_by_pid tasks (task_act.Switch cpu next how) = refl
named_by_pid tasks (task_act.Stall pid) = refl
named_by_pid tasks (task_act.Unstall pid) = refl
named_by_pid tasks (task_act.Migrate pid cpu) = refl

-- A task act changes only tasks: the groups, the `irq` times and the counters stay the same.
pub record LeavesRest (at : ℕ) (groups : List GroupLife) (irqs : List ℕ) (a : Act) : Type 0 where
  pub groups_same : groups_after at groups a ≡ groups
  pub irqs_same : irqs_after at irqs a ≡ irqs
  pub triggers : is_trigger a ≡ false
  pub pressures : is_pressure a ≡ false
  pub goes_on : ends a ≡ false
  pub plain : account_of groups a ≡ None

pub leaves_rest : (at : ℕ) (groups : List GroupLife) (irqs : List ℕ) (a : TaskAct) → LeavesRest at groups irqs (as_act a)
leaves_rest at groups irqs (task_act.Wake pid cpu) = record { groups_same = refl; irqs_same = refl; triggers = refl; pressures = refl; goes_on = refl; plain = refl }
leaves_rest at groups irqs (task_act.Switch cpu next how) = record { groups_same = refl; irqs_same = refl; triggers = refl; pressures = refl; goes_on = refl; plain = refl }
leaves_rest at groups irqs (task_act.Stall pid) = record { groups_same = refl; irqs_same = refl; triggers = refl; pressures = refl; goes_on = refl; plain = refl }
leaves_rest at groups irqs (task_act.Unstall pid) = record { groups_same = refl; irqs_same = refl; triggers = refl; pressures = refl; goes_on = refl; plain = refl }
leaves_rest at groups irqs (task_act.Migrate pid cpu) = record { groups_same = refl; irqs_same = refl; triggers = refl; pressures = refl; goes_on = refl; plain = refl }

-- ---- its effect on a table

same_count : (n : ℕ) (more : Bool) → more ≡ false → n + (if more then 1 else 0) ≡ n
same_count n more none = rw none (omega arith)

same_end : (ended ends : Bool) → ends ≡ false → (ended || ends) ≡ ended
same_end true ends goes_on = refl
same_end false ends goes_on = goes_on

-- The world after a task act has the changed tasks, one more event and the time of the act.
world_after : (w : World) (at : ℕ) (a : TaskAct) → after_event w (as_event at a) ≡ record w { tasks = tasks_after w.groups w.tasks (as_act a); lines = w.lines + 1; last = at }
world_after w at a =
    let rest = leaves_rest at w.groups w.irqs a in
    cc (rest.groups_same, rest.irqs_same, same_count w.triggers (is_trigger (as_act a)) rest.triggers, same_count w.pressures (is_pressure (as_act a)) rest.pressures, same_end w.ended (ends (as_act a)) rest.goes_on)

-- A table with the values of the world after a task act has played the act.
pub task_played : (cpus cpus_next latest : ℕ) (tasks tasks_next : Tasks) (groups : List GroupLife) (irqs : List ℕ) (triggers pressures lines last : ℕ) (ended : Bool) (at : ℕ) (a : TaskAct)
    → cpus_next ≡ cpus → tasks_next ≡ tasks_after groups tasks (as_act a) → last ≤ at
    → cause_of (table_of cpus latest tasks groups irqs triggers pressures lines last ended).limits (table_of cpus latest tasks groups irqs triggers pressures lines last ended).world (as_event at a) ≡ None
    → IsLegalWorld (table_of cpus latest tasks groups irqs triggers pressures lines last ended).limits (table_of cpus latest tasks groups irqs triggers pressures lines last ended).world
    → HasPlayed (table_of cpus latest tasks groups irqs triggers pressures lines last ended) (as_event at a) (table_of cpus_next latest tasks_next groups irqs triggers pressures (lines + 1) at ended)
task_played cpus cpus_next latest tasks tasks_next groups irqs triggers pressures lines last ended at a same tasks_are forward legal old =
    let table = table_of cpus latest tasks groups irqs triggers pressures lines last ended in
    let world = world_after table.world at a in
    let kept = subst (λ v. IsLegalWorld table.limits v) world (legal_kept table.limits table.world (as_event at a) legal old) in
    rw (same, tasks_are) (record {
      limits = refl;
      legal = legal;
      world = sym world;
      legal_before = old;
      legal_after = kept;
      lines = kept.few_lines;
      early = kept.early;
      forward = forward;
    })

-- ---- its touch

-- A search in two changes finds the change of either processor. The second change may be missing if
-- its processor equals the first.
either_known : (one other left : Bool) (x y z : Change) → (one ≡ true → x ≡ z) → (other ≡ true → y ≡ z) → (left ≡ true → other ≡ true → one ≡ true)
    → (if one then Some x else if left then None else if other then Some y else None) ≡ (if one || other then Some z else None)
either_known true other left x y z of_one of_other same = ap Some (of_one refl)
either_known false true true x y z of_one of_other same = absurd (false≢true (same refl refl))
either_known false true false x y z of_one of_other same = ap Some (of_other refl)
either_known false false true x y z of_one of_other same = refl
either_known false false false x y z of_one of_other same = refl

-- A search in one change finds it exactly on its own processor.
one_known : (one : Bool) (x z : Change) → (one ≡ true → x ≡ z) → (if one then Some x else None) ≡ (if one then Some z else None)
one_known true x z of_one = ap Some (of_one refl)
one_known false x z of_one = refl

same_number : (one other : ℕ) → (one == other) ≡ true → one ≡ other
same_number one other is = grind (arith, eqb_tells)

-- The change of a processor that may be missing is found exactly on this processor.
known_left : (at : ℕ) (changed : TaskUpdate) (running : List (Option (ℕ × Task))) (left : Bool) (there : Cpu) (cpu : ℕ) → known_first cpu (touched_change at changed running (if left then None else Some there)) None ≡ (if left then None else if there.0 == cpu then Some (change_for at changed (slice_index_or running there.0 None) 0 there.0) else None)
known_left at changed running true there cpu = refl
known_left at changed running false there cpu = refl

-- The changes of a named processor and of a task's processor are found exactly on these processors.
two_known : (at : ℕ) (changed : TaskUpdate) (running : List (Option (ℕ × Task))) (named : Cpu) (old : Option Task) (cpu : ℕ) → known_first cpu (touched_change at changed running (Some named)) (known_first cpu (touched_change at changed running (unless_on named old)) None) ≡ (if named.0 == cpu || is_some_and old (is_at cpu) then Some (change_for at changed (slice_index_or running cpu None) 0 cpu) else None)
two_known at changed running named None cpu =
    let change : ℕ → Change = λ n. change_for at changed (slice_index_or running n None) 0 n in
    either_known (named.0 == cpu) false true (change named.0) (change named.0) (change cpu) (λ is. ap change (same_number named.0 cpu is)) (λ is. absurd (false≢true is)) (λ _ is. absurd (false≢true is))
two_known at changed running named (Some task) cpu =
    let change : ℕ → Change = λ n. change_for at changed (slice_index_or running n None) 0 n in
    ap (λ rest. if named.0 == cpu then Some (change named.0) else rest) (known_left at changed running (task.cpu.0 == named.0) task.cpu cpu)
    ∙ either_known (named.0 == cpu) (task.cpu.0 == cpu) (task.cpu.0 == named.0) (change named.0) (change task.cpu.0) (change cpu) (λ is. ap change (same_number named.0 cpu is)) (λ is. ap change (same_number task.cpu.0 cpu is))
    (λ left other. subst (λ n. (n == cpu) ≡ true) (same_number task.cpu.0 named.0 left) other)

-- The change of a task's processor is found exactly on this processor.
one_in : (at : ℕ) (changed : TaskUpdate) (running : List (Option (ℕ × Task))) (old : Option Task) (cpu : ℕ) → known_first cpu (touched_change at changed running (cpu_in old)) None ≡ (if is_some_and old (is_at cpu) then Some (change_for at changed (slice_index_or running cpu None) 0 cpu) else None)
one_in at changed running None cpu = refl
one_in at changed running (Some task) cpu =
    let change : ℕ → Change = λ n. change_for at changed (slice_index_or running n None) 0 n in
    one_known (task.cpu.0 == cpu) (change task.cpu.0) (change cpu) (λ is. ap change (same_number task.cpu.0 cpu is))

-- The touch of a task act has exactly the changes that the act makes on processors.
pub task_known : (at : ℕ) (a : TaskAct) (changed : TaskUpdate) (running : List (Option (ℕ × Task))) (cpu : ℕ) →
    known_first cpu (touched_change at changed running (cpus_touched a changed.old).0) (known_first cpu (touched_change at changed running (cpus_touched a changed.old).1) None)
    ≡ (if touched (as_act a) changed.old cpu then Some (change_for at changed (slice_index_or running cpu None) (irq_time_by cpu (as_act a)) cpu) else None)
task_known at (task_act.Wake pid named) changed running cpu = two_known at changed running named changed.old cpu
task_known at (task_act.Migrate pid named) changed running cpu = two_known at changed running named changed.old cpu
task_known at (task_act.Switch named next how) changed running cpu =
    let change : ℕ → Change = λ n. change_for at changed (slice_index_or running n None) 0 n in
    one_known (named.0 == cpu) (change named.0) (change cpu) (λ is. ap change (same_number named.0 cpu is))
task_known at (task_act.Stall pid) changed running cpu = one_in at changed running changed.old cpu
task_known at (task_act.Unstall pid) changed running cpu = one_in at changed running changed.old cpu

-- The two changes of a touch are on different processors.
two_beside : (at : ℕ) (changed : TaskUpdate) (running : List (Option (ℕ × Task))) (named there : Cpu) (left : Bool) → (there.0 == named.0) ≡ left → IsBeside (touched_change at changed running (Some named)) (touched_change at changed running (if left then None else Some there))
two_beside at changed running named there true is = tt
two_beside at changed running named there false is = λ same. absurd (false≢true (sym is ∙ ap (λ (c : Cpu). there.0 == c.0) same ∙ itself there.0))

beside_old : (at : ℕ) (changed : TaskUpdate) (running : List (Option (ℕ × Task))) (named : Cpu) (old : Option Task) → IsBeside (touched_change at changed running (Some named)) (touched_change at changed running (unless_on named old))
beside_old at changed running named None = tt
beside_old at changed running named (Some task) = two_beside at changed running named task.cpu (task.cpu.0 == named.0) refl

pub task_beside : (at : ℕ) (a : TaskAct) (changed : TaskUpdate) (running : List (Option (ℕ × Task))) → IsBeside (touched_change at changed running (cpus_touched a changed.old).0) (touched_change at changed running (cpus_touched a changed.old).1)
task_beside at (task_act.Wake pid named) changed running = beside_old at changed running named changed.old
task_beside at (task_act.Migrate pid named) changed running = beside_old at changed running named changed.old
task_beside at (task_act.Switch named next how) changed running = tt
task_beside at (task_act.Stall pid) changed running = alone (touched_change at changed running (cpu_in changed.old))
  where
    alone : (first : Option (Cpu × Change)) → IsBeside first None
    alone first = tt
task_beside at (task_act.Unstall pid) changed running = alone (touched_change at changed running (cpu_in changed.old))
  where
    alone : (first : Option (Cpu × Change)) → IsBeside first None
    alone first = tt
