-- Proves that the causes grouped by act (`event_cause`) equal the causes in the order of psi_spec
-- (`cause_of`), and states what holds if there is no cause.
use Rattle.std.proofs.Common.{◌≡◌, ℕ, ◌<◌, ◌≤◌, List, refl, ap, ◌∙◌, sym, Bool, true, false, arith, Option, None, Some, is_some}
use Rattle.std.proofs.lemmas.Bool.Decides.{nat_tests}
use Rattle.std.specs.Prelude.{IfSome, unwrap_or, nat_lt, nat_le, not, ◌&&◌, ◌||◌, if◌then◌else◌}
use Rattle.psi_base.specs.declared.event.Pid.{Pid}
use Rattle.psi_base.specs.declared.event.How.{How}
use Rattle.psi_base.specs.declared.event.Act.{Act}
use Rattle.psi_base.specs.declared.event.Act.TheVariants as act
use Rattle.psi_base.specs.declared.event.Event.{Event}
use Rattle.psi_base.specs.declared.event.Cause.{Cause}
use Rattle.psi_base.specs.declared.event.Cause.TheVariants as cause
use Rattle.psi_base.specs.Missing.{is_some_and}
use Rattle.psi_spec.specs.declared.machine.GroupLife.{GroupLife}
use Rattle.psi_spec.specs.declared.machine.Task.{Task}
use Rattle.psi_spec.specs.World.{World, Limits, Tasks, task_of, running_on, task_part, slot_of, is_active, is_ready, is_ready_on, is_root, as_slot}
use Rattle.psi_spec.specs.Refusal.{cause_of, has_child, has_member, is_wrong, is_exit, isnt_ready, lacks_group, lacks_task}
use Rattle.psi_spec.proofs.RefusalLaws.{not_false}
use Rattle.group_tree.specs.Tree.{pressure_cause, remove_cause}
use Rattle.task_table.specs.Causes.{act_cause, event_cause, fork_cause, groups_cause, how_cause, line_cause, migrate_cause, move_cause, or_cause, switch_cause, wake_cause, next_cause}
use Rattle.task_table.specs.Named.{group_with, next_task, slot_or_root, slot_with}
use Rattle.psi_base.specs.declared.event.Slot.{Slot}

-- Splits the causes for rejecting the removal of a group into the causes of the tree and the cause
-- of live tasks.
busy_parts : (a b c d : Bool) → (if a then Some cause.UnknownGroup else if b || c || d then Some cause.GroupBusy else None) ≡ or_cause (if a then Some cause.UnknownGroup else if b || c then Some cause.GroupBusy else None) (if d then Some cause.GroupBusy else None)
busy_parts true b c d = refl
busy_parts false true c d = refl
busy_parts false false true d = refl
busy_parts false false false d = refl

-- Splits the causes for rejecting a switch into the causes for rejecting the next task and the
-- other causes.
either : (a b c : Bool) (rest : Option Cause) → (if a then Some cause.UnknownTask else if b then Some cause.BadCpu else if c then Some cause.NotReady else rest) ≡ or_cause (if a then Some cause.UnknownTask else if b then Some cause.BadCpu else if c then Some cause.NotReady else None) rest
either true b c rest = refl
either false true c rest = refl
either false false true rest = refl
either false false false rest = refl

switch_parts : (cpus : ℕ) (tasks : Tasks) (cpu : ℕ) (next : Option Pid) (rest : Option Cause) → (if lacks_task tasks next then Some cause.UnknownTask else if nat_le cpus cpu then Some cause.BadCpu else if isnt_ready tasks cpu next then Some cause.NotReady else rest) ≡ or_cause (next_cause cpus cpu next (next_task tasks next)) rest
switch_parts cpus tasks cpu None rest = either false (nat_le cpus cpu) false rest
switch_parts cpus tasks cpu (Some pid) rest = either (not (is_some (task_of tasks pid.0))) (nat_le cpus cpu) (not (is_some_and (task_of tasks pid.0) (is_ready_on cpu))) rest

-- Two lists of causes that start with the causes for rejecting any event are equal if the rests are
-- equal.
before_act : (a b c d : Bool) (rest other : Option Cause) → rest ≡ other → (if a then Some cause.AfterEnd else if b then Some cause.TimeBack else if c then Some cause.TimeTooLate else if d then Some cause.TooManyEvents else rest) ≡ (if a then Some cause.AfterEnd else if b then Some cause.TimeBack else if c then Some cause.TimeTooLate else if d then Some cause.TooManyEvents else other)
before_act a b c d rest other same = rw same refl

-- The causes for rejecting an event in one list: first the causes for rejecting any event, then the
-- causes for rejecting its act.
abbrev in_a_row : Limits → World → ℕ → Act → Option Cause
in_a_row limits w at a =
    if w.ended then Some cause.AfterEnd else if nat_lt at w.last then Some cause.TimeBack else if nat_lt limits.latest at then Some cause.TimeTooLate else if nat_le 4000000 w.lines then Some cause.TooManyEvents else
    act_cause limits.cpus w.groups w.tasks w.irqs w.triggers w.pressures at a

-- For each act, `cause_of` equals this list of causes.
by_verb : (limits : Limits) (w : World) (at : ℕ) (a : Act) → cause_of limits w (record { at = at; act = a }) ≡ in_a_row limits w at a
unfolding cause_of
by_verb limits w at (act.Remove path) = before_act w.ended (nat_lt at w.last) (nat_lt limits.latest at) (nat_le 4000000 w.lines) _ _ (busy_parts (lacks_group w.groups (Some path)) (is_root path) (has_child w.groups (slot_of w.groups path)) (has_member w.tasks (slot_of w.groups path)))
by_verb limits w at (act.Switch cpu next how) = before_act w.ended (nat_lt at w.last) (nat_lt limits.latest at) (nat_le 4000000 w.lines) _ _ (switch_parts limits.cpus w.tasks cpu.0 next (how_cause how (running_on w.tasks cpu.0)))
by_verb limits w at _ = refl

-- Splits a list of causes into the causes for rejecting any event and the other causes.
row_parts : (a b c d : Bool) (rest : Option Cause) → (if a then Some cause.AfterEnd else if b then Some cause.TimeBack else if c then Some cause.TimeTooLate else if d then Some cause.TooManyEvents else rest)
    ≡ or_cause (if a then Some cause.AfterEnd else if b then Some cause.TimeBack else if c then Some cause.TimeTooLate else if d then Some cause.TooManyEvents else None) rest
row_parts true b c d rest = refl
row_parts false true c d rest = refl
row_parts false false true d rest = refl
row_parts false false false true rest = refl
row_parts false false false false rest = refl

-- `cause_of` equals `event_cause`: the causes for rejecting any event at its time, then the causes
-- for rejecting the act.
pub first_is : (limits : Limits) (w : World) (event : Event) → cause_of limits w event ≡ event_cause limits w event
first_is limits w event = by_verb limits w event.at event.act ∙ row_parts w.ended (nat_lt event.at w.last) (nat_lt limits.latest event.at) (nat_le 4000000 w.lines) _

-- A cause for rejecting any event at this time is the first cause for rejecting the event.
pub first_of_line : (limits : Limits) (w : World) (event : Event) (why : Cause) → line_cause limits w event.at ≡ Some why → cause_of limits w event ≡ Some why
first_of_line limits w event why h = first_is limits w event ∙ ap (λ first. or_cause first (act_cause limits.cpus w.groups w.tasks w.irqs w.triggers w.pressures event.at event.act)) h

-- If there is no cause for rejecting any event at this time, the first cause for rejecting the
-- event is the first cause for rejecting its act.
pub first_of_verb : (limits : Limits) (w : World) (event : Event) → line_cause limits w event.at ≡ None → cause_of limits w event ≡ act_cause limits.cpus w.groups w.tasks w.irqs w.triggers w.pressures event.at event.act
first_of_verb limits w event h = first_is limits w event ∙ ap (λ first. or_cause first (act_cause limits.cpus w.groups w.tasks w.irqs w.triggers w.pressures event.at event.act)) h

-- The first cause for rejecting an event is the first cause for rejecting its act, if the trace
-- hasn't ended and the time and the number of events are within their limits.
pub first_of_act : (limits : Limits) (w : World) (event : Event) → w.ended ≡ false → w.last ≤ event.at → event.at ≤ limits.latest → w.lines < 4000000 → cause_of limits w event ≡ act_cause limits.cpus w.groups w.tasks w.irqs w.triggers w.pressures event.at event.act
first_of_act limits w event running forward early room =
    let on_time : nat_lt event.at w.last ≡ false = grind (arith, nat_tests) in
    let in_time : nat_lt limits.latest event.at ≡ false = grind (arith, nat_tests) in
    let few : nat_le 4000000 w.lines ≡ false = grind (arith, nat_tests) in
    first_of_verb limits w event (rw (running, on_time, in_time, few) refl)

-- ---- the absence of a cause

-- If a list of causes gives no cause, the test of its first cause fails, and the rest gives no
-- cause.
past : (b : Bool) (why : Cause) (rest : Option Cause) → (if b then Some why else rest) ≡ None → (b ≡ false) × (rest ≡ None)
past false why rest h = (refl, h)
past true why rest h = cc h

-- If a list of causes gives no cause, the test of its third cause fails, and the rest gives no
-- cause.
third : (a b c : Bool) (x y z : Cause) (rest : Option Cause) → (if a then Some x else if b then Some y else if c then Some z else rest) ≡ None → (c ≡ false) × (rest ≡ None)
third a b c x y z rest h =
    let one = past a x (if b then Some y else if c then Some z else rest) h in
    let two = past b y (if c then Some z else rest) one.1 in
    past c z rest two.1

-- If `or_cause` gives no cause, neither of its arguments is a cause.
no_causes : (first other : Option Cause) → or_cause first other ≡ None → (first ≡ None) × (other ≡ None)
no_causes None other h = (refl, h)
no_causes (Some why) other h = cc h

-- There is no cause for rejecting the act of a legal event.
pub let_through : (limits : Limits) (w : World) (event : Event) → cause_of limits w event ≡ None → act_cause limits.cpus w.groups w.tasks w.irqs w.triggers w.pressures event.at event.act ≡ None
let_through limits w event h = (no_causes (line_cause limits w event.at) _ (sym (first_is limits w event) ∙ h)).1

-- If there is no cause for rejecting an act, there is no cause that depends only on the tree of
-- groups.
pub groups_through : (cpus : ℕ) (groups : List GroupLife) (tasks : Tasks) (irqs : List ℕ) (triggers pressures at : ℕ) (a : Act) → act_cause cpus groups tasks irqs triggers pressures at a ≡ None → groups_cause groups a ≡ None
groups_through cpus groups tasks irqs triggers pressures at (act.Group path) h = h
groups_through cpus groups tasks irqs triggers pressures at (act.Remove path) h = (no_causes (remove_cause groups path) _ h).0
groups_through cpus groups tasks irqs triggers pressures at (act.Pressure path on) h = (past (nat_le 65536 pressures) cause.TooManyPressures (pressure_cause groups path) h).1
groups_through cpus groups tasks irqs triggers pressures at _ h = refl

-- The properties of a switch without a cause for rejecting it.
pub record MaySwitch (cpus cpu : ℕ) (next : Option Pid) (task : Option Task) (how : How) (running : Option (ℕ × Task)) : Type 0 where
  pub room : nat_le cpus cpu ≡ false
  pub ready : IfSome next (λ _. is_some_and task (is_ready_on cpu) ≡ true)
  pub leaves : is_wrong how running ≡ false

-- If there is no cause for rejecting the next task, the processor exists and the task is ready
-- there.
may_run : (cpus cpu : ℕ) (next : Option Pid) (task : Option Task) → next_cause cpus cpu next task ≡ None → (nat_le cpus cpu ≡ false) × IfSome next (λ _. is_some_and task (is_ready_on cpu) ≡ true)
may_run cpus cpu None task h = ((past (nat_le cpus cpu) cause.BadCpu None h).0, tt)
may_run cpus cpu (Some pid) task h =
    let one = past (not (is_some task)) cause.UnknownTask (if nat_le cpus cpu then Some cause.BadCpu else if not (is_some_and task (is_ready_on cpu)) then Some cause.NotReady else None) h in
    let two = past (nat_le cpus cpu) cause.BadCpu (if not (is_some_and task (is_ready_on cpu)) then Some cause.NotReady else None) one.1 in
    (two.0, not_false (is_some_and task (is_ready_on cpu)) (past (not (is_some_and task (is_ready_on cpu))) cause.NotReady None two.1).0)

-- A switch without a cause has the properties of `MaySwitch`.
pub may_switch : (cpus cpu : ℕ) (next : Option Pid) (task : Option Task) (how : How) (running : Option (ℕ × Task)) → switch_cause cpus cpu next task how running ≡ None → MaySwitch cpus cpu next task how running
may_switch cpus cpu next task how running h =
    let parts = no_causes (next_cause cpus cpu next task) (how_cause how running) h in
    let run = may_run cpus cpu next task parts.0 in
    record {
      room = run.0;
      ready = run.1;
      leaves = (past (is_wrong how running) cause.WrongHow (if is_exit how && is_some_and (task_part running) (λ task. task.stalled) then Some cause.InStall else None) parts.1).0;
    }

-- The group of a legal fork exists.
pub fork_group : (cpus : ℕ) (lacks : Bool) (live : ℕ) (task : Option Task) (cpu : ℕ) → fork_cause cpus lacks live task cpu ≡ None → lacks ≡ false
fork_group cpus lacks live task cpu h =
    let one = past (nat_le 65536 live) cause.TooManyTasks (if lacks then Some cause.UnknownGroup else if is_some task then Some cause.TaskExists else if nat_le cpus cpu then Some cause.BadCpu else None) h in
    (past lacks cause.UnknownGroup (if is_some task then Some cause.TaskExists else if nat_le cpus cpu then Some cause.BadCpu else None) one.1).0

-- The group of a legal move exists.
pub move_group : (lacks : Bool) (task : Option Task) → move_cause lacks task ≡ None → lacks ≡ false
move_group lacks task h = (past lacks cause.UnknownGroup (if not (is_some task) then Some cause.UnknownTask else None) h).0

-- The task of a legal wake is neither ready nor running.
pub wake_off : (cpus : ℕ) (task : Option Task) (cpu : ℕ) → wake_cause cpus task cpu ≡ None → is_some_and task (λ task. is_active task.mode) ≡ false
wake_off cpus task cpu h =
    (third (not (is_some task)) (nat_le cpus cpu) (is_some_and task (λ task. is_active task.mode)) cause.UnknownTask cause.BadCpu cause.NotBlocked None h).0

-- The task of a legal migration is ready.
pub migrate_off : (cpus : ℕ) (task : Option Task) (cpu : ℕ) → migrate_cause cpus task cpu ≡ None → is_some_and task (λ task. not (is_ready task.mode)) ≡ false
migrate_off cpus task cpu h =
    (third (not (is_some task)) (nat_le cpus cpu) (is_some_and task (λ task. not (is_ready task.mode))) cause.UnknownTask cause.BadCpu cause.NotReady None h).0

-- ---- the group that an act names

-- `slot_or_root` of an optional slot is this slot or the root's slot.
pub slot_is : (o : Option ℕ) → slot_or_root (as_slot o) ≡ (let s : Slot = record { 0 = unwrap_or o 0 } in s)
slot_is None = refl
slot_is (Some n) = refl

-- `slot_or_root` of the group found by path is `slot_with` of the path.
pub slot_found : (groups : List GroupLife) (path : Option (List ℕ)) → slot_or_root (group_with groups path) ≡ slot_with groups path
slot_found groups None = refl
slot_found groups (Some path) = slot_is (slot_of groups path)
