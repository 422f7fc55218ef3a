-- Proves that what remains of one event after the exits is legal, and that the relation of the two
-- worlds is preserved.
use Rattle.std.proofs.Common.{◌≡◌, ℕ, ◌+◌, ◌≤◌, ◌<◌, List, [], ◌∷◌, refl, ap, ◌∙◌, sym, arith, Bool, true, false, Option, None, Some}
use Rattle.std.specs.Prelude.{◌||◌, is_some, not, nat_le, if◌then◌else◌}
use Rattle.std.proofs.lemmas.Bool.Decides.{nat_tests}
use Rattle.psi_base.specs.declared.event.Act.{Act}
use Rattle.psi_base.specs.declared.event.Cause.{Cause}
use Rattle.psi_base.specs.declared.event.Cause.TheVariants as cause
use Rattle.psi_base.specs.declared.event.Event.{Event}
use Rattle.psi_base.specs.declared.event.Pid.{Pid}
use Rattle.psi_spec.specs.declared.machine.GroupLife.{GroupLife}
use Rattle.psi_spec.specs.declared.machine.Task.{Task}
use Rattle.psi_spec.specs.Refusal.{AreLegal, has_member, lacks_group}
use Rattle.psi_spec.specs.World.{Limits, Tasks, World, after_event, after_from, ends, groups_after, irqs_after, is_trigger, is_pressure, slot_of, tasks_after, events_at}
use Rattle.group_tree.specs.Tree.{remove_cause}
use Rattle.task_table.specs.Causes.{act_cause, empty_cause, fork_cause, move_cause, or_cause}
use Rattle.task_table.proofs.CauseLaws.{first_of_act}
use Rattle.whatif_spec.specs.Without.{acts_if, is_pid_among}
use Rattle.whatif_trace.specs.Rest.{IsWithout}
use Rattle.whatif_trace.proofs.Fewer.{AreWithout, no_member}

-- ---- one event

abbrev pub event_at : ℕ → Act → Event
event_at at what = record { at = at; act = what }

-- The world has room for one more event at time `at` (ns).
pub record HasRoom (limits : Limits) (v : World) (at : ℕ) : Type 0 where
  pub going : v.ended ≡ false
  pub forward : v.last ≤ at
  pub early : at ≤ limits.latest
  pub few : v.lines < 4000000

-- The acts are legal. The world after them is the original trace's world after the act `what`,
-- without the tasks that are dead then.
pub record Goes (limits : Limits) (dead : List ℕ) (w v : World) (at : ℕ) (what : Act) (acts : List Act) : Type 0 where
  pub legal : AreLegal limits v (events_at at acts)
  pub later : IsWithout dead (after_event w (event_at at what)) (after_from v (events_at at acts))

-- No cause specific to the act rejects it.
abbrev pub NoneAgainst : Limits → World → ℕ → Act → Type 0
NoneAgainst limits w at what = act_cause limits.cpus w.groups w.tasks w.irqs w.triggers w.pressures at what ≡ None

pub legal_one : (limits : Limits) (v : World) (at : ℕ) (what : Act) → HasRoom limits v at → NoneAgainst limits v at what → AreLegal limits v (events_at at (what ∷ []))
legal_one limits v at what room none = (first_of_act limits v (event_at at what) room.going room.forward room.early room.few ∙ none, tt)

-- The act changes nothing but the tasks.
pub record IsOfTasks (at : ℕ) (what : Act) : Type 0 where
  pub groups : (groups : List GroupLife) → groups_after at groups what ≡ groups
  pub irqs : (irqs : List ℕ) → irqs_after at irqs what ≡ irqs
  pub plain : is_trigger what ≡ false
  pub on : is_pressure what ≡ false
  pub goes_on : ends what ≡ false

or_false : (b : Bool) → (b || false) ≡ b
or_false true = refl
or_false false = refl

still_ended : (b c : Bool) → c ≡ false → (b || c) ≡ b
still_ended b c off = rw off (or_false b)

no_trigger : (n : ℕ) (b : Bool) → b ≡ false → n + (if b then 1 else 0) ≡ n
no_trigger n b off = rw off (omega arith)

-- The step for an act that remains unchanged.
pub same_act : (limits : Limits) (dead later : List ℕ) (w v : World) (at : ℕ) (what : Act) → IsWithout dead w v → HasRoom limits v at → NoneAgainst limits v at what
    → AreWithout later (tasks_after w.groups w.tasks what) (tasks_after v.groups v.tasks what) → Goes limits later w v at what (what ∷ [])
same_act limits dead later w v at what is room none tasks = record {
  legal = legal_one limits v at what room none;
  later = record {
    tasks = tasks;
    groups = ap (λ groups. groups_after at groups what) is.groups;
    irqs = ap (λ irqs. irqs_after at irqs what) is.irqs;
    triggers = ap (λ n. n + (if is_trigger what then 1 else 0)) is.triggers;
    pressures = ap (λ n. n + (if is_pressure what then 1 else 0)) is.pressures;
    ended = ap (λ b. b || ends what) is.ended;
  };
}

-- The step for an act that is dropped.
pub left_out : (limits : Limits) (dead later : List ℕ) (w v : World) (at : ℕ) (what : Act) → IsWithout dead w v → IsOfTasks at what
    → AreWithout later (tasks_after w.groups w.tasks what) v.tasks → Goes limits later w v at what []
left_out limits dead later w v at what is of tasks = record {
  legal = tt;
  later = record {
    tasks = tasks;
    groups = is.groups ∙ sym (of.groups w.groups);
    irqs = is.irqs ∙ sym (of.irqs w.irqs);
    triggers = is.triggers ∙ sym (no_trigger w.triggers (is_trigger what) of.plain);
    pressures = is.pressures ∙ sym (no_trigger w.pressures (is_pressure what) of.on);
    ended = is.ended ∙ sym (still_ended w.ended (ends what) of.goes_on);
  };
}

-- The step for an act that is replaced by another act.
pub in_place : (limits : Limits) (dead later : List ℕ) (w v : World) (at : ℕ) (what other : Act) → IsWithout dead w v → IsOfTasks at what → IsOfTasks at other → HasRoom limits v at → NoneAgainst limits v at other
    → AreWithout later (tasks_after w.groups w.tasks what) (tasks_after v.groups v.tasks other) → Goes limits later w v at what (other ∷ [])
in_place limits dead later w v at what other is of of_other room none tasks = record {
  legal = legal_one limits v at other room none;
  later = record {
    tasks = tasks;
    groups = of_other.groups v.groups ∙ is.groups ∙ sym (of.groups w.groups);
    irqs = of_other.irqs v.irqs ∙ is.irqs ∙ sym (of.irqs w.irqs);
    triggers = no_trigger v.triggers (is_trigger other) of_other.plain ∙ is.triggers ∙ sym (no_trigger w.triggers (is_trigger what) of.plain);
    pressures = no_trigger v.pressures (is_pressure other) of_other.on ∙ is.pressures ∙ sym (no_trigger w.pressures (is_pressure what) of.on);
    ended = still_ended v.ended (ends other) of_other.goes_on ∙ is.ended ∙ sym (still_ended w.ended (ends what) of.goes_on);
  };
}

-- ---- causes

pub both_none : (first other : Option Cause) → or_cause first other ≡ None → (first ≡ None) × (other ≡ None)
both_none None other none = (refl, none)
both_none (Some why) other none = absurd (let no : ⊥ = cc none in no)

pub past : (b : Bool) (why : Cause) (rest : Option Cause) → (if b then Some why else rest) ≡ None → (b ≡ false) × (rest ≡ None)
past false why rest none = (refl, none)
past true why rest none = absurd (let no : ⊥ = cc none in no)

-- A group that can be removed can also be removed if there are fewer tasks.
pub removed_still : (dead : List ℕ) (tasks fewer : Tasks) (groups : List GroupLife) (path : List ℕ) → AreWithout dead tasks fewer → empty_cause groups tasks path ≡ None → empty_cause groups fewer path ≡ None
removed_still dead tasks fewer groups path are none =
    let parts = both_none (remove_cause groups path) (if has_member tasks (slot_of groups path) then Some cause.GroupBusy else None) none in
    let empty = (past (has_member tasks (slot_of groups path)) cause.GroupBusy None parts.1).0 in
    rw (parts.0, no_member dead tasks fewer are (slot_of groups path) empty) refl

no_task : (o : Option Task) → is_some o ≡ false → o ≡ None
no_task None none = refl
no_task (Some task) none = absurd (let no : ⊥ = cc none in no)

-- The conditions under which a fork is legal.
pub record MayFork (cpus : ℕ) (groups : List GroupLife) (live : ℕ) (task : Option Task) (path : List ℕ) (cpu : ℕ) : Type 0 where
  pub few : nat_le 65536 live ≡ false
  pub group : not (is_some (slot_of groups path)) ≡ false
  pub new : task ≡ None
  pub there : nat_le cpus cpu ≡ false

pub may_fork : (cpus : ℕ) (groups : List GroupLife) (live : ℕ) (task : Option Task) (path : List ℕ) (cpu : ℕ) → fork_cause cpus (lacks_group groups (Some path)) live task cpu ≡ None → MayFork cpus groups live task path cpu
may_fork cpus groups live task path cpu none =
    let one = past (nat_le 65536 live) cause.TooManyTasks (if not (is_some (slot_of groups path)) then Some cause.UnknownGroup else if is_some task then Some cause.TaskExists else if nat_le cpus cpu then Some cause.BadCpu else None) none in
    let two = past (not (is_some (slot_of groups path))) cause.UnknownGroup (if is_some task then Some cause.TaskExists else if nat_le cpus cpu then Some cause.BadCpu else None) one.1 in
    let three = past (is_some task) cause.TaskExists (if nat_le cpus cpu then Some cause.BadCpu else None) two.1 in
    record { few = one.0; group = two.0; new = no_task task three.0; there = (past (nat_le cpus cpu) cause.BadCpu None three.1).0 }

fewer_still : (live fewer : ℕ) → fewer ≤ live → nat_le 65536 live ≡ false → nat_le 65536 fewer ≡ false
fewer_still live fewer less few = grind (arith, nat_tests)

pub forked_still : (cpus : ℕ) (groups : List GroupLife) (live fewer : ℕ) (task : Option Task) (path : List ℕ) (cpu : ℕ) → fewer ≤ live → fork_cause cpus (lacks_group groups (Some path)) live task cpu ≡ None → fork_cause cpus (lacks_group groups (Some path)) fewer None cpu ≡ None
forked_still cpus groups live fewer task path cpu less none =
    let may = may_fork cpus groups live task path cpu none in
    rw (fewer_still live fewer less may.few, may.group, may.there) refl

-- ---- acts of tasks

-- The step for an act of a task. The act remains if the task isn't dead, and is dropped if it is.
pub of_pid : (limits : Limits) (dead : List ℕ) (w v : World) (at : ℕ) (pid : Pid) (what : Act) → IsWithout dead w v → HasRoom limits v at → IsOfTasks at what
    → (is_pid_among dead pid.0 ≡ false → NoneAgainst limits v at what)
    → (is_pid_among dead pid.0 ≡ false → AreWithout dead (tasks_after w.groups w.tasks what) (tasks_after v.groups v.tasks what))
    → (is_pid_among dead pid.0 ≡ true → AreWithout dead (tasks_after w.groups w.tasks what) v.tasks)
    → Goes limits dead w v at what (acts_if (not (is_pid_among dead pid.0)) (what ∷ []))
of_pid limits dead w v at pid what is room of none both one =
    elim (is_pid_among dead pid.0) as (λ b. is_pid_among dead pid.0 ≡ b → Goes limits dead w v at what (acts_if (not b) (what ∷ []))) [
      | true ↦ λ gone. left_out limits dead dead w v at what is of (one gone)
      | false ↦ λ alive. same_act limits dead dead w v at what is room (none alive) (both alive)
    ] refl

pub of_tasks : (at : ℕ) (what : Act) → ((groups : List GroupLife) → groups_after at groups what ≡ groups) → ((irqs : List ℕ) → irqs_after at irqs what ≡ irqs) → is_trigger what ≡ false → is_pressure what ≡ false → ends what ≡ false → IsOfTasks at what
of_tasks at what groups irqs plain on goes_on = record { groups = groups; irqs = irqs; plain = plain; on = on; goes_on = goes_on }

pub moved_still : (groups same : List GroupLife) (task found : Option Task) (path : List ℕ) → same ≡ groups → found ≡ task → move_cause (lacks_group groups (Some path)) task ≡ None → move_cause (lacks_group same (Some path)) found ≡ None
moved_still groups same task found path is are none = rw (is, are) none
