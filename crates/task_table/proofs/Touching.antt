-- Proves that a table returns the touch of each event that it plays.
use Rattle.std.proofs.Common.{◌≡◌, ℕ, ◌+◌, ◌<◌, List, Bool, Some, None, length, refl, ap, ◌∙◌, sym, subst}
use Rattle.std.specs.Prelude.{Option, IfSome, ◌||◌, if◌then◌else◌, slice_index_or}
use Rattle.psi_base.specs.declared.event.Event.{Event}
use Rattle.psi_spec.specs.declared.machine.Task.{Task}
use Rattle.psi_base.specs.declared.event.Slot.{Slot}
use Rattle.psi_counts.specs.declared.changes.Change.{Change}
use Rattle.psi_counts.specs.declared.changes.Touch.{Touch}
use Rattle.psi_spec.specs.World.{World, Limits, Tasks, after_event, ends, groups_after, irqs_after, is_pressure, is_trigger, running_on, tasks_after}
use Rattle.psi_spec.specs.declared.machine.GroupLife.{GroupLife}
use Rattle.psi_counts.specs.Legal.{IsLegalWorld}
use Rattle.psi_counts.proofs.AccountLaws.{change_account, account_known}
use Rattle.psi_counts.proofs.LegalLaws.{legal_kept}
use Rattle.task_table.proofs.Index.{running_known}
use Rattle.task_table.specs.declared.task_update.TaskUpdate.{TaskUpdate}
use Rattle.task_table.specs.Named.{IsChanged, change_for}
use Rattle.task_table.specs.Stands.{HasPlayed, IsIndex, TableView, table_of}
use Rattle.psi_spec.specs.Refusal.{cause_of}
use Rattle.psi_counts.specs.Touch.{change_of, account_first, account_named, account_of, shown, change_by_cpu, IsBeside, IsTouch, AllTouched, HasSlotsBelow, IsOfOne, AreWithin}
use Rattle.psi_spec.specs.Changes.{touched}
use Rattle.psi_spec.specs.Stall.{irq_time_by}
use Rattle.psi_counts.proofs.TouchWithin.{changes_are_within, all_touched}

-- The changes computed from the changed task and the running tasks after an event are the changes
-- that the event makes.
touch_known : (w : World) (event : Event) (tasks : Tasks) (changed : TaskUpdate) (running : List (Option (ℕ × Task))) (touch : Touch) → IsChanged w.groups w.tasks event.act changed → account_of w.groups event.act ≡ None → tasks ≡ tasks_after w.groups w.tasks event.act → IsIndex running tasks
    → ((cpu : ℕ) → change_by_cpu touch cpu ≡ (if touched event.act changed.old cpu then Some (change_for event.at changed (slice_index_or running cpu None) (irq_time_by cpu event.act) cpu) else None))
    → (cpu : ℕ) → change_by_cpu touch cpu ≡ change_of w event cpu
unfolding change_of
touch_known w event tasks changed running touch is none are index known cpu = rw (none, ← are, running_known running tasks index cpu, ← is.new, ← is.old) (known cpu)

-- The promised properties of a returned touch: it is the touch of the event, and each of its
-- changes is on an existing processor, has existing slots, concerns one task, and has the time of
-- the event.
pub record HasContent (limits : Limits) (w : World) (event : Event) (touch : Touch) : Type 0 where
  pub is : IsTouch limits.cpus w event touch
  pub cpus : AllTouched (λ cpu change. cpu < limits.cpus) touch
  pub slots : AllTouched (λ cpu change. HasSlotsBelow (length w.groups) change) touch
  pub ones : AllTouched (λ cpu change. IsOfOne change) touch
  pub moment : AllTouched (λ cpu change. change.at ≡ event.at) touch

-- A touch with exactly the changes of a legal event has these properties, if the event switches no
-- accounting.
known_legal : (limits : Limits) (w : World) (event : Event) (touch : Touch) → cause_of limits w event ≡ None → AreWithin limits.cpus (length w.groups) w.tasks
    → account_of w.groups event.act ≡ None → touch.account ≡ None → ((cpu : ℕ) → change_by_cpu touch cpu ≡ change_of w event cpu) → IsBeside touch.first touch.second → HasContent limits w event touch
known_legal limits w event touch legal within plain none known beside =
    let laws = changes_are_within limits w event legal within in
    record {
      is = record {
        known = λ cpu below. ap (λ account. account_first event.at (shown (running_on (after_event w event).tasks cpu)) account (change_by_cpu touch cpu)) none ∙ known cpu;
        beside = beside;
        on_with = none ∙ sym plain;
        alone = subst (λ account. IfSome account (λ _. (touch.first ≡ None) × (touch.second ≡ None))) (sym none) tt;
      };
      cpus = all_touched (λ cpu change. cpu < limits.cpus) w event touch known beside (λ cpu change so. (laws cpu change so).0 (change_account w event cpu change so ∙ plain));
      slots = all_touched (λ cpu change. HasSlotsBelow (length w.groups) change) w event touch known beside (λ cpu change so. (laws cpu change so).1);
      ones = all_touched (λ cpu change. IsOfOne change) w event touch known beside (λ cpu change so. (laws cpu change so).2);
      moment = all_touched (λ cpu change. change.at ≡ event.at) w event touch known beside (λ cpu change so. (laws cpu change so).3);
    }

-- The touch computed by a table that has played an event has these properties.
pub known_played : (old new : TableView) (event : Event) (changed : TaskUpdate) (running : List (Option (ℕ × Task))) (touch : Touch) → HasPlayed old event new → IsChanged old.world.groups old.world.tasks event.act changed → IsIndex running new.world.tasks
    → account_of old.world.groups event.act ≡ None → touch.account ≡ None → ((cpu : ℕ) → change_by_cpu touch cpu ≡ (if touched event.act changed.old cpu then Some (change_for event.at changed (slice_index_or running cpu None) (irq_time_by cpu event.act) cpu) else None)) → IsBeside touch.first touch.second → HasContent old.limits old.world event touch
known_played old new event changed running touch played is index plain none known beside =
    let tasks : new.world.tasks ≡ tasks_after old.world.groups old.world.tasks event.act = ap (λ (w : World). w.tasks) played.world in
    known_legal old.limits old.world event touch played.legal played.legal_before.within plain none (touch_known old.world event new.world.tasks changed running touch is plain tasks index known) beside

-- An act that switches no group's accounting names no accounting.
pub unswitched : (groups : List GroupLife) (o : Option (List ℕ × Bool)) → account_named groups o ≡ None → o ≡ None
unswitched groups None none = refl
unswitched groups (Some switched) none = absurd (cc none)

-- A touch without changes of single processors satisfies each property of such changes.
nowhere : (IsSo : ℕ → Change → Type 0) (touch : Touch) → touch.first ≡ None → touch.second ≡ None → AllTouched IsSo touch
nowhere IsSo touch first second =
    (subst (λ o. IfSome o (λ touched. IsSo touched.0.0 touched.1)) (sym first) tt, subst (λ o. IfSome o (λ touched. IsSo touched.0.0 touched.1)) (sym second) tt)

pub account_known_alone : (limits : Limits) (w : World) (event : Event) (touch : Touch) (account : Slot × Bool) → account_of w.groups event.act ≡ Some account → touch.account ≡ Some account → touch.first ≡ None → touch.second ≡ None → HasContent limits w event touch
account_known_alone limits w event touch account is known first second = record {
  is = record {
    known = λ cpu below. ap (λ g. account_first event.at (shown (running_on (after_event w event).tasks cpu)) g (change_by_cpu touch cpu)) known ∙ sym (account_known w event cpu account is);
    beside = subst (λ o. IsBeside o touch.second) (sym first) (subst (λ o. IsBeside None o) (sym second) tt);
    on_with = known ∙ sym is;
    alone = subst (λ g. IfSome g (λ _. (touch.first ≡ None) × (touch.second ≡ None))) (sym known) (first, second);
  };
  cpus = nowhere (λ cpu change. cpu < limits.cpus) touch first second;
  slots = nowhere (λ cpu change. HasSlotsBelow (length w.groups) change) touch first second;
  ones = nowhere (λ cpu change. IsOfOne change) touch first second;
  moment = nowhere (λ cpu change. change.at ≡ event.at) touch first second;
}

-- The fields of a table after a legal event form a legal world.
pub legal_next : (cpus cpus_next latest : ℕ) (tasks tasks_next : Tasks) (groups groups_next : List GroupLife) (irqs irqs_next : List ℕ) (triggers triggers_next pressures pressures_next lines last : ℕ) (ended ended_next : Bool) (event : Event)
    → cpus_next ≡ cpus → tasks_next ≡ tasks_after groups tasks event.act → groups_next ≡ groups_after event.at groups event.act → irqs_next ≡ irqs_after event.at irqs event.act → triggers_next ≡ triggers + (if is_trigger event.act then 1 else 0) → pressures_next ≡ pressures + (if is_pressure event.act then 1 else 0) → ended_next ≡ (ended || ends event.act)
    → cause_of (table_of cpus latest tasks groups irqs triggers pressures lines last ended).limits (table_of cpus latest tasks groups irqs triggers pressures lines last ended).world event ≡ None
    → IsLegalWorld (table_of cpus latest tasks groups irqs triggers pressures lines last ended).limits (table_of cpus latest tasks groups irqs triggers pressures lines last ended).world
    → IsLegalWorld (table_of cpus_next latest tasks_next groups_next irqs_next triggers_next pressures_next (lines + 1) event.at ended_next).limits (table_of cpus_next latest tasks_next groups_next irqs_next triggers_next pressures_next (lines + 1) event.at ended_next).world
legal_next cpus cpus_next latest tasks tasks_next groups groups_next irqs irqs_next triggers triggers_next pressures pressures_next lines last ended ended_next event same tasks_are groups_are irqs_are triggers_are pressures_are ends_so legal old =
    rw (same, tasks_are, groups_are, irqs_are, triggers_are, pressures_are, ends_so) (legal_kept (table_of cpus latest tasks groups irqs triggers pressures lines last ended).limits (table_of cpus latest tasks groups irqs triggers pressures lines last ended).world event legal old)
