-- Consequences of a legal event that switches accounting.
use Rattle.std.proofs.Common.{◌≡◌, ℕ, List, refl, ap, ◌∙◌, sym, Bool, true, false, Option, None, Some, ◌==◌}
use Rattle.std.specs.Prelude.{not, is_some, unwrap_or, IfSome, if◌then◌else◌}
use Rattle.psi_base.specs.declared.event.Act.{Act}
use Rattle.psi_base.specs.declared.event.Act.TheVariants as act
use Rattle.psi_base.specs.declared.event.Event.{Event}
use Rattle.psi_base.specs.declared.event.Slot.{Slot}
use Rattle.psi_spec.specs.World.{World, Limits, Tasks, groups_after, is_on, new_group, running_on, slot_of, tasks_after}
use Rattle.psi_spec.specs.declared.machine.GroupLife.{GroupLife}
use Rattle.psi_spec.specs.Refusal.{cause_of}
use Rattle.psi_spec.specs.Stall.{irq_time_by}
use Rattle.psi_spec.specs.Changes.{before, touched}
use Rattle.psi_spec.specs.LegalGroups.{AreGroups}
use Rattle.psi_spec.proofs.AccountLaws.{made_on, removed_on, switched_on}
use Rattle.psi_spec.proofs.RefusalLaws.{none_found_in}
use Rattle.psi_counts.specs.declared.changes.Change.{Change}
use Rattle.psi_counts.specs.Touch.{change_of, change_on, account_change, account_of, on_with, part, shown, task_after, OnByAccount}

-- an act that switches accounting changes no task's counts, and has no interrupt time
pub account_alone : (groups : List GroupLife) (tasks : Tasks) (a : Act) (cpu : ℕ) → IfSome (account_of groups a) (λ account. ((part cpu (before tasks a) ≡ None) × (part cpu (task_after groups tasks a) ≡ None)) × (irq_time_by cpu a ≡ 0))
account_alone groups tasks (act.Pressure path on) cpu = ((refl, refl), refl)
account_alone groups tasks _ cpu = tt

-- An act that leaves some processor untouched switches no accounting.
pub no_account : (groups : List GroupLife) (tasks : Tasks) (a : Act) (cpu : ℕ) → touched a (before tasks a) cpu ≡ false → account_of groups a ≡ None
no_account groups tasks (act.Pressure path on) cpu off = absurd (cc off)
no_account groups tasks _ cpu off = refl

-- An optional slot that isn't missing has a value.
the_slot : (o : Option ℕ) → not (is_some o) ≡ false → (n : ℕ) × (o ≡ Some n)
the_slot None h = absurd (cc h)
the_slot (Some n) h = (n, refl)

-- The switch of a legal act determines whether a group's accounting is on after the act.
on_act : (limits : Limits) (w : World) (at : ℕ) (a : Act) → cause_of limits w (record { at = at; act = a }) ≡ None → AreGroups w.groups → (slot : ℕ) →
    is_on (groups_after at w.groups a) slot ≡ on_with slot (is_on w.groups slot) (account_of w.groups a)
on_act limits w at (act.Group path) legal are slot = made_on w.groups (new_group w.groups path at) slot refl
on_act limits w at (act.Remove path) legal are slot = removed_on path at w.groups slot
on_act limits w at (act.Pressure path on) legal are slot =
    let found = the_slot (slot_of w.groups path) (none_found_in limits w _ legal).unknown_group in
    switched_on path on w.groups found.0 slot are.one_live found.1
    ∙ ap (λ (o : Option ℕ). if unwrap_or o 0 == slot then on else is_on w.groups slot) (sym found.1)
on_act limits w at _ legal are slot = refl

pub on_by_account : OnByAccount
on_by_account limits w event legal are slot = on_act limits w event.at event.act legal are slot

-- ---- changes by switches of accounting

-- The value of a conditional result is the value of its first branch.
made_then : (b : Bool) (made other : Change) → (if b then Some made else None) ≡ Some other → made ≡ other
made_then true made other is = cc is
made_then false made other is = absurd (cc is)

-- The switch of accounting in a change is the switch of its event.
pub change_account : (w : World) (event : Event) (cpu : ℕ) (change : Change) → change_of w event cpu ≡ Some change → change.account ≡ account_of w.groups event.act
unfolding change_of
change_account w event cpu change is =
    ap (λ (c : Change). c.account)
    (sym (made_then (touched event.act (before w.tasks event.act) cpu) (change_on w.groups event (before w.tasks event.act) (task_after w.groups w.tasks event.act) (tasks_after w.groups w.tasks event.act) cpu) change is))

-- An act that switches accounting has a change on every processor, which contains only the switch.
account_act : (w : World) (at : ℕ) (a : Act) (cpu : ℕ) (account : Slot × Bool) → account_of w.groups a ≡ Some account →
    change_of w (record { at = at; act = a }) cpu ≡ Some (account_change at (shown (running_on (tasks_after w.groups w.tasks a) cpu)) account)
unfolding change_of
account_act w at (act.Pressure path on) cpu account is =
    ap (λ g. let change : Change = record { at = at; minus = None; plus = None; current = shown (running_on w.tasks cpu); irq = 0; account = g } in Some change) is
account_act w at _ cpu account is = absurd (cc is)

pub account_known : (w : World) (event : Event) (cpu : ℕ) (account : Slot × Bool) → account_of w.groups event.act ≡ Some account →
    change_of w event cpu ≡ Some (account_change event.at (shown (running_on (tasks_after w.groups w.tasks event.act) cpu)) account)
account_known w event cpu account is = account_act w event.at event.act cpu account is
