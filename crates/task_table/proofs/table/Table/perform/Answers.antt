use Rattle.std.proofs.Common.{◌∙◌, ap, subst, sym}
use Rattle.psi_spec.specs.Names.{names}
use Rattle.task_table.specs.Named.{slot_or_root}
use Rattle.task_table.specs.Stands.{IsIndex, TableView}
use Rattle.task_table.proofs.Touching.{HasContent, account_known_alone, known_played, unswitched}
use Rattle.task_table.proofs.table.Table.perform.Goals as goal

pub returns-in-Some-account-clause-touch : goal.returns-in-Some-account-clause-touch
returns-in-Some-account-clause-touch c =
    let slot = c.slot.ensures ∙ ap slot_or_root c.requires.group_is in
    let is = sym (c.account_of-account.ensures c.args.self.now.world.groups slot) ∙ c.in-Some-account.is in
    (account_known_alone c.args.self.now.limits c.args.self.now.world c.args.event.now c.account_touch.result c.in-Some-account.account is c.account_touch.ensures.account c.account_touch.ensures.first c.account_touch.ensures.second).is

pub touch_of-requires-clause-plain : goal.touch_of-requires-clause-plain
touch_of-requires-clause-plain c =
    let slot = c.slot.ensures ∙ ap slot_or_root c.requires.group_is in
    unswitched c.args.self.now.world.groups (names c.args.event.now.act).switched (sym (c.account_of-account.ensures c.args.self.now.world.groups slot) ∙ c.in_default-account.is)

-- The promised properties of the touch of an act that switches no accounting.
known : (c : goal.After-touch_of) → HasContent c.args.self.now.limits c.args.self.now.world c.args.event.now c.touch_of.result
known c =
    let running = c.self.inside.running.items in
    let index = subst (λ (table : TableView). IsIndex running table.world.tasks) c.self.view_is c.self.invariant.index in
    let slot = c.slot.ensures ∙ ap slot_or_root c.requires.group_is in
    let plain = sym (c.account_of-account.ensures c.args.self.now.world.groups slot) ∙ c.in_default-account.is in
    known_played c.args.self.now _ c.args.event.now c.in_ok-changed.changed running c.touch_of.result c.in_ok-changed.ensures.plays c.in_ok-changed.ensures.changed
    index plain c.touch_of.ensures.account (rw c.deref.ensures.value at c.touch_of.ensures.known) c.touch_of.ensures.beside

pub returns-clause-touch : goal.returns-clause-touch
returns-clause-touch c = (known c).is

pub returns-clause-cpus : goal.returns-clause-cpus
returns-clause-cpus c = (known c).cpus

pub returns-clause-slots : goal.returns-clause-slots
returns-clause-slots c = (known c).slots

pub returns-clause-ones : goal.returns-clause-ones
returns-clause-ones c = (known c).ones

pub returns-clause-moment : goal.returns-clause-moment
returns-clause-moment c = (known c).moment
