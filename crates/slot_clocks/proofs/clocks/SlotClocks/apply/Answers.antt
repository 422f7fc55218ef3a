use Rattle.std.proofs.Common.{◌≡◌, ◌≤◌, ◌<◌, Bool, length, ap, sym, subst, ◌∙◌}
use Rattle.std.specs.Prelude.{IfSome}
use Rattle.std.specs.Vec.{with_items}
use Rattle.std.proofs.lemmas.List.{with_items_is}
use Rattle.psi_base.specs.declared.event.Slot.{Slot}
use Rattle.psi_counts.specs.Clock.{ClockFollows}
use Rattle.slot_clocks.specs.Clocks.{AllCanFollow, AreReported, ClocksView, cell_at, cell_in, parent_numbers}
use Rattle.slot_clocks.proofs.AccountLaws.{can_climb, turned_since}
use Rattle.slot_clocks.proofs.clocks.SlotClocks.apply.Goals as goal

pub walk-requires : goal.walk-requires
walk-requires c =
    let parents = c.args.parents.now in
    let change = c.args.change.now in
    let room : length c.switch.new.cells ≡ c.self.inside.cells.len = c.switch.ensures.room ∙ c.deref_mut.ensures.len in
    let there : c.deref_mut-2.result.now ≡ c.switch.new.cells = c.deref_mut-2.ensures.value ∙ with_items_is c.self.inside.cells c.switch.new.cells room in
    let view : c.args.self.now ≡ record { cells = c.self.inside.cells.items; current = c.self.inside.current; last = c.self.inside.last } = sym c.self.view_is in
    rw there
    (record {
      can = can_climb parents c.self.inside.current change c.self.inside.last c.self.inside.cells.items c.switch.new.cells c.requires.older c.requires.slots
          (subst (λ (v : ClocksView). IfSome v.current (λ (running : Slot × Bool). running.0.0 < length parents)) view c.requires.current)
          c.requires.alone
          (subst (λ (v : ClocksView). length parents ≤ length v.cells) view c.requires.room)
          (subst (AreReported (parent_numbers parents)) view c.requires.known)
          (subst (AllCanFollow (parent_numbers parents) change) view c.requires.fits)
          c.self.invariant
          (subst (λ (v : ClocksView). v.last ≤ change.at) view c.requires.later)
          c.requires.early
          (c.switch.ensures.room ∙ ap length c.deref_mut.ensures.value)
          (rw (c.account.ensures, c.deref_mut.ensures.value) at c.switch.ensures.on_with);
    })

pub returns-clause-clocks : goal.returns-clause-clocks
returns-clause-clocks c = λ slot.
    let parents = parent_numbers c.args.parents.now in
    let change = c.args.change.now in
    let room : length c.switch.new.cells ≡ c.self.inside.cells.len = c.switch.ensures.room ∙ c.deref_mut.ensures.len in
    let there : c.deref_mut-2.result.now ≡ c.switch.new.cells = c.deref_mut-2.ensures.value ∙ with_items_is c.self.inside.cells c.switch.new.cells room in
    let after : (with_items (with_items c.self.inside.cells c.switch.new.cells) c.walk.new.cells).items ≡ c.walk.new.cells = with_items_is (with_items c.self.inside.cells c.switch.new.cells) c.walk.new.cells (c.walk.ensures.room ∙ c.deref_mut-2.ensures.len) in
    let turned = rw there at c.walk.ensures.turned in
    let on_with = rw (c.account.ensures, c.deref_mut.ensures.value) at c.switch.ensures.on_with in
    let since = (turned_since parents change slot (cell_in c.self.inside.cells.items slot) (cell_in c.switch.new.cells slot) (cell_in c.walk.new.cells slot) (on_with slot) (turned slot)).2 in
    rw after (subst (λ (v : ClocksView). ClockFollows (cell_at v slot).clock change.at (cell_in c.walk.new.cells slot).clock) c.self.view_is since)

pub returns-clause-known : goal.returns-clause-known
returns-clause-known c = λ slot.
    let room : length c.switch.new.cells ≡ c.self.inside.cells.len = c.switch.ensures.room ∙ c.deref_mut.ensures.len in
    let there : c.deref_mut-2.result.now ≡ c.switch.new.cells = c.deref_mut-2.ensures.value ∙ with_items_is c.self.inside.cells c.switch.new.cells room in
    let after : (with_items (with_items c.self.inside.cells c.switch.new.cells) c.walk.new.cells).items ≡ c.walk.new.cells = with_items_is (with_items c.self.inside.cells c.switch.new.cells) c.walk.new.cells (c.walk.ensures.room ∙ c.deref_mut-2.ensures.len) in
    rw (after, c.again-self-inside.ensures, c.running.ensures) (rw there at c.walk.ensures.turned slot).known
