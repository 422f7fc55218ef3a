use Rattle.std.proofs.Common.{◌≡◌, ℕ, ◌+◌, ◌-◌, ◌<◌, length, sym, ◌∙◌, arith, length-set}
use Rattle.std.specs.Prelude.{slice_index_or, None}
use Rattle.slot_clocks.specs.Clocks.{cell_in, parent_numbers}
use Rattle.slot_clocks.specs.Walk.{height, top}
use Rattle.slot_clocks.proofs.WalkLaws as laws
use Rattle.slot_clocks.proofs.chains.climb.Goals as goal

pub returns-then-here-eq0-clause-turned : goal.returns-then-here-eq0-clause-turned
returns-then-here-eq0-clause-turned c = λ slot.
    laws.all_walked (parent_numbers c.args.parents.now) c.args.current.now c.args.change.now c.args.starts c.up.chains slot _ _ c.requires.can.older c.requires.can.start (sym c.top-here.ensures ∙ c.if-here-eq0.true) (c.requires.can.known slot) (c.requires.can.up_to slot) (c.up.invariant.groups slot)

pub turn_at-requires-clause-fits : goal.turn_at-requires-clause-fits
turn_at-requires-clause-fits c =
    let here = c.top-here.result in
    let slot : ℕ = here - 1 in
    let parents = parent_numbers c.args.parents.now in
    let change = c.args.change.now in
    let at : here ≡ slot + 1 = omega (arith, c.if-here-eq0.false) in
    let is : top c.up.chains ≡ here = sym c.top-here.ensures in
    let ahead = laws.ahead_at_top parents change c.args.starts c.up.chains slot _ _ c.requires.can.older (is ∙ at) (c.up.invariant.groups slot) in
    let share = laws.share_at_top parents c.args.current.now change c.args.starts c.up.chains here slot c.requires.can.older c.requires.can.start at is ahead.1 in
    let cell = laws.cell_here c.up.cells slot c.index-cells-place.result (omega (arith, is, at, c.up.invariant.slots, c.up.invariant.room, c.requires.can.room)) in
    rw (cell, c.requires.parts.minus, c.requires.parts.plus)
    (laws.can_turn parents change c.up.chains here slot _ _ share ahead.0 (c.requires.can.fits slot))

pub turn_at-requires-clause-up_to : goal.turn_at-requires-clause-up_to
turn_at-requires-clause-up_to c =
    let here = c.top-here.result in
    let slot : ℕ = here - 1 in
    let parents = parent_numbers c.args.parents.now in
    let change = c.args.change.now in
    let at : here ≡ slot + 1 = omega (arith, c.if-here-eq0.false) in
    let is : top c.up.chains ≡ here = sym c.top-here.ensures in
    let ahead = laws.ahead_at_top parents change c.args.starts c.up.chains slot _ _ c.requires.can.older (is ∙ at) (c.up.invariant.groups slot) in
    let cell = laws.cell_here c.up.cells slot c.index-cells-place.result (omega (arith, is, at, c.up.invariant.slots, c.up.invariant.room, c.requires.can.room)) in
    rw (cell, c.requires.parts.at, ahead.0) (c.requires.can.up_to slot)

pub turn_at-requires-clause-known : goal.turn_at-requires-clause-known
turn_at-requires-clause-known c = λ stays off.
    let here = c.top-here.result in
    let slot : ℕ = here - 1 in
    let parents = parent_numbers c.args.parents.now in
    let change = c.args.change.now in
    let at : here ≡ slot + 1 = omega (arith, c.if-here-eq0.false) in
    let is : top c.up.chains ≡ here = sym c.top-here.ensures in
    let ahead = laws.ahead_at_top parents change c.args.starts c.up.chains slot _ _ c.requires.can.older (is ∙ at) (c.up.invariant.groups slot) in
    let share = laws.share_at_top parents c.args.current.now change c.args.starts c.up.chains here slot c.requires.can.older c.requires.can.start at is ahead.1 in
    let cell = laws.cell_here c.up.cells slot c.index-cells-place.result (omega (arith, is, at, c.up.invariant.slots, c.up.invariant.room, c.requires.can.room)) in
    rw (cell, c.requires.parts.stalled)
    (laws.known_at_place parents c.args.current.now change c.up.chains here slot _ _ share ahead.0 (c.requires.can.known slot) (c.requires.parts.stays stays) off)

pub up-smaller : goal.up-smaller
up-smaller c =
    let here = c.top-here.result in
    let slot : ℕ = here - 1 in
    let at : here ≡ slot + 1 = omega (arith, c.if-here-eq0.false) in
    let is : top c.up.chains ≡ here = sym c.top-here.ensures in
    let low = laws.top_passed (parent_numbers c.args.parents.now) c.up.chains (slice_index_or c.args.parents.now slot None) here slot c.requires.can.older (laws.parent_number c.args.parents.now slot) at is in
    let fallen : top c.pass.new.self < top c.up.chains = rw (c.pass.ensures, c.height.ensures) (omega (arith, low, is, at)) in
    fallen

pub up-preserved : goal.up-preserved
up-preserved c =
    let here = c.top-here.result in
    let slot : ℕ = here - 1 in
    let parents = parent_numbers c.args.parents.now in
    let change = c.args.change.now in
    let starts = c.args.starts in
    let at : here ≡ slot + 1 = omega (arith, c.if-here-eq0.false) in
    let is : top c.up.chains ≡ here = sym c.top-here.ensures in
    let low = laws.top_passed parents c.up.chains (slice_index_or c.args.parents.now slot None) here slot c.requires.can.older (laws.parent_number c.args.parents.now slot) at is in
    let ahead = laws.ahead_at_top parents change starts c.up.chains slot _ _ c.requires.can.older (is ∙ at) (c.up.invariant.groups slot) in
    let share = laws.share_at_top parents c.args.current.now change c.args.starts c.up.chains here slot c.requires.can.older c.requires.can.start at is ahead.1 in
    let room : slot < length c.up.cells = omega (arith, is, at, c.up.invariant.slots, c.up.invariant.room, c.requires.can.room) in
    let cell = laws.cell_here c.up.cells slot c.index-cells-place.result room in
    let counts = rw (cell, c.requires.parts.minus, c.requires.parts.plus) at c.turn_at.ensures.counts in
    let on = rw cell at c.turn_at.ensures.on in
    let clock = rw (cell, c.requires.parts.at) at c.turn_at.ensures.clock in
    let kept = rw cell at c.turn_at.ensures.unchanged in
    let up_to = rw c.requires.parts.at at c.turn_at.ensures.up_to in
    let known = rw c.requires.parts.stalled at c.turn_at.ensures.known in
    let turned = laws.turned_here parents change c.up.chains here slot (cell_in c.args.cells.now slot) (cell_in c.up.cells slot) c.turn_at.new.cell share ahead.0 counts on clock kept up_to known in
    rw (c.pass.ensures, c.height.ensures) (record {
      slots = omega (arith, low, is, at, c.up.invariant.slots);
      together = λ are. laws.together_passed here (height (slice_index_or c.args.parents.now slot None)) c.up.chains (c.up.invariant.together are);
      room = simp length-set c.up.invariant.room;
      groups = laws.walked_on parents change starts c.up.chains (slice_index_or c.args.parents.now slot None) here slot c.args.cells.now c.up.cells c.turn_at.new.cell c.requires.can.older (laws.parent_number c.args.parents.now slot) at is room turned c.up.invariant.groups;
    })
