use Rattle.std.proofs.Common.{◌≡◌, ℕ, ◌<◌, length, ap, sym, ◌∙◌, arith, length-set}
use Rattle.std.specs.Prelude.{slice_index_or, None}
use Rattle.slot_clocks.specs.Walk.{height}
use Rattle.side_watch.specs.Sides.{counted, side_cell_in}
use Rattle.proc_plan.proofs.Upward.{falls}
use Rattle.side_watch.proofs.Walks as walks
use Rattle.side_watch.proofs.steps.count_task.Goals as goal

pub returns-then-place-cells-clause-counted : goal.returns-then-place-cells-clause-counted
returns-then-place-cells-clause-counted c = λ at room.
    let whole = rw c.in-Some.is at (c.up.invariant.counted at room) in
    sym (walks.past_all c.args.parents.now c.in-Some.slot.0 at c.args.came (side_cell_in c.up.cells at) c.requires.older (omega (arith, c.if-place-cells.true, c.up.invariant.each, c.requires.each)) (omega (arith, room, c.requires.each))) ∙ whole

pub up-smaller : goal.up-smaller
up-smaller c =
    let fallen : height (slice_index_or c.args.parents.now c.in-Some.slot.0 None) < height c.up.next = rw c.in-Some.is (falls c.args.parents.now c.in-Some.slot c.requires.older) in
    fallen

pub up-preserved : goal.up-preserved
up-preserved c =
    let place : ℕ = c.in-Some.slot.0 in
    let room : place < length c.up.cells = omega (arith, c.if-place-cells.false) in
    let is : c.count.new.self ≡ counted c.args.came (side_cell_in c.up.cells place) = c.count.ensures ∙ ap (counted c.args.came) (walks.cell_here c.up.cells place _ room) in
    record {
      each = simp length-set c.up.invariant.each;
      small = walks.small_kept c.up.cells c.count.new.self place c.args.came room is c.up.invariant.small;
      counted = λ at within. walks.step_up c.args.parents.now c.up.cells c.count.new.self place at c.args.came c.requires.older room is ∙ (rw c.in-Some.is at (c.up.invariant.counted at within));
    }
