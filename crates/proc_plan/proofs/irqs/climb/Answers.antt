use Rattle.std.proofs.Common.{ℕ, ◌≤◌, ◌<◌, length, arith, ◌∙◌, length-set}
use Rattle.std.specs.Prelude.{slice_index_or, None, Some}
use Rattle.psi_spec.specs.Stall.{is_under}
use Rattle.slot_clocks.specs.Clocks.{cell_at, parent_numbers}
use Rattle.slot_clocks.specs.Walk.{height}
use Rattle.proc_plan.proofs.IrqWalk.{added_here, step_up}
use Rattle.proc_plan.proofs.Upward.{at_itself, falls}
use Rattle.proc_plan.proofs.irqs.climb.Goals as goal

pub overflow_add-times : goal.overflow_add-times
overflow_add-times c =
    let place : ℕ = c.in-Some.slot.0 in
    let below : height (Some c.in-Some.slot) ≤ length c.args.parents.now = rw c.in-Some.is at c.up.invariant.below in
    let within : place < length c.args.times.now = omega (arith, below, c.requires.room) in
    let grown = rw c.in-Some.is at (c.up.invariant.grown place within) in
    let here = added_here (cell_at c.args.clocks.now place).on (is_under (parent_numbers c.args.parents.now) place place) c.args.irq (at_itself (parent_numbers c.args.parents.now) place) in
    rw (c.time_if.ensures, c.is_on.ensures) (omega (arith, grown, here, c.requires.fits place within))

pub up-smaller : goal.up-smaller
up-smaller c =
    let fallen : height (slice_index_or c.args.parents.now c.in-Some.slot.0 None) < height c.up.next = rw c.in-Some.is (falls c.args.parents.now c.in-Some.slot c.requires.older) in
    fallen

pub up-preserved : goal.up-preserved
up-preserved c =
    let place : ℕ = c.in-Some.slot.0 in
    let below : height (Some c.in-Some.slot) ≤ length c.args.parents.now = rw c.in-Some.is at c.up.invariant.below in
    let room : place < length c.up.times = omega (arith, below, c.up.invariant.room, c.requires.room) in
    let fallen = falls c.args.parents.now c.in-Some.slot c.requires.older in
    record {
      room = simp length-set c.up.invariant.room;
      below = omega (arith, fallen, below);
      grown = λ at within.
          rw (c.time_if.ensures, c.is_on.ensures)
          (step_up c.args.parents.now (λ n. (cell_at c.args.clocks.now n).on) c.up.times place at c.args.irq c.requires.older room ∙ (rw c.in-Some.is at (c.up.invariant.grown at within)));
    }
