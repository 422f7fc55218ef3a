use Rattle.std.proofs.Math.Seq.{take-append_seam}
use Rattle.std.proofs.Common.{arith, rules, subst, sym, ap, ◌∙◌, ◌++◌, take, drop, ◌≡◌, ◌≤◌, ◌<◌, ◌+◌, ◌-◌, length, Bool}
use Rattle.std.specs.Prelude.{IfSome}
use Rattle.psi_base.specs.declared.event.Slot.{Slot}
use Rattle.psi_counts.specs.Touch.{HasSlotsBelow}
use Rattle.psi_spec.specs.LegalGroups.{AreOlder}
use Rattle.plan_laws.proofs.PlanSteps.{current_by_change}
use Rattle.proc_plan.specs.Clocks.{irq_at}
use Rattle.proc_plan.proofs.ClockSteps.{AreMade, as_many_parents, can_follow, current_below, known, next_clocks}
use Rattle.proc_plan.proofs.IrqWalk.{irqs_fit, next_irqs, taken_is}
use Rattle.proc_plan.proofs.PlanReads.{no_minus}
use Rattle.proc_plan.proofs.clocks.PlainClocksProcClocks.apply.Goals as goal

pub apply-requires-clause-current : goal.apply-requires-clause-current
apply-requires-clause-current c =
    let are = c.self.invariant.0 in
    let as_many = as_many_parents c.self.inside.parents.now c.self.inside.plan.now c.self.invariant.1 in
    let below = current_below c.self.inside.plan.now c.self.inside.count are.whole are.within in
    subst (λ n. IfSome c.self.inside.clocks.current (λ (running : Slot × Bool). running.0.0 < n)) as_many
    (subst (λ o. IfSome o (λ (running : Slot × Bool). running.0.0 < length c.self.inside.plan.now.parents)) (sym are.current) below)

pub apply-requires-clause-slots : goal.apply-requires-clause-slots
apply-requires-clause-slots c =
    let place : c.self.inside.count + 1 - 1 ≡ c.self.inside.count = omega arith in
    let is = rw place at c.packed-change.ensures.change in
    let as_many = as_many_parents c.self.inside.parents.now c.self.inside.plan.now c.self.invariant.1 in
    subst (λ n. HasSlotsBelow n c.packed-change.result.now) as_many (c.self.invariant.0.whole.slots c.self.inside.count c.packed-change.result.now is)

pub apply-requires-clause-alone : goal.apply-requires-clause-alone
apply-requires-clause-alone c = no_minus c.packed-change.result.now c.packed-change.ensures.one

pub apply-requires-clause-known : goal.apply-requires-clause-known
apply-requires-clause-known c = rw c.self.invariant.1 (known c.self.inside.plan.now c.self.inside.clocks c.self.inside.count c.self.invariant.0)

pub apply-requires-clause-fits : goal.apply-requires-clause-fits
apply-requires-clause-fits c =
    let place : c.self.inside.count + 1 - 1 ≡ c.self.inside.count = omega arith in
    let is = rw place at c.packed-change.ensures.change in
    rw c.self.invariant.1 (can_follow c.self.inside.plan.now c.self.inside.clocks c.self.inside.count c.packed-change.result.now c.self.invariant.0 is)

pub apply-requires-clause-later : goal.apply-requires-clause-later
apply-requires-clause-later c =
    let place : c.self.inside.count + 1 - 1 ≡ c.self.inside.count = omega arith in
    let is = rw place at c.packed-change.ensures.change in
    let are = c.self.invariant.0 in
    let room : c.self.inside.count < length c.self.inside.plan.now.changes = search (arith, c.requires, c.self.view_is) in
    omega (arith, are.last, are.whole.order c.self.inside.count room, (current_by_change c.self.inside.plan.now c.self.inside.count c.packed-change.result.now is).1)

pub apply-requires-clause-early : goal.apply-requires-clause-early
apply-requires-clause-early c =
    let place : c.self.inside.count + 1 - 1 ≡ c.self.inside.count = omega arith in
    let is = rw place at c.packed-change.ensures.change in
    let are = c.self.invariant.0 in
    let room : c.self.inside.count + 1 ≤ length c.self.inside.plan.now.changes = search (arith, c.requires, c.self.view_is) in
    omega (arith, are.whole.early (c.self.inside.count + 1) room, (current_by_change c.self.inside.plan.now c.self.inside.count c.packed-change.result.now is).1)

pub add_irq-requires-clause-older : goal.add_irq-requires-clause-older
add_irq-requires-clause-older c = subst AreOlder (sym c.self.invariant.1) c.self.invariant.0.whole.older

pub add_irq-requires-clause-room : goal.add_irq-requires-clause-room
add_irq-requires-clause-room c = rw c.deref_mut.ensures.value (c.self.invariant.2.room ∙ as_many_parents c.self.inside.parents.now c.self.inside.plan.now c.self.invariant.1)

pub add_irq-requires-clause-below : goal.add_irq-requires-clause-below
add_irq-requires-clause-below c =
    let place : c.self.inside.count + 1 - 1 ≡ c.self.inside.count = omega arith in
    let is = rw place at c.packed-change.ensures.change in
    let as_many = as_many_parents c.self.inside.parents.now c.self.inside.plan.now c.self.invariant.1 in
    subst (λ n. IfSome c.packed-change.result.now.current (λ (running : Slot × Bool). running.0.0 < n)) as_many (c.self.invariant.0.whole.slots c.self.inside.count c.packed-change.result.now is).current

pub add_irq-requires-clause-fits : goal.add_irq-requires-clause-fits
add_irq-requires-clause-fits c =
    let place : c.self.inside.count + 1 - 1 ≡ c.self.inside.count = omega arith in
    let is = rw place at c.packed-change.ensures.change in
    let room : c.self.inside.count < length c.self.inside.plan.now.changes = search (arith, c.requires, c.self.view_is) in
    let fit = irqs_fit c.self.inside.plan.now c.self.inside.irqs.items c.self.inside.count c.packed-change.result.now c.self.invariant.0.whole c.self.invariant.2 room is in
    rw (c.deref_mut.ensures.value, c.self.invariant.1)
    (λ slot below.
    let taken = taken_is c.self.inside.plan.now c.self.inside.clocks c.self.inside.count c.packed-change.result.now slot c.self.invariant.0 in
    omega (arith, taken, fit slot (omega (arith, below, c.self.invariant.2.room))))

pub invariant_of-self : goal.invariant_of-self
invariant_of-self c =
    let place : c.self.inside.count + 1 - 1 ≡ c.self.inside.count = omega arith in
    let is = rw place at c.packed-change.ensures.change in
    let e = rw c.self.invariant.1 at c.apply.ensures in
    let made : AreMade c.self.inside.plan.now c.packed-change.result.now c.self.inside.clocks c.apply.new.self = record { room = e.room; counts = e.counts; accounts = e.accounts; clocks = e.clocks; whole = e.whole; known = e.known; current = e.current; last = e.last } in
    let size : c.self.inside.irqs.len ≡ length c.add_irq.new.times = search rules in
    let kept : take c.self.inside.irqs.len (c.add_irq.new.times ++ drop (length c.add_irq.new.times) c.self.inside.irqs.items) ≡ c.add_irq.new.times = rw size (take-append_seam _ _) in
    let grown = rw (c.deref_mut.ensures.value, c.self.invariant.1) at c.add_irq.ensures in (
      next_clocks c.self.inside.plan.now c.self.inside.clocks c.apply.new.self c.self.inside.count c.packed-change.result.now c.self.invariant.0 is made,
      c.self.invariant.1,
      rw kept (next_irqs c.self.inside.plan.now c.self.inside.irqs.items c.add_irq.new.times c.self.inside.count c.packed-change.result.now c.self.invariant.2 is grown.room
          (λ slot below. grown.grown slot below ∙ ap (λ n. irq_at c.self.inside.irqs.items slot + n) (taken_is c.self.inside.plan.now c.self.inside.clocks c.self.inside.count c.packed-change.result.now slot c.self.invariant.0))),
    )
