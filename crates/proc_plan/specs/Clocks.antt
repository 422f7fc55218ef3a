-- Defines when the clocks of a processor have the state after the first `k` changes of its plan.
-- Also defines the interrupt time of each group on the processor.
use Rattle.std.specs.Prelude.{◌≡◌, ℕ, ◌+◌, ◌≤◌, ◌<◌, List, length, slice_index_or, ◌&&◌, Bool, if◌then◌else◌, Option}
use Rattle.psi_base.specs.declared.event.Slot.{Slot}
use Rattle.psi_counts.specs.Touch.{is_current_in}
use Rattle.plan_laws.specs.Plan.{IsClock, IsPlan, PlanView, counts_after, current_after, last_change, on_after, planned_irq}
use Rattle.slot_clocks.specs.Clocks.{ClocksView, cell_at}

-- The progress of a processor's clocks: `plan` is the processor's plan, and `made` is the number of
-- changes of the plan that were applied to the clocks.
pub record OnPlan : Type 0 where
  pub plan : PlanView
  pub made : ℕ

-- `AreClocks plan clocks k`: `clocks` has the state after the first `k` changes of the plan. It
-- contains the running task and the time (ns) of change number `k`. For each slot it contains the
-- task counts, the clock, and whether pressure accounting is on.
pub record AreClocks (plan : PlanView) (clocks : ClocksView) (k : ℕ) : Type 0 where
  pub whole : IsPlan plan
  pub within : k ≤ length plan.changes
  pub room : length plan.parents ≤ length clocks.cells
  pub current : clocks.current ≡ current_after plan k
  pub last : clocks.last ≡ last_change plan k
  pub counts : (slot : ℕ) → (cell_at clocks slot).counts ≡ counts_after plan slot k
  pub ons : (slot : ℕ) → (cell_at clocks slot).on ≡ on_after plan slot k
  pub each : (slot : ℕ) → IsClock (cell_at clocks slot).clock plan slot k

-- `irq_at times slot`: the interrupt time (ns) of the group in `slot`, from the list `times` with
-- one entry for each slot. The result is 0 if the list has no such slot.
abbrev pub irq_at : List ℕ → ℕ → ℕ
irq_at times slot = slice_index_or times slot 0

-- `AreIrqs plan times k`: `times` has one interrupt time (ns) for each slot of the plan. It is the
-- time that the first `k` changes charge to the group in the slot.
pub record AreIrqs (plan : PlanView) (times : List ℕ) (k : ℕ) : Type 0 where
  pub room : length times ≡ length plan.parents
  pub each : (slot : ℕ) → slot < length plan.parents → irq_at times slot ≡ planned_irq plan slot k

-- `irq_taken parents clocks current irq slot`: the interrupt time (ns) that is charged to the group
-- in `slot` if interrupts take `irq` ns. `current` is the running task of the processor. The result
-- is `irq` if the group's accounting is on and the running task is in the group or in a descendant,
-- otherwise 0.
abbrev pub irq_taken : List (Option ℕ) → ClocksView → Option (Slot × Bool) → ℕ → ℕ → ℕ
irq_taken parents clocks current irq slot = if (cell_at clocks slot).on && is_current_in parents slot current then irq else 0

-- `AllGrow parents clocks current irq old new`: for each slot, the interrupt time in `new` is the
-- time in `old` plus the time that is charged to the slot (`irq_taken`).
abbrev pub AllGrow : List (Option ℕ) → ClocksView → Option (Slot × Bool) → ℕ → List ℕ → List ℕ → Type 0
AllGrow parents clocks current irq old new = (slot : ℕ) → slot < length old →
    irq_at new slot ≡ irq_at old slot + irq_taken parents clocks current irq slot
