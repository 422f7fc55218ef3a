-- Defines how a change of a processor is stored in 16 bytes. The height of a slot is its number
-- plus one; the height 0 means no slot.
use Rattle.std.specs.Prelude.{◌≡◌, ℕ, zero, suc, ◌+◌, ◌*◌, Bool, true, false, Option, None, Some}
use Rattle.psi_base.specs.declared.event.Slot.{Slot}
use Rattle.psi_counts.specs.declared.changes.Counts.{Counts}
use Rattle.slot_clocks.specs.declared.packed.Kind.{Kind}
use Rattle.slot_clocks.specs.declared.packed.Kind.TheVariants.{Task, Irq, SwitchedOn, SwitchedOff}
use Rattle.slot_clocks.specs.Bits.{counts_by, slot_by}
use Rattle.slot_clocks.specs.Walk.{counts_in}

-- `part_by height bits`: the slot at this height (the slot's number plus one), with the counts that
-- four bits represent. `None` at height 0.
abbrev pub part_by : ℕ → ℕ → Option (Slot × Counts)
part_by zero bits = None
part_by (suc slot) bits = Some (slot_by slot, counts_by bits)

-- `task_part kind height bits`: the counts that a change subtracts or adds, or `None` if the change
-- doesn't concern a task.
abbrev pub task_part : Kind → ℕ → ℕ → Option (Slot × Counts)
task_part Task height bits = part_by height bits
task_part Irq height bits = None
task_part SwitchedOn height bits = None
task_part SwitchedOff height bits = None

-- `irq_by kind low high`: the time (ns) that interrupts took, from its lower and upper 16 bits. 0
-- if the change doesn't concern interrupts.
abbrev pub irq_by : Kind → ℕ → ℕ → ℕ
irq_by Irq low high = low + 65536 * high
irq_by Task low high = 0
irq_by SwitchedOn low high = 0
irq_by SwitchedOff low high = 0

-- `account_by kind slot`: the slot of the group whose accounting a change turns on or off, and
-- whether it is on afterwards. `None` if the change doesn't concern accounting.
abbrev pub account_by : Kind → ℕ → Option (Slot × Bool)
account_by SwitchedOn slot = Some (slot_by slot, true)
account_by SwitchedOff slot = Some (slot_by slot, false)
account_by Task slot = None
account_by Irq slot = None

-- `IsPart kind height bits`: `bits` is a valid representation of the counts that the change
-- subtracts or adds. If the change has no such counts, `bits` represents zeros.
abbrev pub IsPart : Kind → ℕ → ℕ → Type 0
IsPart kind height bits = counts_by bits ≡ counts_in (task_part kind height bits)
