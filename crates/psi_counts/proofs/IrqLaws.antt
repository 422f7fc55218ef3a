-- The interrupt time of a legal event, and the processor that the event names.
use Rattle.std.proofs.Common.{◌≡◌, ℕ, ◌-◌, ◌≤◌, ◌<◌, List, refl, ap, Bool, true, false, arith, None, ◌==◌, nat_lt}
use Rattle.std.specs.Prelude.{◌||◌, if◌then◌else◌, slice_index_or}
use Rattle.std.proofs.lemmas.Bool.Decides.{nat_tests}
use Rattle.psi_base.specs.declared.event.Act.{Act}
use Rattle.psi_base.specs.declared.event.Act.TheVariants as act
use Rattle.psi_base.specs.declared.event.Event.{Event}
use Rattle.psi_base.specs.declared.event.Cause.TheVariants as cause
use Rattle.psi_spec.specs.World.{World, Limits, Tasks, longest_irq}
use Rattle.psi_spec.specs.declared.machine.GroupLife.{GroupLife}
use Rattle.psi_spec.specs.Refusal.{applies, cause_of, cause_order, irq_too_long}
use Rattle.psi_spec.specs.Stall.{irq_time_by}
use Rattle.psi_spec.specs.Changes.{before, touched}
use Rattle.psi_spec.proofs.RefusalLaws.{passed}
use Rattle.psi_counts.specs.Touch.{part, task_after}

-- an act that doesn't touch a processor has no interrupt time there
pub unknown_of : (tasks : Tasks) (a : Act) (cpu : ℕ) → touched a (before tasks a) cpu ≡ false → irq_time_by cpu a ≡ 0
unknown_of tasks (act.Irq named ns) cpu off = ap (λ b. if b then ns else 0) off
unknown_of tasks _ cpu off = refl

-- An act with interrupt time on a processor changes no task's counts there.
pub known_alone : (groups : List GroupLife) (tasks : Tasks) (a : Act) (cpu : ℕ) → 0 < irq_time_by cpu a → (part cpu (before tasks a) ≡ None) × (part cpu (task_after groups tasks a) ≡ None)
known_alone groups tasks (act.Irq named ns) cpu some = (refl, refl)
known_alone groups tasks _ cpu some = absurd (omega (arith, some))

-- ---- how much

-- The interrupt time `ns` is at most a second, and at most the time since the previous `irq` line
-- of processor `cpu`.
pub record AreShort (irqs : List ℕ) (at cpu ns : ℕ) : Type 0 where
  pub second : ns ≤ longest_irq
  pub since : ns ≤ at - slice_index_or irqs cpu 0

pub short : (irqs : List ℕ) (at cpu ns : ℕ) → (nat_lt 1000000000 ns || nat_lt (at - slice_index_or irqs cpu 0) ns) ≡ false → AreShort irqs at cpu ns
short irqs at cpu ns off = record { second = grind (arith, nat_tests, off); since = grind (arith, nat_tests, off) }

pub at_most : (b : Bool) (n most : ℕ) → n ≤ most → (if b then n else 0) ≤ most
at_most true n most low = low
at_most false n most low = omega arith

few_known : (irqs : List ℕ) (at : ℕ) (a : Act) (cpu : ℕ) → irq_too_long irqs at a ≡ false → irq_time_by cpu a ≤ longest_irq
few_known irqs at (act.Irq named ns) cpu off = at_most (named.0 == cpu) ns longest_irq (short irqs at named.0 ns off).second
few_known irqs at _ cpu off = omega arith

pub not_too_long : (limits : Limits) (w : World) (event : Event) → cause_of limits w event ≡ None → irq_too_long w.irqs event.at event.act ≡ false
unfolding cause_of
not_too_long limits w event legal = passed (λ why. applies why limits w event) cause_order 23 cause.IrqTooLong legal refl

-- the interrupt time of a legal event is at most a second
pub known_few : (limits : Limits) (w : World) (event : Event) → cause_of limits w event ≡ None → (cpu : ℕ) → irq_time_by cpu event.act ≤ longest_irq
known_few limits w event legal cpu = few_known w.irqs event.at event.act cpu (not_too_long limits w event legal)
