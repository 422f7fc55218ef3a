use Rattle.std.proofs.Common.{ℕ, ◌<◌, get_or}
use Rattle.psi_base.specs.declared.event.TriggerSpec.{TriggerSpec}
use Rattle.psi_spec.specs.Within.{IsTriggerWithin}
use Rattle.psi_spec.specs.Within.{last_moment}
use Rattle.pressure_tests.proofs.engine.checks.are_triggers.Given as goal

abbrev pub invariant-triggers : goal.invariant-triggers
invariant-triggers l = (k : ℕ) (d : TriggerSpec) → k < l.trigger-index → IsTriggerWithin last_moment l.slots (get_or l.triggers k d)
