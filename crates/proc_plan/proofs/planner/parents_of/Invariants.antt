use Rattle.std.proofs.Common.{◌≡◌, take}
use Rattle.psi_spec.specs.Stall.{parents_of}
use Rattle.slot_clocks.specs.Clocks.{parent_numbers}
use Rattle.proc_plan.proofs.planner.parents_of.Given as goal

abbrev pub invariant-groups : goal.invariant-groups
invariant-groups l = parent_numbers l.parents.items ≡ parents_of (take l.life-index l.life-items)
