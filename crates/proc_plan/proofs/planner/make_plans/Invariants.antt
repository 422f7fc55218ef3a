use Rattle.std.proofs.Common.{◌≡◌, ◌++◌, length}
use Rattle.std.specs.Vec.Iter.{into_iter_items, into_iter_len}
use Rattle.proc_plan.specs.Plans.{plans_over}
use Rattle.proc_plan.proofs.planner.make_plans.Given as goal

abbrev pub invariant-cpus : goal.invariant-cpus
invariant-cpus l = (l.yielded ++ into_iter_items l.changes-iterator ≡ into_iter_items l.initial.changes-iterator)
    × (l.plans.items ≡ plans_over l.groups l.yielded)
    × (into_iter_len l.changes-iterator ≡ length (into_iter_items l.changes-iterator))
