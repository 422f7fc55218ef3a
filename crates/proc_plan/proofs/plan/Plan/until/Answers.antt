use Rattle.std.proofs.Common.{rules, of_calls}
use Rattle.std.specs.Prelude.{nat_le}
use Rattle.std.proofs.lemmas.Fn.{always_returns_same}
use Rattle.psi_counts.specs.declared.changes.Change.{Change}
use Rattle.proc_plan.specs.Plans.{plan_view}
use Rattle.proc_plan.proofs.PlanReads.{come_first, point_counts}
use Rattle.proc_plan.proofs.plan.Plan.until.Goals as goal

pub returns : goal.returns
returns c =
    let plan = plan_view c.self.inside.changes.list c.self.inside.parents.items in
    let order = c.self.invariant.order in
    let facts = rw c.all.ensures at c.partition_point.ensures in
    let point = facts.partitioned (λ (change : Change). nat_le change.at c.args.at) (always_returns_same _ _ _ (λ a r f called. search (rules, of_calls))) (come_first plan c.args.at order) in
    let is = point_counts plan c.args.at c.partition_point.result order facts.bound point in
    rw (← c.self.view_is) (record { until = is.until; within = is.within; past = is.past; next = is.next })
