use Rattle.std.proofs.Common.{◌∷◌, [], refl, ◌-◌}
use Rattle.proc_plan.proofs.PlanReads.{others_aside, same_change}
use Rattle.proc_plan.proofs.plan.Plan.concerned.Goals as goal

pub returns-clause-slots : goal.returns-clause-slots
returns-clause-slots c = λ change is.
    let same = same_change c.args.self.now (c.args.k - 1) c.packed-change.result.now change c.packed-change.ensures.change is in
    rw (c.or.ensures, c.current_slot.ensures, c.part_slot.ensures, c.part_slot-2.ensures, c.current_slot-2.ensures, c.current_slot-3.ensures, c.current_before.ensures, c.account.ensures, c.minus.ensures, c.plus.ensures, c.current.ensures, same) refl

pub returns-clause-aside : goal.returns-clause-aside
returns-clause-aside c = others_aside c.args.self.now (c.args.k - 1) (c.or.result ∷ c.part_slot-2.result ∷ c.current_slot-2.result ∷ c.current_slot-3.result ∷ []) c.packed-change.result.now c.packed-change.ensures.change c.packed-change.ensures.one (returns-clause-slots c)
