use Rattle.std.proofs.Common.{◌≡◌, [], ◌∷◌, ◌++◌, ap, ◌∙◌}
use Rattle.plan_laws.specs.Plan.{planned, planned_irq}
use Rattle.plan_laws.proofs.PlanClocks.{clock_is_in_time, clock_shows_planned}
use Rattle.replay_workers.proofs.clocks.own_times.Goals as goal

pub opened-requires : goal.opened-requires
opened-requires g c =
    clock_is_in_time c.own.result (g.C.ProcClocks.plan c.args.clocks.now) c.args.slot.0 (g.C.ProcClocks.made c.args.clocks.now) c.args.at c.requires.whole c.own.ensures.clock c.requires.past c.requires.early

pub returns-clause-times : goal.returns-clause-times
returns-clause-times g c =
    let plan = g.C.ProcClocks.plan c.args.clocks.now in
    let made = g.C.ProcClocks.made c.args.clocks.now in
    let slot = c.args.slot.0 in
    let states : c.opened.result ≡ planned plan slot made c.args.at = c.opened.ensures ∙ clock_shows_planned c.own.result plan slot made c.args.at c.own.ensures.clock c.requires.past in
    let irq : c.own_irq.result ≡ planned_irq plan slot made = c.own_irq.ensures.irq ∙ ap (λ p. planned_irq p slot (g.C.ProcClocks.made c.own.new.self)) c.own.ensures.plan ∙ ap (planned_irq plan slot) c.own.ensures.made in
    rw (c.copy_from_slice.ensures.after, states) (ap (λ time. planned plan slot made c.args.at ++ time ∷ []) irq)
