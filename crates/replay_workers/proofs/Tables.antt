-- Proof that the table at a time by plans is the table of stall times by events.
use Rattle.std.proofs.Common.{◌≡◌, ℕ, ◌<◌, List, [], ◌∷◌, ◌++◌, length, get_or, sym, ap, ◌∙◌, arith}
use Rattle.std.proofs.lemmas.List.{ext_get_or}
use Rattle.std.proofs.lemmas.List.FromFn.{get_or-map-range_with_len, length-map-range_with_len}
use Rattle.psi_base.specs.declared.event.Event.{Event}
use Rattle.psi_spec.specs.Refusal.{AreLegal}
use Rattle.psi_spec.specs.World.{Limits, after, first_world}
use Rattle.pressure_spec.specs.Ticks.{row_until, table_until, times_until}
use Rattle.plan_laws.proofs.PlanPlanned.{planned_until}
use Rattle.plan_laws.proofs.PlanIrqs.{planned_irq_until}
use Rattle.proc_plan.specs.Plans.{PlansView, Represent, plan_at}
use Rattle.proc_plan.proofs.Finishing.{standing_plans}
use Rattle.replay_workers.specs.Crew.{TableIsOfEvents, times_by}

-- The times of a processor's plan are the stall times there, and the interrupt time.
times_are : (limits : Limits) (cpus : ℕ) (events : List Event) (plans : PlansView) (slot cpu at : ℕ) → AreLegal limits first_world events → Represent plans cpus events → cpu < cpus → times_by (plan_at plans cpu) slot at ≡ times_until cpu slot events at
times_are limits cpus events plans slot cpu at legal represents below =
    let in_states = planned_until limits events legal cpu slot at in
    let irq = planned_irq_until limits events legal cpu slot at in
    ap (λ plan. times_by plan slot at) (standing_plans plans cpus events represents cpu below) ∙ (λ i. in_states i ++ irq i ∷ [])

pub table_is_of_events : TableIsOfEvents
table_is_of_events limits cpus events plans table at legal represents is =
    let slots : length plans.lives ≡ length (after events).groups = ap length represents.lives in
    let many = length-map-range_with_len (λ slot. row_until cpus slot events at) 0 (length (after events).groups) in
    ext_get_or [] table (table_until cpus events at) (is.sizes.slots_are ∙ slots ∙ sym many)
    (λ slot below.
    let made : slot < length plans.lives = omega (arith, below, is.sizes.slots_are) in
    let inside : slot < length (after events).groups = omega (arith, made, slots) in
    let row = get_or-map-range_with_len (λ s. row_until cpus s events at) 0 (length (after events).groups) slot slot [] inside (omega arith) in
    let width : length (get_or table slot []) ≡ cpus = is.sizes.cpus_are slot [] below ∙ represents.each in
    let wide = length-map-range_with_len (λ cpu. times_until cpu slot events at) 0 cpus in
    ext_get_or [] (get_or table slot []) (get_or (table_until cpus events at) slot [])
    (width ∙ sym wide ∙ ap length (sym row))
    (λ cpu room.
    let there : cpu < cpus = omega (arith, room, width) in
    is.times slot cpu made (omega (arith, there, represents.each))
    ∙ times_are limits cpus events plans slot cpu at legal represents there
    ∙ sym (ap (λ r. get_or r cpu []) row ∙ get_or-map-range_with_len (λ c. times_until c slot events at) 0 cpus cpu cpu [] there (omega arith))))
