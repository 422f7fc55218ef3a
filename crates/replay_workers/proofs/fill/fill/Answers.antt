use Rattle.std.proofs.Common.{◌≡◌, ◌<◌, ◌⊎◌, ⊎_elim, ap, arith, length, sym, ◌∙◌}
use Rattle.aggregate.specs.Table.{times_at}
use Rattle.proc_plan.specs.Plans.{plan_at}
use Rattle.replay_workers.specs.Crew.{times_by}
use Rattle.replay_workers.proofs.fill.fill.Goals as goal

pub slots-preserved : goal.slots-preserved
slots-preserved c =
    let i = c.slots.invariant in
    record {
      sizes = c.fill_row.ensures.sizes;
      here = λ at kept slot cpu early below.
          let filled = c.fill_row.ensures.filled at kept in
          let case : (slot < c.slots.slot) ⊎ (slot ≡ c.slots.slot) = grind (arith, early) in
          ⊎_elim
          (λ before. filled.others slot cpu (λ now. omega (arith, now, before)) ∙ i.here at kept slot cpu before below)
          (λ now. ap (λ s. times_at c.fill_row.new.rows s cpu) now ∙ filled.here cpu below ∙ ap (λ s. times_by (plan_at c.args.plans.now cpu) s at) (sym now))
          case;
    }

pub returns : goal.returns
returns c = λ at kept.
    let i = c.slots.invariant in
    let slots : c.len-slots.result ≡ length c.args.plans.now.lives = c.len-slots.ensures.len ∙ ap length c.groups.ensures.lives in
    record {
      sizes = i.sizes;
      times = λ slot cpu made below. i.here at kept slot cpu (omega (arith, made, slots)) below;
    }
