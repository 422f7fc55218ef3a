use Rattle.std.proofs.Common.{◌≡◌, ◌<◌, length, get_or, set, arith, ap, sym, subst, ◌∙◌, ◌⊎◌, ⊎_elim}
use Rattle.std.proofs.lemmas.List.{get_or-set_other, get_or-set_same, get_or_default}
use Rattle.aggregate.specs.Table.{HaveSameSizes}
use Rattle.pressure_spec.specs.Ticks.{Tick}
use Rattle.tick_engine.specs.Step.{AreTotalsWithin, engine_group, group_step, no_group}
use Rattle.tick_engine.specs.Tables.{tick_at}
use Rattle.tick_engine.proofs.StepLaws.{TakesRows, all_taken, next_stays, row_taken, sizes_stay, step_stays}
use Rattle.tick_engine.proofs.group.tick_all.Goals as goal

pub tick-requires-clause-next : goal.tick-requires-clause-next
tick-requires-clause-next c = next_stays c.args.last.now (tick_at c.args.now c.args.rows.now) c.groups.last c.groups.slot c.groups.invariant.last c.requires.next

pub groups-preserved : goal.groups-preserved
groups-preserved c =
    let i = c.groups.invariant in
    let last = c.args.last.now in
    let tick = tick_at c.args.now c.args.rows.now in
    let slot = c.groups.slot in
    let groups = c.groups.groups in
    let group = c.tick.new.self in
    let table = c.last.inside.rows in
    let inside : slot < length groups = omega arith in
    let below : slot < length c.args.groups.now = omega arith in
    let was : HaveSameSizes table c.args.rows.now = subst (λ (tick : Tick). HaveSameSizes tick.table c.args.rows.now) (sym c.last.view_is) i.sizes in
    let there : slot < length table = omega (arith, below, was.slots, c.requires.rows) in
    let taken = subst (λ t. TakesRows last tick t slot) (sym c.last.view_is) i.last in
    let set_is = c.set_row.ensures ∙ ap (set table slot) c.row.ensures in
    let stepped : group ≡ group_step last tick slot (engine_group c.args.groups.now slot) =
    c.tick.ensures.stepped ∙ step_stays last tick c.groups.last slot (get_or groups slot c.index-groups-slot.result) i.last
    ∙ ap (group_step last tick slot) (get_or_default groups slot c.index-groups-slot.result no_group inside ∙ i.left slot (omega arith)) in
    record {
      sizes = sizes_stay table c.args.rows.now c.set_row.new.self slot there was set_is;
      last = row_taken last tick (tick_at c.last.inside.at table) c.set_row.new.self slot taken there set_is;
      done = λ s early.
          let case : (s < slot) ⊎ (s ≡ slot) = grind (arith, early) in
          ⊎_elim
          (λ before. get_or-set_other groups slot s group no_group (λ here. omega (arith, here, before)) ∙ i.done s before)
          (λ now. ap (engine_group (set groups slot group)) now ∙ get_or-set_same groups slot group no_group inside ∙ stepped ∙ ap (λ k. group_step last tick k (engine_group c.args.groups.now k)) (sym now))
          case;
      left = λ s late. get_or-set_other groups slot s group no_group (λ here. omega (arith, here, late)) ∙ i.left s (omega (arith, late));
      totals = λ s early.
          let case : (s < slot) ⊎ (s ≡ slot) = grind (arith, early) in
          ⊎_elim
          (λ before. subst (AreTotalsWithin tick s) (sym (get_or-set_other groups slot s group no_group (λ here. omega (arith, here, before)))) (i.totals s before))
          (λ now. subst (λ k. AreTotalsWithin tick k (engine_group (set groups slot group) k)) (sym now) (subst (AreTotalsWithin tick slot) (sym (get_or-set_same groups slot group no_group inside)) c.tick.ensures.totals))
          case;
    }

pub returns-clause-last : goal.returns-clause-last
returns-clause-last c =
    let i = c.groups.invariant in
    let tick = tick_at c.args.now c.args.rows.now in
    let also : length c.args.rows.now ≡ c.groups.slot = omega (arith, c.requires.rows) in
    let many : length c.groups.last.table ≡ c.groups.slot = omega (arith, i.sizes.slots, also) in
    ap (tick_at c.args.now) (ap (λ (tick : Tick). tick.table) c.last-2.view_is ∙ all_taken c.args.last.now tick c.groups.last c.groups.slot i.last many also)

pub returns-clause-totals : goal.returns-clause-totals
returns-clause-totals c = λ slot below. c.groups.invariant.totals slot (omega arith)
