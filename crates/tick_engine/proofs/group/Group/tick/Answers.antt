use Rattle.std.proofs.Common.{◌≡◌, [], get_or, refl, ap, ◌∙◌}
use Rattle.pressure_spec.specs.Ticks.{Tick}
use Rattle.pressure_spec.specs.Samples.{growths, row_at}
use Rattle.pressure_spec.specs.Share.{shares}
use Rattle.tick_engine.specs.Tables.{tick_at}
use Rattle.tick_engine.proofs.StepLaws.{growths_short, sampled_fits}
use Rattle.pressure_spec.proofs.WithinLaws.{totals_kept, totals_sampled}
use Rattle.tick_engine.proofs.group.Group.tick.Goals as goal

pub share_since-shares-requires-clause-short : goal.share_since-shares-requires-clause-short
share_since-shares-requires-clause-short c =
    let last = c.args.last.now in
    let tick = tick_at c.args.now c.args.rows.now in
    let before : c.row-2.result.now ≡ row_at last c.args.slot.0 = c.row-2.ensures ∙ ap (λ (tick : Tick). get_or tick.table c.args.slot.0 []) c.last.view_is in
    rw (before, c.row.ensures) (growths_short last tick c.args.slot.0 c.requires.next)

pub sample-requires-clause-fits : goal.sample-requires-clause-fits
sample-requires-clause-fits c =
    let last = c.args.last.now in
    let tick = tick_at c.args.now c.args.rows.now in
    let before : c.row-2.result.now ≡ row_at last c.args.slot.0 = c.row-2.ensures ∙ ap (λ (tick : Tick). get_or tick.table c.args.slot.0 []) c.last.view_is in
    let shares_are : c.share_since-shares.result ≡ shares (growths (row_at last c.args.slot.0) (row_at tick c.args.slot.0)) = rw (c.share_since-shares.ensures, before, c.row.ensures) refl in
    rw shares_are (sampled_fits last tick c.args.slot.0 c.args.self.now c.requires.next c.requires.few c.requires.totals)

pub returns-clause-totals : goal.returns-clause-totals
returns-clause-totals c =
    let last = c.args.last.now in
    let tick = tick_at c.args.now c.args.rows.now in
    let before : c.row-2.result.now ≡ row_at last c.args.slot.0 = c.row-2.ensures ∙ ap (λ (tick : Tick). get_or tick.table c.args.slot.0 []) c.last.view_is in
    let shares_are : c.share_since-shares.result ≡ shares (growths (row_at last c.args.slot.0) (row_at tick c.args.slot.0)) = rw (c.share_since-shares.ensures, before, c.row.ensures) refl in
    rw (c.sample.ensures, shares_are) (totals_sampled last tick c.args.slot.0 c.args.self.now.totals c.requires.next c.requires.totals)

pub returns-then-not-is_live-clause-totals : goal.returns-then-not-is_live-clause-totals
returns-then-not-is_live-clause-totals c =
    totals_kept c.args.last.now (tick_at c.args.now c.args.rows.now) c.args.slot.0 c.args.self.now.totals c.requires.next c.requires.totals
