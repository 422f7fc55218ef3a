use Rattle.std.proofs.Common.{◌≡◌, ◌/◌, ap, ◌∙◌, subst}
use Rattle.plan_laws.specs.Plan.{PlanView}
use Rattle.clock_row.specs.Words.{StoodTogether}
use Rattle.clock_row.specs.Ends.{ReaderEnd}
use Rattle.clock_row.specs.Seats.{as_reader, loaded_in, reader_on}
use Rattle.clock_row.specs.declared.view.View.{View}
use Rattle.clock_row.proofs.Loaded.{all_sampled, begun_plan}
use Rattle.clock_row.proofs.reader.ClockReader.try_sample_all.Goals as goal

pub returns-clause-clocks : goal.returns-clause-clocks
returns-clause-clocks c =
    let here = c.load_clocks.new.seat in
    let plan : (reader_on here).plan ≡ c.args.self.now.knows.plan = ap (λ (v : View). (as_reader v).plan) c.load_clocks.ensures.view
    ∙ (ap (λ (v : View). (as_reader v).plan) c.begin_try-begun.ensures.view ∙ (begun_plan c.begin_try-begun.result (reader_on c.self.inside.seat) ∙ ap (λ (r : ReaderEnd). r.knows.plan) c.self.view_is)) in
    all_sampled c.args.self.now.knows.plan (c.begin_try-begun.result / 2) (loaded_in (reader_on here).attempt) c.load_clocks.new.into (c.load_clocks.ensures.wide ∙ c.requires)
    (subst (λ (p : PlanView). StoodTogether p (c.begin_try-begun.result / 2) (loaded_in (reader_on here).attempt)) plan (c.end_try-ended.ensures.together c.if-ended-begun.false))
    c.load_clocks.ensures.clocks
