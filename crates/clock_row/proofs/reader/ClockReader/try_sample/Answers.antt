use Rattle.std.proofs.Common.{rules, ◌≡◌, ◌/◌, ap, ◌∙◌, length, subst}
use Rattle.plan_laws.specs.Plan.{PlanView}
use Rattle.clock_row.specs.Words.{StoodTogether}
use Rattle.clock_row.specs.Ends.{ReaderEnd}
use Rattle.clock_row.specs.Seats.{as_reader, loaded_in, reader_on}
use Rattle.clock_row.specs.declared.view.View.{View}
use Rattle.clock_row.proofs.Loaded.{begun_plan, same_words, sample_words}
use Rattle.clock_row.proofs.NineWords.{clock_words}
use Rattle.clock_row.proofs.reader.ClockReader.try_sample.Goals as goal

pub from_words-requires : goal.from_words-requires
from_words-requires c =
    let here = c.load_words-words.new.seat in let nine : length c.load_words-words.result ≡ 9 = search rules in
    let plan : (reader_on here).plan ≡ c.args.self.now.knows.plan = ap (λ (v : View). (as_reader v).plan) c.load_words-words.ensures.view
    ∙ (ap (λ (v : View). (as_reader v).plan) c.begin_try-first.ensures.view ∙ (begun_plan c.begin_try-first.result (reader_on c.self.inside.seat) ∙ ap (λ (r : ReaderEnd). r.knows.plan) c.self.view_is)) in
    let stood = subst (λ (p : PlanView). StoodTogether p (c.begin_try-first.result / 2) (loaded_in (reader_on here).attempt)) plan (c.end_try-second.ensures.together c.if-second-first.false) in
    clock_words _ _ _ _ (sample_words c.args.self.now.knows.plan c.args.slot.0 (c.begin_try-first.result / 2) (loaded_in (reader_on here).attempt) c.load_words-words.result c.requires stood c.load_words-words.ensures.words nine)

pub returns-clause-clock : goal.returns-clause-clock
returns-clause-clock c =
    let here = c.load_words-words.new.seat in let nine : length c.load_words-words.result ≡ 9 = search rules in
    let plan : (reader_on here).plan ≡ c.args.self.now.knows.plan = ap (λ (v : View). (as_reader v).plan) c.load_words-words.ensures.view
    ∙ (ap (λ (v : View). (as_reader v).plan) c.begin_try-first.ensures.view ∙ (begun_plan c.begin_try-first.result (reader_on c.self.inside.seat) ∙ ap (λ (r : ReaderEnd). r.knows.plan) c.self.view_is)) in
    let stood = subst (λ (p : PlanView). StoodTogether p (c.begin_try-first.result / 2) (loaded_in (reader_on here).attempt)) plan (c.end_try-second.ensures.together c.if-second-first.false) in
    same_words c.args.self.now.knows.plan c.args.slot.0 (c.begin_try-first.result / 2) c.load_words-words.result c.from_words.result
    (sample_words c.args.self.now.knows.plan c.args.slot.0 (c.begin_try-first.result / 2) (loaded_in (reader_on here).attempt) c.load_words-words.result c.requires stood c.load_words-words.ensures.words nine) c.from_words.ensures
