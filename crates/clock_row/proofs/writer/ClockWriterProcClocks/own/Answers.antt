use Rattle.std.proofs.Common.{◌≡◌, ◌<◌, ℕ, ap, ◌∙◌, length, subst, sym}
use Rattle.plan_laws.specs.Plan.{PlanView}
use Rattle.clock_row.specs.Ends.{WriterEnd}
use Rattle.clock_row.specs.Words.{AreClock}
use Rattle.clock_row.specs.Seats.{writer_on}
use Rattle.clock_row.proofs.Loaded.{same_words}
use Rattle.clock_row.proofs.NineWords.{clock_words}
use Rattle.clock_row.proofs.writer.ClockWriterProcClocks.own.Goals as goal

pub from_words-requires : goal.from_words-requires
from_words-requires c =
    let plan : c.self.inside.plan.now ≡ c.args.self.now.knows.plan = sym c.self.invariant.plan_is ∙ ap (λ (w : WriterEnd). w.knows.plan) c.self.view_is in
    let below : c.args.slot.0 < length c.self.inside.plan.now.parents = subst (λ (p : PlanView). c.args.slot.0 < length p.parents) (sym plan) c.requires in
    clock_words _ _ _ _ (subst (AreClock c.self.inside.plan.now c.args.slot.0 (writer_on c.self.inside.seat).count) (sym c.own_words.ensures.words) (c.self.invariant.words.each c.args.slot.0 below))

pub returns-clause-clock : goal.returns-clause-clock
returns-clause-clock c =
    let plan : c.self.inside.plan.now ≡ c.args.self.now.knows.plan = sym c.self.invariant.plan_is ∙ ap (λ (w : WriterEnd). w.knows.plan) c.self.view_is in
    let count : (writer_on c.self.inside.seat).count ≡ c.args.self.now.knows.count = ap (λ (w : WriterEnd). w.knows.count) c.self.view_is in
    let below : c.args.slot.0 < length c.self.inside.plan.now.parents = subst (λ (p : PlanView). c.args.slot.0 < length p.parents) (sym plan) c.requires in
    same_words c.args.self.now.knows.plan c.args.slot.0 c.args.self.now.knows.count c.own_words.result c.from_words.result
    (subst (λ (z : PlanView × ℕ). AreClock z.0 c.args.slot.0 z.1 c.own_words.result) (λ i. (plan i, count i)) (subst (AreClock c.self.inside.plan.now c.args.slot.0 (writer_on c.self.inside.seat).count) (sym c.own_words.ensures.words) (c.self.invariant.words.each c.args.slot.0 below)))
    c.from_words.ensures
