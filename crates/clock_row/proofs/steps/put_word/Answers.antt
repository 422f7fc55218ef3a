use Rattle.std.proofs.Common.{arith, rules, ◌≡◌, ℕ, ◌+◌, ◌-◌, ap, ◌∙◌}
use Rattle.clock_row.specs.declared.view.View.TheVariants.{Writer}
use Rattle.clock_row.specs.Steps.{put_at}
use Rattle.clock_row.specs.Seats.{writer_on}
use Rattle.clock_row.proofs.Keeps.{put_keeps}
use Rattle.clock_row.proofs.steps.put_word.Goals as goal

pub store-requires : goal.store-requires
store-requires c = (search rules, search rules, put_keeps _ _ _ _ c.args.place c.args.word c.requires.writer c.requires.changing)

pub returns-clause-view : goal.returns-clause-view
returns-clause-view c = let back : (c.args.place + 1) - 1 ≡ c.args.place = omega arith in
    c.store.ensures.2 _ c.requires.writer ∙ ap (λ (p : ℕ). Writer (put_at p c.args.word (writer_on c.args.seat.now))) back
