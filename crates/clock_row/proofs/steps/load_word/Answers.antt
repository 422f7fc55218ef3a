use Rattle.std.proofs.Common.{arith, rules, ◌≡◌, ℕ, ◌+◌, ◌-◌, ap, ◌∙◌}
use Rattle.clock_row.specs.declared.view.View.TheVariants.{Reader}
use Rattle.clock_row.specs.Steps.{loaded_at}
use Rattle.clock_row.specs.Seats.{reader_on}
use Rattle.clock_row.proofs.Keeps.{load_keeps}
use Rattle.clock_row.proofs.steps.load_word.Goals as goal

pub load-requires : goal.load-requires
load-requires c = (search rules, search rules, load_keeps _ _ c.args.place _ _ c.requires.reader)

pub returns-clause-view : goal.returns-clause-view
returns-clause-view c = let back : (c.args.place + 1) - 1 ≡ c.args.place = omega arith in
    c.load.ensures.2 _ c.requires.reader ∙ ap (λ (p : ℕ). Reader (loaded_at p c.load.result (reader_on c.args.seat.now))) back
