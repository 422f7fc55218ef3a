use Rattle.std.proofs.Common.{rules, ℕ, ◌+◌, ap, ◌∙◌, arith, length-set}
use Rattle.clock_row.specs.Seats.{as_reader, reader_on}
use Rattle.clock_row.proofs.Loaded.{loaded_try, loaded_view, stays_next, were_next}
use Rattle.clock_row.proofs.words.load_words.Goals as goal

pub words-preserved : goal.words-preserved
words-preserved c =
    let held = c.words.invariant in let place : ℕ = c.args.from + c.words.i in let wide = held.wide in
    let attempt = loaded_try (reader_on c.load_word.new.seat).attempt (reader_on c.words.seat).attempt c.args.first place c.load_word.result (ap (λ v. (as_reader v).attempt) c.load_word.ensures.view) held.trying in
    record {
      seat = search rules;
      view = loaded_view c.load_word.new.seat.me.0 c.words.seat.me.0 c.args.seat.now.me.0 place c.load_word.result c.load_word.ensures.view held.view;
      trying = attempt.0;
      wide = length-set c.words.words c.words.i c.load_word.result ∙ held.wide;
      were = were_next _ _ _ _ _ _ attempt.1 (omega arith) held.were;
      kept = stays_next _ _ _ _ _ attempt.1 held.kept;
    }
