use Rattle.std.proofs.Common.{rules, ◌≡◌, ◌∙◌, length, arith, length-set}
use Rattle.clock_row.specs.Seats.{loaded_in, reader_on}
use Rattle.clock_row.proofs.Loaded.{clock_was, clocks_next, loaded_twice}
use Rattle.clock_row.proofs.words.load_clocks.Goals as goal

pub slots-preserved : goal.slots-preserved
slots-preserved c =
    let held = c.slots.invariant in let nine : length c.load_words.result ≡ 9 = search rules in
    record {
      seat = search rules;
      view = loaded_twice c.load_words.new.seat.me.0 c.slots.seat.me.0 c.args.seat.now.me.0 c.load_words.ensures.view held.view;
      trying = c.load_words.ensures.trying;
      wide = length-set c.slots.into c.slots.slot c.clock_like.result ∙ held.wide;
      clocks = clocks_next _ _ c.slots.slot c.clock_like.result c.slots.into c.load_words.ensures.unchanged (omega arith) (clock_was (loaded_in (reader_on c.load_words.new.seat).attempt) c.slots.slot c.load_words.result c.clock_like.result c.load_words.ensures.words nine c.clock_like.ensures) held.clocks;
    }
