use Rattle.std.proofs.Common.{◌≡◌, length}
use Rattle.clock_row.specs.Words.{StaysLoaded, WereLoaded}
use Rattle.clock_row.specs.Seats.{HasLoaded, IsSameSeat, IsTrying, loaded_in, reader_on}
use Rattle.clock_row.proofs.words.load_words.Given as goal

abbrev pub invariant-words : goal.invariant-words
invariant-words l = record {
  seat : IsSameSeat l.fn.seat l.seat;
  view : HasLoaded l.fn.seat l.seat;
  trying : IsTrying l.fn.first l.seat;
  wide : length l.words ≡ 9;
  were : WereLoaded (loaded_in (reader_on l.seat).attempt) l.fn.from l.i l.words;
  kept : StaysLoaded (loaded_in (reader_on l.fn.seat).attempt) (loaded_in (reader_on l.seat).attempt);
}
