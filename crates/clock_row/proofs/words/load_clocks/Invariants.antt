use Rattle.std.proofs.Common.{◌≡◌, length}
use Rattle.clock_row.specs.Words.{ClocksWereLoaded}
use Rattle.clock_row.specs.Seats.{HasLoaded, IsSameSeat, IsTrying, loaded_in, reader_on}
use Rattle.clock_row.proofs.words.load_clocks.Given as goal

abbrev pub invariant-slots : goal.invariant-slots
invariant-slots l = record {
  seat : IsSameSeat l.fn.seat l.seat;
  view : HasLoaded l.fn.seat l.seat;
  trying : IsTrying l.fn.first l.seat;
  wide : length l.into ≡ length l.fn.into;
  clocks : ClocksWereLoaded (loaded_in (reader_on l.seat).attempt) l.slot l.into;
}
