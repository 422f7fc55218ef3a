use Rattle.std.proofs.Common.{◌≡◌, ℕ, ◌+◌, ◌<◌, length, slice_index}
use Rattle.clock_row.specs.Seats.{IsSameSeat, writer_on}
use Rattle.clock_row.proofs.words.own_words.Given as goal

abbrev pub invariant-words : goal.invariant-words
invariant-words l = record {
  seat : IsSameSeat l.fn.seat l.seat;
  view : l.seat.me.0 ≡ l.fn.seat.me.0;
  wide : length l.words ≡ 9;
  each : (j : ℕ) → j < l.i → slice_index l.words j ≡ slice_index (writer_on l.fn.seat).body (l.fn.from + j);
}
