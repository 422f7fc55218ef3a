use Rattle.clock_row.specs.Words.{ArePut}
use Rattle.clock_row.specs.Seats.{HasStored, IsSameSeat, writer_on}
use Rattle.clock_row.proofs.words.put_words.Given as goal

abbrev pub invariant-words : goal.invariant-words
invariant-words l = record {
  seat : IsSameSeat l.fn.seat l.seat;
  view : HasStored l.fn.seat l.seat;
  put : ArePut l.fn.from l.i l.words (writer_on l.fn.seat).body (writer_on l.seat).body;
}
