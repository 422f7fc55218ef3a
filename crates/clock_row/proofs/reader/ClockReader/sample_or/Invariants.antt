use Rattle.std.proofs.Common.{◌≡◌, ◌+◌}
use Rattle.clock_row.proofs.reader.ClockReader.sample_or.Given as goal

abbrev pub invariant-tries : goal.invariant-tries
invariant-tries l = record {
  row : l.self.row ≡ l.fn.self.row;
  plan : l.self.knows.plan ≡ l.fn.self.knows.plan;
  seen : l.self.knows.seen ≡ l.fn.self.knows.seen;
  got : l.self.knows.got ≡ l.fn.self.knows.got;
  met : l.self.knows.met ≡ l.fn.self.knows.met + l.tries;
}
