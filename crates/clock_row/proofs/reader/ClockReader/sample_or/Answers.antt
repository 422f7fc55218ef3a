use Rattle.std.proofs.Common.{◌∙◌, sym, inr, refl, [], arith}
use Rattle.std.proofs.lemmas.List.{append-nil}
use Rattle.clock_row.proofs.reader.ClockReader.sample_or.Goals as goal

pub returns-clause-tried : goal.returns-clause-tried
returns-clause-tried c = ([], c.tries.tries, c.tries.invariant.got ∙ sym (append-nil _), c.tries.invariant.met, inr (refl, omega arith, refl))
