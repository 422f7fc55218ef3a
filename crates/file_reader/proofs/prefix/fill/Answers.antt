use Rattle.std.proofs.Common.{arith, ◌∙◌, ⊎_elim}
use Rattle.outside.proofs.ReadOrder.{file_ends, read_on}
use Rattle.file_reader.proofs.Orders.{prefix_fails}
use Rattle.file_reader.proofs.Prefixes.{prefix_grows, prefix_ends, buffered_within}
use Rattle.file_reader.proofs.prefix.fill.Goals as goal

pub returns-in-Ok-eq0-clause-prefix : goal.returns-in-Ok-eq0-clause-prefix
returns-in-Ok-eq0-clause-prefix g c = λ whole shows.
    let i = c.reads.invariant in
    let reads = c.in-Ok-eq0.ensures.bytes whole (rw i.kept shows) in
    c.in-Ok-eq0.ensures.prefix ∙ i.prefix whole shows ∙ prefix_ends whole _ c.read_after.new.bytes c.reads.buffered c.in-Ok-eq0.field-0 reads (grind arith) (grind arith)

pub returns-in-Ok-eq0-clause-order : goal.returns-in-Ok-eq0-clause-order
returns-in-Ok-eq0-clause-order g c = file_ends _ _ _ _ _ _ c.in-Ok-eq0.field-0 c.reads.invariant.order c.in-Ok-eq0.ensures.order (grind arith)

pub returns-in-Err-clause-order : goal.returns-in-Err-clause-order
returns-in-Err-clause-order g c = prefix_fails _ _ _ _ _ _ c.in-Err.fault c.from.result c.reads.invariant.order c.in-Err.ensures.order c.from.ensures

pub reads-preserved : goal.reads-preserved
reads-preserved g c =
    let i = c.reads.invariant in
    let cause = c.in-Ok.ensures.cause in record {
      kept = c.in-Ok.ensures.unchanged ∙ i.kept;
      size = c.in-Ok.ensures.size ∙ i.size;
      inside = c.in-Ok.ensures.bound;
      prefix = λ whole shows. prefix_grows whole _ c.reads.bytes c.read_after.new.bytes c.reads.buffered c.in-Ok.count c.in-Ok.ensures.prefix (i.prefix whole shows) (c.in-Ok.ensures.bytes whole (rw i.kept shows));
      faults = cause.faults_same (λ failed. cc failed) ∙ i.faults;
      absent = cause.absent_same (λ missed. cc missed) ∙ i.absent;
      bytes_read = omega (arith, c.in-Ok.ensures.bytes_read, i.bytes_read);
      within = λ whole shows. buffered_within whole _ _ c.reads.buffered c.in-Ok.count (i.within whole shows) (c.in-Ok.ensures.bytes whole (rw i.kept shows));
      order = read_on _ _ _ _ _ _ _ i.order c.in-Ok.ensures.order (grind arith);
      missing = λ lacks. ⊎_elim (λ missed. cc) (λ failed. cc) (c.in-Ok.ensures.lacking (rw i.kept lacks));
    }
