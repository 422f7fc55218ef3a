use Rattle.std.proofs.Common.{◌+◌, arith, ◌∙◌, ⊎_elim, add_assoc}
use Rattle.outside.specs.Reads.Progress.{Next}
use Rattle.outside.proofs.ReadOrder.{file_ends, file_fails, read_on}
use Rattle.page_files.proofs.Filled.{filled_ends, filled_grows}
use Rattle.page_files.proofs.fill.fill.Goals as goal

pub returns-in-Ok-eq0-clause-bytes : goal.returns-in-Ok-eq0-clause-bytes
returns-in-Ok-eq0-clause-bytes g c = λ whole shows.
    let i = c.reads.invariant in
    let reads = c.in-Ok-eq0.ensures.bytes whole (rw i.unchanged shows) in
    c.in-Ok-eq0.ensures.prefix ∙ i.bytes whole shows ∙ filled_ends whole _ c.read_after.new.bytes c.args.at c.reads.filled c.in-Ok-eq0.field-0 reads (grind arith) (grind arith)

pub returns-in-Ok-eq0-clause-order : goal.returns-in-Ok-eq0-clause-order
returns-in-Ok-eq0-clause-order g c =
    (λ full. absurd (omega arith), λ short. file_ends _ _ _ _ _ _ c.in-Ok-eq0.field-0 c.reads.invariant.order c.in-Ok-eq0.ensures.order (grind arith))

pub returns-in-Err-clause-order : goal.returns-in-Err-clause-order
returns-in-Err-clause-order g c = file_fails _ _ _ _ _ _ c.in-Err.fault c.reads.invariant.order c.in-Err.ensures.order

pub reads-preserved : goal.reads-preserved
reads-preserved g c =
    let i = c.reads.invariant in
    let cause = c.in-Ok.ensures.cause in
    let ordered = read_on c.args.name.now (Next c.args.at) (c.args.at + c.reads.filled) c.in-Ok.count _ _ _ i.order c.in-Ok.ensures.order (grind arith) in record {
      unchanged = c.in-Ok.ensures.unchanged ∙ i.unchanged;
      size = c.in-Ok.ensures.size ∙ i.size;
      inside = c.in-Ok.ensures.bound;
      bytes = λ whole shows. filled_grows whole _ c.reads.bytes c.read_after.new.bytes c.args.at c.reads.filled c.in-Ok.count c.in-Ok.ensures.prefix (i.bytes whole shows) (c.in-Ok.ensures.bytes whole (rw i.unchanged shows));
      faults = cause.faults_same (λ failed. cc failed) ∙ i.faults;
      absent = cause.absent_same (λ missed. cc missed) ∙ i.absent;
      order = rw add_assoc at ordered;
      missing = λ lacks. ⊎_elim (λ missed. cc) (λ failed. cc) (c.in-Ok.ensures.lacking (rw i.unchanged lacks));
    }
