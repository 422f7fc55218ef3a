use Rattle.std.proofs.Common.{rules, arith, refl}
use Rattle.outside.proofs.ReadOrder.{read_on}
use Rattle.psi_lines.proofs.Progress.{ends_at, fault_at, reads_on}
use Rattle.psi_lines.proofs.lines.find_line.Goals as goal

pub returns-in_err-count-clause-order : goal.returns-in_err-count-clause-order
returns-in_err-count-clause-order g c =
    fault_at _ _ _ _ _ _ c.in_err-count.field-0.0 c.from_residual.result c.reads.invariant.order c.in_err-count.ensures.order c.from_residual.ensures.0 c.from_residual.ensures.1

pub returns-then-is_empty-clause-order : goal.returns-then-is_empty-clause-order
returns-then-is_empty-clause-order g c = ends_at _ _ _ _ _ _ c.in_ok-count.count c.reads.invariant.order c.in_ok-count.ensures.order (grind arith)

pub returns-else-is_empty-clause-order : goal.returns-else-is_empty-clause-order
returns-else-is_empty-clause-order g c = ends_at _ _ _ _ _ _ c.in_ok-count.count c.reads.invariant.order c.in_ok-count.ensures.order (grind arith)

pub reads-preserved : goal.reads-preserved
reads-preserved g c =
    let i = c.reads.invariant in record {
      kept = search rules;
      on = reads_on _ _ _ _ _ _ c.in_ok-count.count i.on c.in_ok-count.ensures.prefix c.in_ok-count.ensures.count refl;
      short = search rules;
      left = search rules;
      faults = search rules;
      absent = search rules;
      bytes_read = search rules;
      order = read_on _ _ _ _ _ _ _ i.order c.in_ok-count.ensures.order (grind arith);
      buffered = search rules;
      missing = search rules;
    }
