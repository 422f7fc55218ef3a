use Rattle.std.proofs.Common.{ap, arith, get_or, subst, sym, ◌∙◌}
use Rattle.std.specs.Io.KnownBytes.{Appends}
use Rattle.outside.specs.Outside.{AppendsPrefix}
use Rattle.outside.proofs.Grows.{Appends-then, AppendsPrefix-then, PutsAll-failed, flat_map-at}
use Rattle.run_laws.proofs.Pieces.{taken_more}
use Rattle.observer_log.specs.declared.entry.Entry.{Entry}
use Rattle.observe_core.specs.Printed.{entry_line}
use Rattle.observe_core.proofs.lines.put_entries.Goals as goal

-- if a write fails, the lines of the earlier entries and a prefix of the failed line are a prefix
-- of all lines
pub returns-in_err-put_entry-clause-bytes : goal.returns-in_err-put_entry-clause-bytes
returns-in_err-put_entry-clause-bytes g c =
    let d : Entry = c.entry-item.result in
    PutsAll-failed _ _ _ _ c.from_residual.ensures.0
    (rw (flat_map-at entry_line c.args.entries.now c.entries.entry-index d (omega arith))
    (AppendsPrefix-then _ _ _ _ _ _ c.entries.invariant.sent
    (subst (AppendsPrefix (g.K.Sink.has c.entries.out) (g.K.Sink.has c.put_entry.new.out)) (ap entry_line c.entry-item.is) c.in_err-put_entry.ensures.bytes)))

pub entries-preserved : goal.entries-preserved
entries-preserved g c =
    let d : Entry = c.entry-item.result in
    record {
      sent = subst (Appends (g.K.Sink.has c.args.out.now) (g.K.Sink.has c.put_entry.new.out)) (sym (taken_more entry_line c.args.entries.now c.entries.entry-index d (omega arith)))
          (Appends-then _ _ _ _ _ c.entries.invariant.sent
          (subst (Appends (g.K.Sink.has c.entries.out) (g.K.Sink.has c.put_entry.new.out)) (ap entry_line c.entry-item.is) c.in_ok-put_entry.ensures.bytes));
      cause = record {
        later = omega (arith, c.entries.invariant.cause.later, c.in_ok-put_entry.ensures.cause.later);
        failed = tt;
        same = c.in_ok-put_entry.ensures.cause.same ∙ c.entries.invariant.cause.same;
      };
      below = record {
        same = c.in_ok-put_entry.ensures.below.same ∙ c.entries.invariant.below.same;
        more = omega (arith, c.entries.invariant.below.more, c.in_ok-put_entry.ensures.below.more);
      };
    }
