use Rattle.std.proofs.Common.{arith, subst, sym, ◌∙◌}
use Rattle.std.specs.Io.KnownBytes.{Appends}
use Rattle.psi_spec.specs.Header.{version_of}
use Rattle.outside.proofs.Grows.{Appends-then, AppendsPrefix-then, PutsAll-failed, flat_map-at}
use Rattle.commands.specs.Lines.{plan_line}
use Rattle.run_laws.proofs.Pieces.{taken_more}
use Rattle.commands.proofs.lines.put_processor.Goals as goal

pub returns-in_err-put_group-clause-bytes : goal.returns-in_err-put_group-clause-bytes
returns-in_err-put_group-clause-bytes g c =
    let bytes = rw c.groups.invariant.plan at c.in_err-put_group.ensures.bytes in
    PutsAll-failed _ _ _ _ c.from_residual.ensures.0
    (rw (flat_map-at (plan_line (version_of c.args.version) c.args.cpu.0 c.args.groups.now (g.C.ProcClocks.plan c.args.clocks.now) c.args.last) c.args.order.now c.groups.slot-index (record { 0 = 0 }) (omega arith))
    (AppendsPrefix-then _ _ _ _ _ _ c.groups.invariant.sent bytes))

pub groups-preserved : goal.groups-preserved
groups-preserved g c =
    let bytes = rw c.groups.invariant.plan at c.in_ok-put_group.ensures.bytes in
    record {
      plan = c.in_ok-put_group.ensures.plan ∙ c.groups.invariant.plan;
      made = c.in_ok-put_group.ensures.made ∙ c.groups.invariant.made;
      sent = subst (Appends (g.K.Sink.has c.args.out.now) (g.K.Sink.has c.put_group.new.out))
          (sym (taken_more (plan_line (version_of c.args.version) c.args.cpu.0 c.args.groups.now (g.C.ProcClocks.plan c.args.clocks.now) c.args.last) c.args.order.now c.groups.slot-index (record { 0 = 0 }) (omega arith)))
          (Appends-then _ _ _ _ _ c.groups.invariant.sent bytes);
      cause = record { later = omega (arith, c.groups.invariant.cause.later, c.in_ok-put_group.ensures.cause.later); failed = tt; same = omega (arith, c.groups.invariant.cause.same, c.in_ok-put_group.ensures.cause.same) };
      below = record { same = c.in_ok-put_group.ensures.below.same ∙ c.groups.invariant.below.same; more = omega (arith, c.groups.invariant.below.more, c.in_ok-put_group.ensures.below.more) };
    }
