use Rattle.std.proofs.Common.{◌≡◌, ℕ, List, ap, arith, subst, sym, get_or, ◌∙◌}
use Rattle.std.specs.Io.KnownBytes.{Appends}
use Rattle.outside.specs.Outside.{AppendsPrefix}
use Rattle.outside.proofs.Grows.{Appends-then, AppendsPrefix-then, PutsAll-failed, flat_map-at}
use Rattle.psi_counts.specs.Clock.{opened}
use Rattle.run_spec.specs.Lines.{live_line}
use Rattle.clock_row.specs.declared.reader.Sample.{Sample}
use Rattle.run_laws.proofs.Pieces.{taken_more}
use Rattle.replay_ticks.proofs.live.put_samples.Goals as goal

pub returns-in_err-write_live-clause-bytes : goal.returns-in_err-write_live-clause-bytes
returns-in_err-write_live-clause-bytes g c =
    let line : Sample → List ℕ = λ (sample : Sample). live_line c.args.at c.args.cpu.0 sample.count (opened sample.clock c.args.at) in
    let d : Sample = c.sample-item.result in
    let same : live_line c.args.at c.args.cpu.0 d.count c.opened-seven.result ≡ line (get_or c.args.samples.now c.samples.sample-index d) = ap (live_line c.args.at c.args.cpu.0 d.count) c.opened-seven.ensures ∙ ap line c.sample-item.is in
    PutsAll-failed _ _ _ _ c.from_residual.ensures.0
    (rw (flat_map-at line c.args.samples.now c.samples.sample-index d (omega arith))
    (AppendsPrefix-then _ _ _ _ _ _ c.samples.invariant.sent
    (subst (AppendsPrefix (g.K.Sink.has c.samples.out) (g.K.Sink.has c.write_live.new.out)) same c.in_err-write_live.ensures.bytes)))

pub samples-preserved : goal.samples-preserved
samples-preserved g c =
    let line : Sample → List ℕ = λ (sample : Sample). live_line c.args.at c.args.cpu.0 sample.count (opened sample.clock c.args.at) in
    let d : Sample = c.sample-item.result in
    let same : live_line c.args.at c.args.cpu.0 d.count c.opened-seven.result ≡ line (get_or c.args.samples.now c.samples.sample-index d) = ap (live_line c.args.at c.args.cpu.0 d.count) c.opened-seven.ensures ∙ ap line c.sample-item.is in
    record {
      sent = subst (Appends (g.K.Sink.has c.args.out.now) (g.K.Sink.has c.write_live.new.out)) (sym (taken_more line c.args.samples.now c.samples.sample-index d (omega arith)))
          (Appends-then _ _ _ _ _ c.samples.invariant.sent
          (subst (Appends (g.K.Sink.has c.samples.out) (g.K.Sink.has c.write_live.new.out)) same c.in_ok-write_live.ensures.bytes));
      cause = record {
        later = omega (arith, c.samples.invariant.cause.later, c.in_ok-write_live.ensures.cause.later);
        failed = tt;
        same = c.in_ok-write_live.ensures.cause.same ∙ c.samples.invariant.cause.same;
      };
      below = record {
        same = c.in_ok-write_live.ensures.below.same ∙ c.samples.invariant.below.same;
        more = omega (arith, c.samples.invariant.below.more, c.in_ok-write_live.ensures.below.more);
      };
    }
