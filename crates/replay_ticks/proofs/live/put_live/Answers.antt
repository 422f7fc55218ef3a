use Rattle.std.proofs.Common.{◌+◌, ℕ, List, arith, refl, subst, sym, ◌∙◌}
use Rattle.std.specs.Io.KnownBytes.{Appends}
use Rattle.outside.proofs.Grows.{Appends-then, AppendsPrefix-then, PutsAll-failed}
use Rattle.replay_workers.specs.Crew.{watch_at}
use Rattle.replay_ticks.specs.Replays.{samples_text}
use Rattle.run_laws.proofs.Pieces.{piece_more, pieces_at}
use Rattle.replay_ticks.proofs.live.put_live.Goals as goal

pub returns-in_err-put_samples-clause-bytes : goal.returns-in_err-put_samples-clause-bytes
returns-in_err-put_samples-clause-bytes g c =
    let lines : ℕ → List ℕ = λ cpu. samples_text c.args.at cpu (watch_at c.args.crew.now.watches cpu).samples in
    let here = rw c.live.ensures at c.in_err-put_samples.ensures.bytes in
    PutsAll-failed _ _ _ _ c.from_residual.ensures.0
    (rw (pieces_at lines c.args.cpus c.cpus.cpu (omega arith))
    (AppendsPrefix-then _ _ _ _ _ _ c.cpus.invariant.sent here))

pub cpus-preserved : goal.cpus-preserved
cpus-preserved g c =
    let lines : ℕ → List ℕ = λ cpu. samples_text c.args.at cpu (watch_at c.args.crew.now.watches cpu).samples in
    let here = rw c.live.ensures at c.in_ok-put_samples.ensures.bytes in
    record {
      sent = subst (Appends (g.K.Sink.has c.args.out.now) (g.K.Sink.has c.put_samples.new.out)) (sym (piece_more lines c.cpus.cpu (c.cpus.cpu + 1) refl))
          (Appends-then _ _ _ _ _ c.cpus.invariant.sent here);
      cause = record {
        later = omega (arith, c.cpus.invariant.cause.later, c.in_ok-put_samples.ensures.cause.later);
        failed = tt;
        same = c.in_ok-put_samples.ensures.cause.same ∙ c.cpus.invariant.cause.same;
      };
      below = record {
        same = c.in_ok-put_samples.ensures.below.same ∙ c.cpus.invariant.below.same;
        more = omega (arith, c.cpus.invariant.below.more, c.in_ok-put_samples.ensures.below.more);
      };
    }
