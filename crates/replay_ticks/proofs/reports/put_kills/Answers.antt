use Rattle.std.proofs.Common.{ℕ, List, arith, subst, sym, get_or, ◌∙◌}
use Rattle.std.specs.Io.KnownBytes.{Appends}
use Rattle.outside.specs.Outside.{AppendsPrefix}
use Rattle.psi_spec.specs.Groups.{path_at}
use Rattle.outside.proofs.Grows.{Appends-then, AppendsPrefix-then, PutsAll-failed, flat_map-at}
use Rattle.kill_spec.specs.declared.kill.Kill.{Kill}
use Rattle.run_spec.specs.Lines.{kill_line}
use Rattle.run_laws.proofs.Pieces.{taken_more}
use Rattle.replay_ticks.proofs.ReportLaws.{kill_is}
use Rattle.replay_ticks.proofs.reports.put_kills.Goals as goal

pub returns-in_err-write_kill-clause-bytes : goal.returns-in_err-write_kill-clause-bytes
returns-in_err-write_kill-clause-bytes g c =
    let line : Kill → List ℕ = λ (kill : Kill). kill_line kill.at kill.rule kill.action (path_at c.args.lives.now kill.victim.0) in
    let d : Kill = record { at = 0; rule = 0; action = 0; victim = record { 0 = 0 } } in
    let room = c.requires.slots c.kills.kill-index d (omega arith) in
    let same = kill_is c.args.lives.now (get_or c.args.kills.now c.kills.kill-index d) c.index-lives-kill.result room in
    PutsAll-failed _ _ _ _ c.from_residual.ensures.0
    (rw (flat_map-at line c.args.kills.now c.kills.kill-index d (omega arith))
    (AppendsPrefix-then _ _ _ _ _ _ c.kills.invariant.sent
    (subst (AppendsPrefix (g.K.Sink.has c.kills.out) (g.K.Sink.has c.write_kill.new.out)) (sym same) c.in_err-write_kill.ensures.bytes)))

pub kills-preserved : goal.kills-preserved
kills-preserved g c =
    let line : Kill → List ℕ = λ (kill : Kill). kill_line kill.at kill.rule kill.action (path_at c.args.lives.now kill.victim.0) in
    let d : Kill = record { at = 0; rule = 0; action = 0; victim = record { 0 = 0 } } in
    let room = c.requires.slots c.kills.kill-index d (omega arith) in
    let same = kill_is c.args.lives.now (get_or c.args.kills.now c.kills.kill-index d) c.index-lives-kill.result room in
    record {
      sent = subst (Appends (g.K.Sink.has c.args.out.now) (g.K.Sink.has c.write_kill.new.out)) (sym (taken_more line c.args.kills.now c.kills.kill-index d (omega arith)))
          (Appends-then _ _ _ _ _ c.kills.invariant.sent
          (subst (Appends (g.K.Sink.has c.kills.out) (g.K.Sink.has c.write_kill.new.out)) (sym same) c.in_ok-write_kill.ensures.bytes));
      cause = record {
        later = omega (arith, c.kills.invariant.cause.later, c.in_ok-write_kill.ensures.cause.later);
        failed = tt;
        same = c.in_ok-write_kill.ensures.cause.same ∙ c.kills.invariant.cause.same;
      };
      below = record {
        same = c.in_ok-write_kill.ensures.below.same ∙ c.kills.invariant.below.same;
        more = omega (arith, c.kills.invariant.below.more, c.in_ok-write_kill.ensures.below.more);
      };
    }
