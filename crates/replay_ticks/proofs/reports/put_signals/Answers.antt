use Rattle.std.proofs.Common.{ℕ, List, arith, subst, sym, get_or, ◌∙◌}
use Rattle.std.specs.Prelude.{slice_get}
use Rattle.std.specs.Io.KnownBytes.{Appends}
use Rattle.outside.specs.Outside.{AppendsPrefix}
use Rattle.psi_base.specs.declared.event.TriggerSpec.{TriggerSpec}
use Rattle.psi_base.specs.declared.event.Res.TheVariants.{Io}
use Rattle.psi_base.specs.declared.event.Level.TheVariants.{SomeStalled}
use Rattle.outside.proofs.Grows.{Appends-then, AppendsPrefix-then, PutsAll-failed, flat_map-at}
use Rattle.run_spec.specs.Replay.{signal_line}
use Rattle.run_laws.proofs.Pieces.{taken_more}
use Rattle.replay_ticks.proofs.ReportLaws.{signal_is}
use Rattle.replay_ticks.proofs.reports.put_signals.Goals as goal

pub returns-in_err-write_fired-clause-bytes : goal.returns-in_err-write_fired-clause-bytes
returns-in_err-write_fired-clause-bytes g c =
    let line : ℕ → List ℕ = λ number. signal_line c.args.at c.args.lives.now number (slice_get c.args.triggers.now number) in
    let d : TriggerSpec = record { at = 0; slot = record { 0 = 0 }; res = Io; level = SomeStalled; threshold_us = 0; window_us = 0 } in
    let inside = c.requires.numbers c.fired.number-index 0 (omega arith) in
    let room = c.requires.slots (get_or c.args.fired.now c.fired.number-index 0) d inside in
    let same = signal_is c.args.at c.args.lives.now c.args.triggers.now (get_or c.args.fired.now c.fired.number-index 0) d c.index-lives-trigger.result inside room in
    PutsAll-failed _ _ _ _ c.from_residual.ensures.0
    (rw (flat_map-at line c.args.fired.now c.fired.number-index 0 (omega arith))
    (AppendsPrefix-then _ _ _ _ _ _ c.fired.invariant.sent
    (subst (AppendsPrefix (g.K.Sink.has c.fired.out) (g.K.Sink.has c.write_fired.new.out)) (sym same) c.in_err-write_fired.ensures.bytes)))

pub fired-preserved : goal.fired-preserved
fired-preserved g c =
    let line : ℕ → List ℕ = λ number. signal_line c.args.at c.args.lives.now number (slice_get c.args.triggers.now number) in
    let d : TriggerSpec = record { at = 0; slot = record { 0 = 0 }; res = Io; level = SomeStalled; threshold_us = 0; window_us = 0 } in
    let inside = c.requires.numbers c.fired.number-index 0 (omega arith) in
    let room = c.requires.slots (get_or c.args.fired.now c.fired.number-index 0) d inside in
    let same = signal_is c.args.at c.args.lives.now c.args.triggers.now (get_or c.args.fired.now c.fired.number-index 0) d c.index-lives-trigger.result inside room in
    record {
      sent = subst (Appends (g.K.Sink.has c.args.out.now) (g.K.Sink.has c.write_fired.new.out)) (sym (taken_more line c.args.fired.now c.fired.number-index 0 (omega arith)))
          (Appends-then _ _ _ _ _ c.fired.invariant.sent
          (subst (Appends (g.K.Sink.has c.fired.out) (g.K.Sink.has c.write_fired.new.out)) (sym same) c.in_ok-write_fired.ensures.bytes));
      cause = record {
        later = omega (arith, c.fired.invariant.cause.later, c.in_ok-write_fired.ensures.cause.later);
        failed = tt;
        same = c.in_ok-write_fired.ensures.cause.same ∙ c.fired.invariant.cause.same;
      };
      below = record {
        same = c.in_ok-write_fired.ensures.below.same ∙ c.fired.invariant.below.same;
        more = omega (arith, c.fired.invariant.below.more, c.in_ok-write_fired.ensures.below.more);
      };
    }
