use Rattle.std.proofs.Common.{arith, subst, sym, ◌∙◌}
use Rattle.std.specs.Io.KnownBytes.{Appends}
use Rattle.outside.proofs.Grows.{Appends-then, AppendsPrefix-then, PutsAll-failed}
use Rattle.observer_log.specs.declared.board.BoardState.{BoardState}
use Rattle.observe_core.proofs.PrintedStates.{states_at, states_more}
use Rattle.observe_core.proofs.lines.put_states.Goals as goal

abbrev first_state : BoardState
first_state = record { tick = 0; events = 0; kills = 0 }

-- if a write fails, the lines of the earlier states and a prefix of the failed line are a prefix of
-- all lines
pub returns-in_err-put_state-clause-bytes : goal.returns-in_err-put_state-clause-bytes
returns-in_err-put_state-clause-bytes g c =
    PutsAll-failed _ _ _ _ c.from_residual.ensures.0
    (rw (states_at 0 c.args.states.now c.states.observer c.states.observer first_state (omega arith) (omega (arith, c.states-test.true)))
    (AppendsPrefix-then _ _ _ _ _ _ c.states.invariant.sent c.in_err-put_state.ensures.bytes))

pub states-preserved : goal.states-preserved
states-preserved g c =
    record {
      sent = subst (Appends (g.K.Sink.has c.args.out.now) (g.K.Sink.has c.put_state.new.out))
          (sym (states_more 0 c.args.states.now c.states.observer c.states.observer first_state (omega arith) (omega (arith, c.states-test.true))))
          (Appends-then _ _ _ _ _ c.states.invariant.sent c.in_ok-put_state.ensures.bytes);
      cause = record {
        later = omega (arith, c.states.invariant.cause.later, c.in_ok-put_state.ensures.cause.later);
        failed = tt;
        same = c.in_ok-put_state.ensures.cause.same ∙ c.states.invariant.cause.same;
      };
      below = record {
        same = c.in_ok-put_state.ensures.below.same ∙ c.states.invariant.below.same;
        more = omega (arith, c.states.invariant.below.more, c.in_ok-put_state.ensures.below.more);
      };
    }
