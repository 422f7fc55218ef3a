use Rattle.std.proofs.Common.{◌≡◌, ◌∷◌, ◌++◌, [], rules}
use Rattle.outside.specs.Outside.{AppendsPrefix}
use Rattle.outside.proofs.Grows.{PutsAll-failed}
use Rattle.psi_spec.specs.Grammar.{spelling}
use Rattle.trace_gen.proofs.Sending.{prefix_sent, one_sent, rest_fit}
use Rattle.commands.proofs.import.put_events.Goals as goal

pub returns-in_err-put_event-clause-bytes : goal.returns-in_err-put_event-clause-bytes
returns-in_err-put_event-clause-bytes g c =
    let goes : c.events.events.left ≡ c.advance.new.self.event ∷ c.advance.new.self.left = rw c.events-test.true at c.advance.ensures in
    let prefix : AppendsPrefix (g.K.Sink.has c.events.out) (g.K.Sink.has c.put_event.new.out) (spelling c.advance.new.self.event ++ 10 ∷ []) = rw c.event.ensures at c.in_err-put_event.ensures.bytes in
    PutsAll-failed _ _ _ _ c.from_residual.ensures.0
    (prefix_sent (g.K.Sink.has c.args.out.now) (g.K.Sink.has c.events.out) (g.K.Sink.has c.put_event.new.out) c.advance.new.self.event c.events.events.left c.advance.new.self.left c.args.events.now.left c.events.invariant.sent goes prefix)

pub events-preserved : goal.events-preserved
events-preserved g c =
    let goes : c.events.events.left ≡ c.advance.new.self.event ∷ c.advance.new.self.left = rw c.events-test.true at c.advance.ensures in
    record {
      fit = rest_fit c.events.events.left c.advance.new.self.event c.advance.new.self.left c.events.invariant.fit goes;
      room = search rules;
      sent = one_sent (g.K.Sink.has c.args.out.now) (g.K.Sink.has c.events.out) (g.K.Sink.has c.put_event.new.out) c.advance.new.self.event c.events.events.left c.advance.new.self.left c.args.events.now.left c.events.invariant.sent goes (rw c.event.ensures at c.in_ok-put_event.ensures.bytes);
      cause = search rules;
      below = search rules;
    }
