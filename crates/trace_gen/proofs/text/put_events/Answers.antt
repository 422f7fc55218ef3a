use Rattle.std.proofs.Common.{rules}
use Rattle.outside.proofs.Grows.{PutsAll-failed}
use Rattle.trace_gen.proofs.Sending.{prefix_sent, one_sent, rest_fit}
use Rattle.trace_gen.proofs.text.put_events.Goals as goal

pub returns-in_err-put_owned-clause-bytes : goal.returns-in_err-put_owned-clause-bytes
returns-in_err-put_owned-clause-bytes g c =
    PutsAll-failed _ _ _ _ c.from_residual.ensures.0
    (prefix_sent (g.K.Sink.has c.args.out.now) (g.K.Sink.has c.events.out) (g.K.Sink.has c.put_owned.new.out) c.in-Some.event c.events.generator c.next.new.self c.args.generator.now c.events.invariant.sent c.in-Some.ensures c.in_err-put_owned.ensures.bytes)

pub events-preserved : goal.events-preserved
events-preserved g c = record {
  fit = rest_fit c.events.generator c.in-Some.event c.next.new.self c.events.invariant.fit c.in-Some.ensures;
  room = search rules;
  sent = one_sent (g.K.Sink.has c.args.out.now) (g.K.Sink.has c.events.out) (g.K.Sink.has c.put_owned.new.out) c.in-Some.event c.events.generator c.next.new.self c.args.generator.now c.events.invariant.sent c.in-Some.ensures c.in_ok-put_owned.ensures.bytes;
  cause = search rules;
  below = search rules;
}
