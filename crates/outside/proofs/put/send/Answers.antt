use Rattle.std.proofs.Common.{arith, rules}
use Rattle.std.proofs.lemmas.Grind.{common_steps}
use Rattle.outside.proofs.Grows.{Appends-more}
use Rattle.outside.proofs.put.send.Goals as goal

pub loop-sent-preserved : goal.loop-sent-preserved
loop-sent-preserved g c = record {
  inside = omega (arith, c.in-Ok.ensures.bound);
  sent = Appends-more _ _ _ _ _ _ _ c.loop-sent.invariant.sent (grind (arith, common_steps)) c.in-Ok.ensures.bytes;
  same = omega (arith, c.in-Ok.ensures.cause.same);
  below = search rules;
}
