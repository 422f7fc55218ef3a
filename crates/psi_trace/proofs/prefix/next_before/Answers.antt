use Rattle.psi_trace.proofs.Prefixes.{zero_prefix}
use Rattle.psi_trace.proofs.prefix.next_before.Goals as goal

pub returns-then-number-eq0 : goal.returns-then-number-eq0
returns-then-number-eq0 c = (tt, zero_prefix c.args.bytes.now c.in_ok-number.rest.now c.in_ok-number.number c.args.end c.if-number-eq0.true c.in_ok-number.ensures)
