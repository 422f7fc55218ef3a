use Rattle.std.proofs.Common.{refl}
use Rattle.psi_trace.proofs.Headers.{header_found, header_missed}
use Rattle.psi_trace.proofs.header.read_header.Goals as goal

pub returns-in-Some-clause-spelled : goal.returns-in-Some-clause-spelled
returns-in-Some-clause-spelled c = header_found c.args.line.now c.in-Some.head.version c.in-Some.head.cpus c.in-Some.ensures.version c.in-Some.ensures.exact

pub returns-in-None-clause-spelled : goal.returns-in-None-clause-spelled
returns-in-None-clause-spelled c = (refl, header_missed c.args.line.now c.in-None.ensures.exact)
