use Rattle.psi_spec.specs.Grammar.{verbs_of}
use Rattle.psi_spec.specs.Header.{version_of}
use Rattle.psi_trace.proofs.Spelled as spelled
use Rattle.psi_trace.proofs.read.read_event.Goals as goal

pub returns-clause-found : goal.returns-clause-found
returns-clause-found c = spelled.found_event (verbs_of (version_of c.args.version)) c.args.line.now c.event_in.result c.event_in.ensures.exact

pub returns-clause-none : goal.returns-clause-none
returns-clause-none c = spelled.no_event (verbs_of (version_of c.args.version)) c.args.line.now c.event_in.result c.event_in.ensures.exact

pub returns-clause-cause : goal.returns-clause-cause
returns-clause-cause c = spelled.caused (verbs_of (version_of c.args.version)) c.args.line.now c.event_in.result c.event_in.ensures.exact
