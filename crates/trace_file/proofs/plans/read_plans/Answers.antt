use Rattle.std.proofs.Common.{refl}
use Rattle.psi_spec.specs.Header.{version_of}
use Rattle.trace_file.specs.Reads.{trace_with}
use Rattle.trace_file.proofs.plans.read_plans.Goals as goal

pub finish-requires : goal.finish-requires
finish-requires g c =
    let read = c.in-Ok.ensures.content in
    (_, read.events, read.played)

pub returns-clause-content : goal.returns-clause-content
returns-clause-content g c =
    let read = c.in-Ok.ensures.content in
    record {
      numbered = read.numbered;
      trace = trace_with (version_of c.in-Ok.played.0) read.cpus read.events;
      counted = read.counted;
      version = refl;
      represents = c.in_ok-finish.ensures _ read.events read.played;
      known_verbs = read.known_verbs;
      accepted = read.accepted;
      read = read.read;
    }
