use Rattle.std.proofs.Common.{◌++◌, ◌∷◌, [], append_assoc}
use Rattle.std.specs.Io.KnownBytes.{Appends}
use Rattle.psi_spec.specs.Grammar.{header}
use Rattle.psi_spec.specs.Trace.{lines_of}
use Rattle.trace_gen.proofs.Sending.{PutsAll-suffix}
use Rattle.trace_gen.proofs.text.put_trace.Goals as goal

pub returns-clause-bytes : goal.returns-clause-bytes
returns-clause-bytes g c =
    let sent : Appends (g.K.Sink.has c.args.out.now) (g.K.Sink.has c.put_header.new.out) (header 1 c.args.cpus ++ 10 ∷ []) =
    c.in_ok-put_header.ensures.bytes in
    rw (append_assoc (header 1 c.args.cpus) (10 ∷ []) (lines_of c.args.generator.now)) at (PutsAll-suffix _ _ _ _ _ _ sent c.put_events.ensures.bytes)
