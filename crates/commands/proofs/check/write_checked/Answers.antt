use Rattle.std.proofs.Common.{ap, ◌∙◌}
use Rattle.psi_spec.specs.World.{World}
use Rattle.proc_plan.proofs.Taking.{lines_of}
use Rattle.commands.proofs.check.write_checked.Goals as goal

pub returns-in-Ok-clause-writes : goal.returns-in-Ok-clause-writes
returns-in-Ok-clause-writes g c = λ limits events played.
    let lines = ap (λ (v : World). v.lines) played.world ∙ lines_of events in
    let last = ap (λ (v : World). v.last) played.world in
    (rw (← lines, ← last, ← c.lines.ensures.lines, ← c.from.ensures, ← c.last.ensures) c.in-Ok.ensures.bytes, c.in-Ok.ensures.cause.same)

pub returns-in-Err-clause-writes : goal.returns-in-Err-clause-writes
returns-in-Err-clause-writes g c = λ limits events played.
    let lines = ap (λ (v : World). v.lines) played.world ∙ lines_of events in
    let last = ap (λ (v : World). v.last) played.world in
    (rw (← lines, ← last, ← c.lines.ensures.lines, ← c.from.ensures, ← c.last.ensures) c.in-Err.ensures.bytes, c.in-Err.ensures.cause.failed)
