use Rattle.std.proofs.Common.{ap, arith, decimal, drop, length, length-append}
use Rattle.trace_laws.proofs.GrammarWords.{decimal_short}
use Rattle.psi_trace.proofs.InPieces.{suffix}
use Rattle.psi_trace.proofs.line.LineBuffer.number.Goals as goal

pub write_digits-self-inside-requires : goal.write_digits-self-inside-requires
write_digits-self-inside-requires g c =
    let short = decimal_short c.args.number c.ranges.number.fits in
    let all = suffix c.self.inside.bytes c.args.self.now _ c.self.inside.start c.self.told c.self.invariant c.self.view_is in
    (omega (arith, short, all, c.requires), omega (arith, c.self.told, c.self.invariant))

pub returns-clause-length : goal.returns-clause-length
returns-clause-length g c =
    let short = decimal_short c.args.number c.ranges.number.fits in
    let written = ap length c.write_digits-self-inside.ensures.written in
    let sum = length-append (decimal c.args.number) (drop c.self.inside.start c.self.inside.bytes) in
    let same = ap length c.self.view_is in
    omega (arith, short, written, sum, same)
