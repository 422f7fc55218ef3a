use Rattle.std.proofs.Common.{arith}
use Rattle.outside.proofs.Suffix.{answers_after}
use Rattle.outside.proofs.read.read_after.Goals as goal

pub returns-clause-bytes : goal.returns-clause-bytes
returns-clause-bytes g c =
    λ whole shows. answers_after whole c.args.at c.args.held c.args.bytes.now _ c.read_at.result (omega arith) (c.read_at.ensures.bytes whole shows)
