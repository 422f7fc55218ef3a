use Rattle.std.proofs.Common.{◌-◌, arith}
use Rattle.std.proofs.lemmas.Grind.{common_steps}
use Rattle.psi_lines.proofs.Fills.{fills}
use Rattle.psi_lines.proofs.buffer.Buffer.read_more.Goals as goal

pub returns-clause-bytes : goal.returns-clause-bytes
returns-clause-bytes g c =
    λ bytes shows. fills bytes c.args.at (c.self.inside.end - c.self.inside.start) c.in_ok-count.count _ _ _ c.read_after.new.bytes (grind (arith, common_steps)) (grind (arith, common_steps)) (grind (arith, common_steps)) (c.in_ok-count.ensures.bytes bytes shows)
