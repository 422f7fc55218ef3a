use Rattle.std.proofs.Common.{refl, arith}
use Rattle.std.proofs.lemmas.Grind.{common_steps}
use Rattle.psi_lines.proofs.Fills.{some_left}
use Rattle.psi_lines.proofs.lines.Lines.is_at_end.Goals as goal

pub returns-then-not-is_empty-clause-left : goal.returns-then-not-is_empty-clause-left
returns-then-not-is_empty-clause-left g c =
    λ bytes shows. (refl, (λ end. cc, λ none. absurd (some_left c.args.self.now.buffered _ (grind (arith, common_steps)) none)))
