use Rattle.std.proofs.Common.{◌+◌, ◌≤◌, refl, ap, ◌∙◌, take, drop, arith}
use Rattle.std.proofs.lemmas.Grind.{common_steps}
use Rattle.psi_lines.proofs.Fills.{skips, takes}
use Rattle.psi_lines.proofs.buffer.Buffer.take_line.Goals as goal

pub returns : goal.returns
returns c =
    let b = c.self.inside in
    let inside : b.start + (c.args.count + 1) ≤ b.end = grind (arith, common_steps) in
    let buffered = ap (take c.args.count) c.self.view_is in (
      (refl, (λ _. tt), skips b.bytes.items b.start b.end (c.args.count + 1) inside ∙ ap (drop (c.args.count + 1)) c.self.view_is),
      record {
        bytes = rw c.deref.ensures.value (takes b.bytes.items b.start b.end c.args.count (omega (arith, inside)) ∙ buffered);
        rest = tt;
      },
    )
