use Rattle.std.proofs.Common.{◌≡◌, ◌++◌, rules}
use Rattle.std.proofs.Math.Seq.{take-append_seam}
use Rattle.psi_base.specs.Path.{parts_at}
use Rattle.path_match.proofs.Texts.{text_began}
use Rattle.path_match.proofs.text.put_patterns.Goals as goal

pub parts-init : goal.parts-init
parts-init c =
    let put : c.extend_from_slice.new.self.items ≡ c.args.to.now.items ++ c.slashless.result.now = search rules in
    record {
      text = text_began (parts_at 44 c.args.text.now) c.next_part.new.self c.in-Some.first.now c.args.to.now.items c.extend_from_slice.new.self.items c.slashless.result.now (search rules) c.slashless.ensures put;
      prefix = rw put (take-append_seam c.args.to.now.items c.slashless.result.now);
    }
