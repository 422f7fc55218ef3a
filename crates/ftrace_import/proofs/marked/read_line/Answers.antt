use Rattle.std.proofs.Common.{◌≡◌, ◌∙◌, refl, sym, true, false}
use Rattle.std.specs.Prelude.{codes}
use Rattle.import_spec.specs.Places.{begins_with}
use Rattle.ftrace_import.proofs.Marks.{read_comment, read_found, read_unmarked}
use Rattle.ftrace_import.proofs.marked.read_line.Goals as goal

pub returns-then-starts_with : goal.returns-then-starts_with
returns-then-starts_with c =
    let is : begins_with (codes "#") c.args.line.now ≡ true = cc in
    sym (read_comment c.args.line.now is)

pub returns-in-Some : goal.returns-in-Some
returns-in-Some c =
    let off : begins_with (codes "#") c.args.line.now ≡ false = cc in
    c.read_marked.ensures ∙ sym (read_found c.args.line.now c.in-Some.found.at c.in-Some.found.mark off c.in-Some.ensures.some)

pub returns-in-None : goal.returns-in-None
returns-in-None c =
    let off : begins_with (codes "#") c.args.line.now ≡ false = cc in
    sym (read_unmarked c.args.line.now off (c.in-None.ensures.none refl))
