use Rattle.std.proofs.Common.{◌≡◌, ◌∙◌, sym, arith}
use Rattle.std.proofs.lemmas.Bool.Decides.{nat_tests}
use Rattle.trace_gen.proofs.Drawing.{end_left}
use Rattle.trace_gen.proofs.generator.Generator.next.Goals as goal

pub returns-then-self-eq0 : goal.returns-then-self-eq0
returns-then-self-eq0 c =
    let none : c.self.inside.left ≡ 0 = grind (arith, nat_tests, c.if-self-eq0.true) in
    sym c.self.view_is
    ∙ end_left c.self.inside.shape c.self.inside.first.items c.next_first.new.events.items c.self.inside.table.world c.self.inside.draws c.self.inside.left c.last.result c.self.inside.ended c.in_default.ensures.0 c.in_default.ensures.1 c.if-self.false none c.last.ensures
