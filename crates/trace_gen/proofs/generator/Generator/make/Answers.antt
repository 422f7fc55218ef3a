use Rattle.std.proofs.Common.{ap, ◌∙◌}
use Rattle.task_table.specs.Stands.{TableView}
use Rattle.trace_gen.proofs.Drawing.{at_first}
use Rattle.trace_gen.proofs.generator.Generator.make.Goals as goal

pub invariant_of-result : goal.invariant_of-result
invariant_of-result c =
    at_first c.args.shape c.requires c.found.new.table (c.in_ok-first.ensures.limits ∙ ap (λ (t : TableView). t.limits) c.in_ok-table.ensures) c.in_ok-first.ensures.world
