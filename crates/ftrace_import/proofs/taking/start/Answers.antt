use Rattle.std.proofs.Common.{ap, rules, None}
use Rattle.task_table.specs.Stands.{TableView}
use Rattle.import_spec.specs.Events.{Reached}
use Rattle.ftrace_import.proofs.Gathered.{gathered_none}
use Rattle.ftrace_import.proofs.taking.start.Goals as goal

pub returns-clause-so : goal.returns-clause-so
returns-clause-so c =
    gathered_none _ c.requires (ap (λ (t : TableView). t.limits) c.in_ok-new.ensures) (ap (λ (t : TableView). let r : Reached = record { first = None; moment = 0; world = t.world } in r) c.in_ok-new.ensures) (search rules)
