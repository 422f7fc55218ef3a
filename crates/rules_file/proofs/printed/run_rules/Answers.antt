use Rattle.std.proofs.Common.{refl}
use Rattle.run_spec.specs.declared.command.Command.TheVariants.{Rules}
use Rattle.run_outcomes.proofs.RunStops.{written_stops}
use Rattle.rules_file.proofs.RulesRuns.{rules_written}
use Rattle.run_outcomes.proofs.RunOrder.{printed_order}
use Rattle.rules_file.proofs.printed.run_rules.Goals as goal

pub returns-in-Ok-clause-runs : goal.returns-in-Ok-clause-runs
returns-in-Ok-clause-runs g c =
    let bytes_read = c.in-Ok.ensures.answer in
    rules_written c.args.name.now _ (g.S.Shelf.holds c.args.shelf.now) _ _ _ _ c.in-Ok.rules.rules c.print_rules.result bytes_read.0 bytes_read.1.faults bytes_read.1.absent c.print_rules.ensures.writes

pub returns-in-Err-clause-runs : goal.returns-in-Err-clause-runs
returns-in-Err-clause-runs g c = c.in-Err.ensures.answer (Rules c.args.name.now _) _ _ refl refl

pub returns-in-Ok-clause-stops : goal.returns-in-Ok-clause-stops
returns-in-Ok-clause-stops g c = written_stops (Rules c.args.name.now _) (g.S.Shelf.holds c.args.shelf.now) _ _ _ _ _ _ _ c.print_rules.result c.print_rules.ensures.writes

pub returns-in-Err-clause-stops : goal.returns-in-Err-clause-stops
returns-in-Err-clause-stops g c = c.in-Err.ensures.stops (Rules c.args.name.now _) refl refl

pub returns-in-Ok-clause-order : goal.returns-in-Ok-clause-order
returns-in-Ok-clause-order g c = printed_order c.args.name.now _ (g.S.Shelf.holds c.args.shelf.now) _ _ _ _ _ _ _ c.print_rules.result c.in-Ok.ensures.order c.print_rules.ensures.writes

pub returns-in-Err-clause-order : goal.returns-in-Err-clause-order
returns-in-Err-clause-order g c = c.in-Err.ensures.order (Rules c.args.name.now _) refl refl
