use Rattle.std.proofs.Common.{◌∙◌, ap}
use Rattle.aggregate.specs.Table.{rows_of, no_times}
use Rattle.aggregate.proofs.TableLaws.{rows_of-replicate}
use Rattle.aggregate.proofs.rows.Rows.make.Goals as goal

pub returns : goal.returns
returns c = c.rows_with.ensures ∙ ap (rows_of c.args.cpus c.args.slots) c.in_ok-times.ensures ∙ rows_of-replicate c.args.cpus c.args.slots no_times
