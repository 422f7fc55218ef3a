use Rattle.std.proofs.Common.{[], arith}
use Rattle.std.proofs.lemmas.List.{get_or_default}
use Rattle.pressure_spec.specs.Average.{row_after}
use Rattle.pressure_spec.proofs.ShareLaws.{zip_with_all}
use Rattle.fixed_average.proofs.averages.update_rows.Goals as goal

pub returns-clause-value : goal.returns-clause-value
returns-clause-value c = zip_with_all (row_after c.args.missed c.args.time) c.args.rows.now c.args.samples.now c.each.rows 7 [] 0 [] (omega arith) (omega arith) (omega arith) (λ k below. c.each.invariant.done k (omega arith))

pub returns-clause-rows : goal.returns-clause-rows
returns-clause-rows c = λ k d below. rw (get_or_default c.each.rows k d [] below) (c.each.invariant.rows k (omega arith))
