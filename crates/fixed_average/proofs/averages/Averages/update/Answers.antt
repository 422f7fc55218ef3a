use Rattle.std.proofs.Common.{◌-◌, ◌+◌, ◌*◌, ◌/◌, arith}
use Rattle.std.proofs.lemmas.Grind.{common_steps}
use Rattle.pressure_spec.specs.Average.{average_step}
use Rattle.pressure_spec.proofs.AverageLaws.{samples_most}
use Rattle.fixed_average.proofs.averages.Averages.update.Goals as goal

pub returns-then-now-self : goal.returns-then-now-self
unfolding average_step
returns-then-now-self c = grind (arith, common_steps)

pub add_samples-requires : goal.add_samples-requires
add_samples-requires c = c.samples_of-samples.ensures.fits

pub update_rows-requires-clause-samples : goal.update_rows-requires-clause-samples
update_rows-requires-clause-samples c = rw c.samples_of-samples.ensures.value (samples_most (c.args.now - (c.self.inside.last + (c.args.now - c.self.inside.next) / 2000000000 * 2000000000)) c.self.inside.sampled c.args.totals c.self.invariant.sampled (omega arith))

pub returns : goal.returns
unfolding average_step
returns c = grind (arith, common_steps)
