use Rattle.std.proofs.Common.{length, ◌∙◌}
use Rattle.pressure_spec.specs.NextTick.{no_tick}
use Rattle.pressure_spec.proofs.SampleLaws.{last_tick-push}
use Rattle.tick_engine.proofs.engine.law_engine.Goals as goal

pub returns-clause-last : goal.returns-clause-last
returns-clause-last c = λ engine cpus lives triggers prefix tick stands. stands.last ∙ last_tick-push (no_tick cpus (length lives)) prefix tick
