use Rattle.pressure_spec.proofs.AverageLaws as laws
use Rattle.pressure_spec.proofs.arithmetic.law_fixed_point.Goals as goal

pub returns-clause-power : goal.returns-clause-power
returns-clause-power c = laws.power_halves

pub returns-clause-load : goal.returns-clause-load
returns-clause-load c = laws.load_approaches
