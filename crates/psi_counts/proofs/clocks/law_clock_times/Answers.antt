use Rattle.psi_counts.proofs.ClockLaws as laws
use Rattle.psi_counts.proofs.clocks.law_clock_times.Goals as goal

pub returns : goal.returns
returns c = laws.no_longer_than_clock
