use Rattle.psi_counts.proofs.ClockLaws as laws
use Rattle.psi_counts.proofs.clocks.law_clock_words.Goals as goal

pub returns : goal.returns
returns c = laws.words_show_clock
