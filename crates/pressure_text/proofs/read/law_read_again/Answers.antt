use Rattle.pressure_text.proofs.KnownLaws.{irq_reads_again, reads_again}
use Rattle.pressure_text.proofs.read.law_read_again.Goals as goal

pub returns-clause-file : goal.returns-clause-file
returns-clause-file c = reads_again

pub returns-clause-irq : goal.returns-clause-irq
returns-clause-irq c = irq_reads_again
