use Rattle.pressure_text.proofs.KnownLaws.{irq_exact, irq_none}
use Rattle.pressure_text.proofs.read.read_irq.Goals as goal

pub returns-clause-exact : goal.returns-clause-exact
returns-clause-exact c = irq_exact c.args.bytes.now c.irq_of.result c.irq_of.ensures

pub returns-clause-none : goal.returns-clause-none
returns-clause-none c = irq_none c.args.bytes.now c.irq_of.result c.irq_of.ensures
