use Rattle.std.proofs.Common.{arith}
use Rattle.slot_clocks.specs.Clocks.{parent_numbers}
use Rattle.proc_plan.proofs.IrqWalk.{nothing_grows}
use Rattle.proc_plan.proofs.irqs.add_irq.Goals as goal

pub returns-else-irq-gt0-clause-grown : goal.returns-else-irq-gt0-clause-grown
returns-else-irq-gt0-clause-grown c = nothing_grows (parent_numbers c.args.parents.now) c.args.clocks.now c.args.change.now.current c.args.change.now.irq c.args.times.now (omega (arith, c.if-irq-gt0.false, c.irq-irq.ensures))
