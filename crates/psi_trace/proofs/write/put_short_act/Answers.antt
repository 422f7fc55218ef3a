use Rattle.psi_trace.proofs.InPieces.{lines}
use Rattle.psi_trace.proofs.write.put_short_act.Goals as goal

pub returns-in-Wake-clause-bytes : goal.returns-in-Wake-clause-bytes
returns-in-Wake-clause-bytes c = rw c.in-Wake.is (search lines)

pub returns-in-Switch-clause-bytes : goal.returns-in-Switch-clause-bytes
returns-in-Switch-clause-bytes c = rw c.in-Switch.is (search lines)

pub returns-in-Stall-clause-bytes : goal.returns-in-Stall-clause-bytes
returns-in-Stall-clause-bytes c = rw c.in-Stall.is (search lines)

pub returns-in-Unstall-clause-bytes : goal.returns-in-Unstall-clause-bytes
returns-in-Unstall-clause-bytes c = rw c.in-Unstall.is (search lines)

pub returns-in-Migrate-clause-bytes : goal.returns-in-Migrate-clause-bytes
returns-in-Migrate-clause-bytes c = rw c.in-Migrate.is (search lines)

pub returns-in-Irq-clause-bytes : goal.returns-in-Irq-clause-bytes
returns-in-Irq-clause-bytes c = rw c.in-Irq.is (search lines)
