use Rattle.psi_trace.proofs.InPieces.{lines}
use Rattle.psi_trace.proofs.write.put_long_act.Goals as goal

pub returns-in-Group-clause-bytes : goal.returns-in-Group-clause-bytes
returns-in-Group-clause-bytes c = rw c.in-Group.is (search lines)

pub returns-in-Remove-clause-bytes : goal.returns-in-Remove-clause-bytes
returns-in-Remove-clause-bytes c = rw c.in-Remove.is (search lines)

pub returns-in-Prefer-clause-bytes : goal.returns-in-Prefer-clause-bytes
returns-in-Prefer-clause-bytes c = rw c.in-Prefer.is (search lines)

pub returns-in-Fork-clause-bytes : goal.returns-in-Fork-clause-bytes
returns-in-Fork-clause-bytes c = rw c.in-Fork.is (search lines)

pub returns-in-Move-clause-bytes : goal.returns-in-Move-clause-bytes
returns-in-Move-clause-bytes c = rw c.in-Move.is (search lines)

pub returns-in-Mem-clause-bytes : goal.returns-in-Mem-clause-bytes
returns-in-Mem-clause-bytes c = rw c.in-Mem.is (search lines)

pub returns-in-Host-clause-bytes : goal.returns-in-Host-clause-bytes
returns-in-Host-clause-bytes c = rw c.in-Host.is (search lines)

pub returns-in-Trigger-clause-bytes : goal.returns-in-Trigger-clause-bytes
returns-in-Trigger-clause-bytes c = rw c.in-Trigger.is (search lines)

pub returns-in-Pressure-clause-bytes : goal.returns-in-Pressure-clause-bytes
returns-in-Pressure-clause-bytes c = rw c.in-Pressure.is (search lines)
