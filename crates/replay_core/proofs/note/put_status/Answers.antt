use Rattle.replay_core.proofs.note.put_status.Goals as goal

pub returns-in-Usage-clause-bytes : goal.returns-in-Usage-clause-bytes
returns-in-Usage-clause-bytes g c = rw c.in-Usage.is c.put_all-in-Usage.ensures.bytes

pub returns-in-ReadFault-clause-bytes : goal.returns-in-ReadFault-clause-bytes
returns-in-ReadFault-clause-bytes g c = rw c.in-ReadFault.is c.put_all-in-ReadFault.ensures.bytes
