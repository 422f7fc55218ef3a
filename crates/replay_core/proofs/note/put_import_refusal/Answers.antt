use Rattle.replay_core.proofs.note.put_import_refusal.Goals as goal

pub returns-clause-bytes : goal.returns-clause-bytes
returns-clause-bytes g c = rw (c.as_slice.ensures, c.as_bytes-line.ensures.value, c.format.ensures.text, c.as_slice-2.ensures, c.import_cause_name.ensures, c.as_slice-3.ensures) at c.put_each.ensures.bytes
