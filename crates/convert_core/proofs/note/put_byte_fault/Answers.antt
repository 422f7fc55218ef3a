use Rattle.convert_core.proofs.note.put_byte_fault.Goals as goal

pub returns-clause-bytes : goal.returns-clause-bytes
returns-clause-bytes g c = rw (c.as_slice.ensures, c.as_bytes-byte.ensures.value, c.format.ensures.text, c.as_slice-2.ensures, c.page_cause_name.ensures, c.as_slice-3.ensures) at c.put_each.ensures.bytes
