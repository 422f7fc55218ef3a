use Rattle.std.proofs.Common.{sym, subst}
use Rattle.outside.specs.Calls.{PutsAll}
use Rattle.trace_file.proofs.RefusalTexts.{refusal_none, refusal_some}
use Rattle.trace_file.proofs.refusal.put_refusal.Goals as goal

pub returns-in-Some-clause-bytes : goal.returns-in-Some-clause-bytes
returns-in-Some-clause-bytes g c =
    subst (PutsAll _ _ _) (refusal_some c.args.line c.in-Some.field c.args.cause (sym c.in-Some.ensures))
    (rw (c.as_slice.ensures, c.as_bytes-line.ensures.value, c.format.ensures.text, c.as_slice-in-Some.ensures, c.cause_name-name.ensures, c.as_slice-in-Some-2.ensures, c.as_bytes-field.ensures.value, c.format-in-Some.ensures.text, c.as_slice-in-Some-3.ensures) at c.put_each.ensures.bytes)

pub returns-in-None-clause-bytes : goal.returns-in-None-clause-bytes
returns-in-None-clause-bytes g c =
    subst (PutsAll _ _ _) (refusal_none c.args.line c.args.cause (sym c.in-None.ensures))
    (rw (c.as_slice-in-None.ensures, c.as_bytes-line.ensures.value, c.format.ensures.text, c.as_slice-in-None-2.ensures, c.cause_name-name.ensures, c.as_slice-in-None-3.ensures) at c.put_each-in-None.ensures.bytes)
