use Rattle.std.proofs.Common.{◌≡◌, arith, ◌++◌, take}
use Rattle.std.specs.Prelude.{codes}
use Rattle.std.proofs.lemmas.List.{take_all}
use Rattle.outside.proofs.Grows.{AppendsPrefix-then, PutsAll-failed, flat_map-at}
use Rattle.page_spec.specs.declared.layout.Field.{Field}
use Rattle.page_spec.specs.declared.layout.Field.TheVariants.{Unsigned}
use Rattle.page_spec.specs.declared.layout.Width.TheVariants.{One}
use Rattle.page_spec.specs.Fields.{value_of}
use Rattle.page_spec.specs.Lines.{value_text}
use Rattle.event_lines.proofs.Fields.{fields-values}
use Rattle.event_lines.proofs.line.put_values.Goals as goal

pub returns-in_err-put_field-clause-bytes : goal.returns-in_err-put_field-clause-bytes
returns-in_err-put_field-clause-bytes g c =
    PutsAll-failed _ _ _ _ c.from_residual.ensures.0 (rw (fields-values c.args.letters.now c.args.bytes.now c.args.fields.now)
    (rw (flat_map-at (λ (each : Field). codes " " ++ value_text (value_of c.args.letters.now c.args.bytes.now each)) c.args.fields.now c.fields.field-index (Unsigned 0 One) (omega arith))
    (AppendsPrefix-then _ _ _ _ _ _ c.fields.invariant.sent c.in_err-put_field.ensures.bytes)))

pub returns-clause-bytes : goal.returns-clause-bytes
returns-clause-bytes g c =
    let all : take c.fields.field-index c.args.fields.now ≡ c.args.fields.now = take_all c.fields.field-index c.args.fields.now (omega arith) in
    rw (fields-values c.args.letters.now c.args.bytes.now c.args.fields.now) (rw all at c.fields.invariant.sent)
