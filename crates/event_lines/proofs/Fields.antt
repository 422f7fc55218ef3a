-- The fields of a record, as they are written.
use Rattle.std.proofs.Common.{◌≡◌, ℕ, List, ◌++◌}
use Rattle.std.specs.Prelude.{codes}
use Rattle.std.specs.List.{flat_map}
use Rattle.page_spec.specs.declared.layout.Field.{Field}
use Rattle.page_spec.specs.declared.layout.StateLetter.{StateLetter}
use Rattle.page_spec.specs.Fields.{value_of, values_of}
use Rattle.page_spec.specs.Lines.{value_text, values_text}
use Rattle.event_lines.proofs.Sent.{flat_map-map}

-- the values of fields, each after a space
abbrev pub fields_text : List StateLetter → List ℕ → List Field → List ℕ
fields_text letters bytes fields = flat_map (λ (each : Field). codes " " ++ value_text (value_of letters bytes each)) fields

-- the same as the text of the values
pub fields-values : (letters : List StateLetter) (bytes : List ℕ) (fields : List Field) → values_text (values_of letters bytes fields) ≡ fields_text letters bytes fields
fields-values letters bytes fields = flat_map-map (value_of letters bytes) (λ value. codes " " ++ value_text value) fields
