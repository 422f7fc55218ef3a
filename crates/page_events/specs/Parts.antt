-- Relates the types of this crate, which borrow their bytes from a page, to the types of the
-- specification in page_spec.
use Rattle.page_spec.specs.Records.{Step, record_at}
use Rattle.page_spec.specs.Records.{Step as step}
use Rattle.page_spec.specs.Fields.{Value}
use Rattle.page_spec.specs.Fields.{Value as value}
use Rattle.page_events.specs.declared.part.Part.{Part}
use Rattle.page_events.specs.declared.part.Part.TheVariants as part
use Rattle.page_events.specs.declared.value.FieldValue.{FieldValue}
use Rattle.page_events.specs.declared.value.FieldValue.TheVariants as seen

-- Converts a decoded part of a page to the corresponding type of page_spec.
abbrev pub step_of : Part → Step
step_of part.End = step.Ends
step_of (part.Skipped time rest) = step.Skips time rest.now
step_of (part.Found byte time bytes rest) = step.Gives (record_at byte time bytes.now) rest.now

-- Converts the value of a field to the corresponding type of page_spec.
abbrev pub seen_value : FieldValue → Value
seen_value (seen.Count number) = value.Count number
seen_value (seen.Minus number) = value.Minus number
seen_value (seen.Letter letter) = value.Letter letter
seen_value (seen.Bytes bytes) = value.Bytes bytes.now
