use Rattle.std.proofs.Common.{◌≡◌, length}
use Rattle.convert_table.specs.Table.{fields_of}
use Rattle.convert_table.proofs.Prefixed.{prefixed}
use Rattle.convert_table.proofs.row.fields_of.Given as goal

abbrev pub invariant-words : goal.invariant-words
invariant-words l = record { fields : prefixed l.fields.items (fields_of l.words) ≡ fields_of l.fn.words }

abbrev pub decreases-words : goal.decreases-words
decreases-words l = length l.words
