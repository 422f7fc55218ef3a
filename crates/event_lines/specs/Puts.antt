-- Defines what a call that writes the lines of a page appends to a sink. An item of a page is an
-- event or a number of lost events. Each item has one line.
use Rattle.std.specs.Prelude.{◌≡◌, ℕ, ◌≤◌, List, Option, None, Some, Result, Ok, Err, IsErrOf}
use Rattle.std.specs.Io.KnownBytes.{Appends}
use Rattle.outside.specs.Outside.{AppendsPrefix, Increased}
use Rattle.page_spec.specs.declared.cause.ByteFault.{ByteFault}
use Rattle.page_spec.specs.Items.{Found}
use Rattle.page_spec.specs.Lines.{items_text}
use Rattle.event_lines.specs.declared.page.PageStop.{PageStop}
use Rattle.event_lines.specs.declared.page.PageStop.TheVariants.{Refused, WriteFault}

-- `PutsFound old new cpu found result`: the effect of writing the lines of the items in `found` for
-- processor `cpu`. `old` and `new` are the sink's content before and after the call. If `result` is
-- Ok, all lines were appended and `found` has no error. If it is Refused, all lines before the
-- error were appended. If it is WriteFault, a prefix of the lines was appended.
abbrev pub PutsFound : {T : Type 0} → Option (List ℕ) → Option (List ℕ) → ℕ → Found ByteFault → Result T PageStop → Type 0
PutsFound old new cpu found (Ok done) = (found.fault ≡ None) × Appends old new (items_text cpu found.items)
PutsFound old new cpu found (Err (Refused why)) = (found.fault ≡ Some why) × Appends old new (items_text cpu found.items)
PutsFound old new cpu found (Err WriteFault) = AppendsPrefix old new (items_text cpu found.items)

-- `HasWriteCause before now result`: the number of failed writes was `before` a call and is `now`
-- after it. It increased if the result is WriteFault, and is unchanged otherwise.
pub record HasWriteCause {T : Type 0} (before now : ℕ) (result : Result T PageStop) : Type 0 where
  pub later : before ≤ now
  pub failed : IsErrOf result WriteFault → Increased before now
  pub same : ¬ IsErrOf result WriteFault → now ≡ before
