-- Relates the result of searching for the next event to the definitions of page_spec.
use Rattle.std.specs.Prelude.{◌≡◌, List, [], ◌∷◌, Option, None, Some, Result, Ok, Err}
use Rattle.page_spec.specs.declared.cause.ByteFault.{ByteFault}
use Rattle.page_spec.specs.declared.layout.Layout.{Layout}
use Rattle.page_spec.specs.Fields.{values_of}
use Rattle.page_spec.specs.Items.{Item, Reading, after_items, events_of, faulty, nothing}
use Rattle.page_spec.specs.Items.{Item as item, Reading as reading}
use Rattle.page_spec.specs.Records.{Record}
use Rattle.page_events.specs.declared.event.Event.{Event}
use Rattle.page_events.specs.declared.event.Outcome.{Outcome}
use Rattle.page_events.specs.declared.event.Outcome.TheVariants as outcome

-- Converts the content of a record to the corresponding type of page_spec.
abbrev pub reading_seen : Outcome → Reading
reading_seen outcome.Unread = reading.Unread
reading_seen outcome.Short = reading.Short
reading_seen (outcome.Read kind) = reading.Read kind.now

-- Converts an event to the corresponding type of page_spec: the time (ns), the name of the kind,
-- and the values of the fields.
abbrev pub item_of : Layout → Event → Item
item_of layout event = item.Event event.time event.kind.now.name (values_of layout.letters event.bytes.now event.kind.now.fields)

-- `FindsEvent layout old new result`: `result` is correct for a search for the next event. `old`
-- and `new` are the records before and after the search. If an event is found, the events of `old`
-- are this event and the events of `new`. If no event is found, `old` has no events. If the result
-- is an error, `old` has no event before the record that is too short, and the error is at this
-- record.
abbrev pub FindsEvent : Layout → List Record → List Record → Result (Option Event) ByteFault → Type 0
FindsEvent layout old new (Ok None) = events_of layout old ≡ nothing
FindsEvent layout old new (Ok (Some event)) = events_of layout old ≡ after_items (item_of layout event ∷ []) (events_of layout new)
FindsEvent layout old new (Err why) = events_of layout old ≡ faulty why
