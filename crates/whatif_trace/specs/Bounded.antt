-- Applies the limit on the number of events in a trace to the events that remain when killed tasks
-- are removed.
use Rattle.std.specs.Prelude.{List, length, nat_lt, if◌then◌else◌, Result, Ok, Err}
use Rattle.psi_base.specs.declared.event.Event.{Event}
use Rattle.psi_spec.specs.World.{most_events}
use Rattle.whatif_trace.specs.declared.removal.TooLarge.{TooLarge}

-- Returns `events`, or the error `TooLarge` with their number if there are more than 4,000,000
-- events.
abbrev pub bounded : List Event → Result (List Event) TooLarge
bounded events = if nat_lt most_events (length events) then Err (record { events = length events }) else Ok events
