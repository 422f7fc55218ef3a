-- States laws of players. A player is a state machine that processes the events of a trace.
use Rattle.std.specs.Prelude.{◌≡◌, List, Ok, Err}
use Rattle.psi_base.specs.declared.event.Event.{Event}
use Rattle.psi_base.specs.declared.event.Cause.{Cause}
use Rattle.psi_base.specs.declared.event.Fault.TheVariants as fault
use Rattle.psi_spec.specs.World.{Limits}
use Rattle.trace_player.specs.Playing.{PlayerTakes, Plays}

-- A player never both accepts and rejects the same event, whatever events it has processed before.
abbrev pub TakesOrRefuses : Plays → Plays → Event → Type 0
TakesOrRefuses Before After event = (limits : Limits) (events : List Event) (x : Unit {0}) (why : Cause) → Before limits events
    → PlayerTakes Before After event (Ok x) → PlayerTakes Before After event (Err (fault.Refused why)) → ⊥

-- A player rejects an event for exactly one cause: if it can reject the event for the causes `one`
-- and `other`, they are equal.
abbrev pub RefusesForOne : Plays → Plays → Event → Type 0
RefusesForOne Before After event = (limits : Limits) (events : List Event) (one other : Cause) → Before limits events
    → PlayerTakes Before After event (Err (fault.Refused one)) → PlayerTakes Before After event (Err (fault.Refused other))
    → one ≡ other
