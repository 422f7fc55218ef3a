-- Defines the contract of a player, a state machine that processes the events of a trace one by
-- one.
use Rattle.std.specs.Prelude.{◌≡◌, ◌<◌, List, [], ◌∷◌, ◌++◌, length, None, Some, Result, Ok, Err, ⊤}
use Rattle.psi_base.specs.declared.event.Event.{Event}
use Rattle.psi_base.specs.declared.event.Cause.{Cause}
use Rattle.psi_base.specs.declared.event.Fault.{Fault}
use Rattle.psi_base.specs.declared.event.Fault.TheVariants as fault
use Rattle.psi_spec.specs.World.{World, Limits, after, most_events}
use Rattle.psi_spec.specs.Refusal.{cause_of}

-- The type of a relation between the limits of a trace and a list of events. For a player, the
-- relation holds if the player has processed exactly these events.
abbrev pub Plays : Type 1
Plays = Limits → List Event → Type 0

-- `IsPlayed limits_now w limits events`: a player with the limits `limits_now` and the scheduler
-- state `w` has processed exactly `events`, from a trace with the limits `limits`.
pub record IsPlayed (limits_now : Limits) (w : World) (limits : Limits) (events : List Event) : Type 0 where
  pub limits_are : limits_now ≡ limits
  pub world : w ≡ after events

-- `PlayerTakes Before After event result`: the contract of a call that processes `event`. `Before`
-- holds for the events that were processed before the call, and `After` for all events that were
-- processed when the call returns. If the result is `Ok`, the event is legal and was processed, and
-- fewer than 4,000,000 events were processed before it. If the result is `Refused`, it contains the
-- first cause for rejecting the event. `NoMemory` is always allowed.
abbrev pub PlayerTakes : Plays → Plays → Event → Result (Unit {0}) (Fault Cause) → Type 0
PlayerTakes Before After event (Ok x) =
    (limits : Limits) (events : List Event) → Before limits events
    → (cause_of limits (after events) event ≡ None) × After limits (events ++ event ∷ []) × (length events < most_events)
PlayerTakes Before After event (Err (fault.Refused why)) =
    (limits : Limits) (events : List Event) → Before limits events → cause_of limits (after events) event ≡ Some why
PlayerTakes Before After event (Err (fault.NoMemory _)) = ⊤
