-- Defines *deeds*, the compact form in which an import stores acts, and the events that deeds
-- represent. An act is an event without its time.
use Rattle.std.specs.Prelude.{◌≡◌, ℕ, List, ◌++◌, map, OnOk, Result}
use Rattle.psi_base.specs.declared.event.Act.{Act}
use Rattle.psi_base.specs.declared.event.Act.TheVariants as act
use Rattle.psi_base.specs.declared.event.Event.{Event}
use Rattle.import_spec.specs.Events.{made}
use Rattle.psi_spec.specs.World.{events_at}
use Rattle.ftrace_import.specs.declared.deeds.Deed.{Deed}
use Rattle.ftrace_import.specs.declared.deeds.Deed.TheVariants.{Fork, Migrate, Switch, Wake}
use Rattle.ftrace_import.specs.declared.deeds.Kept.{Kept}

-- Returns the act that a deed (an act in compact form) represents.
abbrev pub act_by : Deed → Act
act_by (Fork pid cpu) = made pid cpu
act_by (Wake pid cpu) = act.Wake pid cpu
act_by (Switch cpu next how) = act.Switch cpu next how
act_by (Migrate pid cpu) = act.Migrate pid cpu

-- Returns the event that `kept` represents.
abbrev pub event_by : Kept → Event
event_by kept = record { at = kept.at; act = act_by kept.deed }

-- Returns the events that the entries of `kept` represent, in order.
abbrev pub events_by : List Kept → List Event
events_by kept = map event_by kept

-- Returns the acts that the entries of `kept` represent, in order.
abbrev pub acts_in : List Kept → List Act
acts_in kept = map (λ (one : Kept). act_by one.deed) kept

-- `Adds old new result at acts`: unless memory ran out, events with these acts at the time `at`
-- (ns) were appended to the stored events.
abbrev pub Adds : {T E : Type 0} → List Kept → List Kept → Result T E → ℕ → List Act → Type 0
Adds old new result at acts = OnOk result (events_by new ≡ events_by old ++ events_at at acts)
