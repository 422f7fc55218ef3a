-- Collects values from the events of a trace, such as the triggers that the events set. A function
-- computes the values from an event and from the world (the tasks and groups) before the event.
use Rattle.std.specs.Prelude.{ℕ, List, [], ◌∷◌, ◌++◌, unwrap_or}
use Rattle.psi_base.specs.declared.event.Slot.{Slot}
use Rattle.psi_base.specs.declared.event.Act.{Act}
use Rattle.psi_base.specs.declared.event.Act.TheVariants as act
use Rattle.psi_base.specs.declared.event.Event.{Event}
use Rattle.psi_base.specs.declared.event.TriggerSpec.{TriggerSpec}
use Rattle.psi_spec.specs.declared.machine.GroupLife.{GroupLife}
use Rattle.psi_spec.specs.World.{World, after_event, first_world, slot_of}

-- The values that `shows` computes from each event and the world before the event, in the order of
-- the events. `w` is the world (the tasks and groups) before the first event.
abbrev pub values_from : {A : Type 0} → (World → Event → List A) → World → List Event → List A
values_from shows w [] = []
values_from shows w (event ∷ events) = shows w event ++ values_from shows (after_event w event) events

-- The slot of the live group with path `path`, or the root's slot if there is no such group.
abbrev pub slot_named : List GroupLife → List ℕ → Slot
slot_named groups path = record { 0 = unwrap_or (slot_of groups path) 0 }

-- ---- the triggers of a trace

-- The trigger that an event at time `at` (ns) sets, as a list. The list is empty if the event sets
-- no trigger.
abbrev pub trigger_by : ℕ → List GroupLife → Act → List TriggerSpec
trigger_by at groups (act.Trigger path res level threshold_us window_us) =
    record { at = at; slot = slot_named groups path; res = res; level = level; threshold_us = threshold_us; window_us = window_us } ∷ []
trigger_by at groups _ = []

-- The triggers that the events of a trace set, in order.
abbrev pub triggers_of : List Event → List TriggerSpec
triggers_of events = values_from (λ w event. trigger_by event.at w.groups event.act) first_world events
