-- Defines the list of the events that a trace generator hasn't returned yet, and the invariant of a
-- generator.
use Rattle.std.specs.Prelude.{◌≡◌, ℕ, ◌+◌, List, [], ◌++◌, Bool, if◌then◌else◌}
use Rattle.psi_base.specs.declared.event.Act.{Act}
use Rattle.psi_base.specs.declared.event.Event.{Event}
use Rattle.psi_spec.specs.World.{World}
use Rattle.run_spec.specs.declared.command.Shape.{Shape}
use Rattle.run_spec.specs.Generated.{RandomEvent, random_events}
use Rattle.run_spec.specs.LegalCommand.{IsShape}
use Rattle.task_table.specs.Stands.{TableView}
use Rattle.trace_gen.specs.Generating.{IsGenerating, limits_in}

-- `random_act a state`: the random act `a`, and the state of the random number generator after the
-- act was drawn. An act is an event without its time.
abbrev pub random_act : Act → ℕ → RandomEvent
random_act a state = record { act = a; state = state }

-- `events_left shape first w state left ended`: the remaining events of a generator. These are the
-- events in `first`, then `left` random events, and the `end` event. The random events start from
-- the world `w` (the tasks and groups) and the state `state` of the random number generator. If the
-- `end` event was already returned (`ended`), only `first` remains.
abbrev pub events_left : Shape → List Event → World → ℕ → ℕ → Bool → List Event
events_left shape first w state left ended =
    first ++ (if ended then [] else random_events shape left w state)

-- `IsGenerator shape table left`: the invariant of a generator. The numbers of its shape are in
-- range, its table of tasks has the limits of the shape, and `left` of the shape's random events
-- remain.
pub record IsGenerator (shape : Shape) (table : TableView) (left : ℕ) : Type 0 where
  pub shaped : IsShape shape
  pub limits : table.limits ≡ limits_in shape
  pub count : ℕ
  pub all : count + left ≡ shape.events
  pub world : IsGenerating shape count table.world
