-- Defines the invariant that holds after each event of an import, and the ranges of the values in a
-- line.
use Rattle.std.specs.Prelude.{◌≡◌, ℕ, ◌+◌, ◌≤◌, List, [], ◌∷◌, true, false, Option, IfSome, is_some}
use Rattle.psi_base.specs.declared.event.Event.{Event}
use Rattle.psi_base.specs.declared.event.How.{How}
use Rattle.psi_base.specs.Missing.{is_some_and}
use Rattle.psi_spec.specs.declared.machine.Task.{Task}
use Rattle.psi_spec.specs.Fields.{IsPid}
use Rattle.psi_spec.specs.Grammar.{One, verbs_of}
use Rattle.psi_spec.specs.Refusal.{AreLegal, is_wrong}
use Rattle.psi_spec.specs.Trace.{AllFit, AreKnown, EndsLast, IsCpuCount, limits_of}
use Rattle.psi_spec.specs.World.{Limits, Tasks, World, root, task_of}
use Rattle.psi_counts.specs.Legal.{IsLegalWorld}
use Rattle.import_spec.specs.declared.seen.Seen.{Seen}
use Rattle.import_spec.specs.declared.seen.Seen.TheVariants as seen
use Rattle.import_spec.specs.Events.{Reached, default_tick, latest_moment, most_imported}

-- The limits of an imported trace: its number of processors, and the latest time that the default
-- tick allows.
abbrev pub limits : ℕ → Limits
limits cpus = limits_of default_tick cpus

-- No task is in a memory stall.
abbrev pub IsCalm : Tasks → Type 0
IsCalm tasks = (q : ℕ) → is_some_and (task_of tasks q) (λ t. t.stalled) ≡ false

-- `Stands cpus at room w`: the invariant of a world in an import at the time `at` (ns), after which
-- at least `room` more events are allowed. The world is legal, no task is in a memory stall, the
-- root is the only group, and the trace hasn't ended. `at` isn't before the last event, and isn't
-- after the latest time that the default tick allows.
pub record Stands (cpus at room : ℕ) (w : World) : Type 0 where
  pub counted : IsCpuCount cpus
  pub legal : IsLegalWorld (limits cpus) w
  pub calm : IsCalm w.tasks
  pub groups : w.groups ≡ root ∷ []
  pub going : w.ended ≡ false
  pub forward : w.last ≤ at
  pub early : at ≤ latest_moment
  pub few : w.lines + room ≤ most_imported

-- `IsUnderWay cpus reached`: the invariant `Stands` holds for the world and the time of an import's
-- progress `reached`.
abbrev pub IsUnderWay : ℕ → Reached → Type 0
IsUnderWay cpus reached = Stands cpus reached.moment 0 reached.world

-- `Run cpus w events`: starting in the world `w`, the events are legal in this order. They can be
-- written as lines of a trace of version 1.
pub record Run (cpus : ℕ) (w : World) (events : List Event) : Type 0 where
  pub fit : AllFit events
  pub known : AreKnown (verbs_of One) events
  pub legal : AreLegal (limits cpus) w events

-- `Ends cpus w events`: the events satisfy `Run`, and exactly the last of them is the end of the
-- trace.
pub record Ends (cpus : ℕ) (w : World) (events : List Event) : Type 0 where
  pub run : Run cpus w events
  pub ends : EndsLast events

-- ---- the content of a line

-- `how` is a way in which a running task can leave its processor: any way except `idle`.
abbrev pub Leaves : How → Type 0
Leaves how = (o : Option (ℕ × Task)) → is_some o ≡ true → is_wrong how o ≡ false

-- `IsSeen seen`: the values in the content of a line are valid. The pid of the task that runs next,
-- wakes up or migrates is from 1 to 2^32 - 1. The way in which a task leaves isn't `idle`.
abbrev pub IsSeen : Seen → Type 0
IsSeen (seen.Switch cpu previous next how) = IfSome next IsPid × Leaves how
IsSeen (seen.Wakeup pid cpu) = IsPid pid
IsSeen (seen.Migration pid cpu) = IsPid pid
