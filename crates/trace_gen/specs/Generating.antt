-- Defines the invariant while a trace is generated, and the laws of generated traces. run_spec
-- defines the generated trace of a *shape*, which is a seed and the numbers of processors, groups
-- and events.
use Rattle.std.specs.Prelude.{◌≡◌, ℕ, ◌+◌, ◌*◌, ◌≤◌, ◌<◌, List, [], ◌∷◌, length, map}
use Rattle.std.specs.List.{range_with_len}
use Rattle.psi_base.specs.declared.event.Event.{Event}
use Rattle.std.specs.Prelude.{false, IfSome, IsSome}
use Rattle.psi_spec.specs.Grammar.{One}
use Rattle.psi_spec.specs.Trace.{accepts_with, limits_of}
use Rattle.psi_spec.specs.Laws.{IsTrace}
use Rattle.psi_spec.specs.World.{Limits, Tasks, World, task_of}
use Rattle.run_spec.specs.declared.command.Shape.{Shape}
use Rattle.run_spec.specs.Generated.{at_start, gen_text, generated, made_group, task_count}
use Rattle.kill_spec.specs.Detectors.{of_seconds}
use Rattle.run_spec.specs.LegalCommand.{IsShape}

-- The number of events that create the groups and tasks of a shape.
abbrev pub first_count : Shape → ℕ
first_count shape = shape.groups + task_count shape

-- The number of all events of the generated trace of a shape, including the `end` event.
abbrev pub event_count : Shape → ℕ
event_count shape = first_count shape + shape.events + 1

-- The limits of the generated trace of a shape: its number of processors, and the latest time that
-- a trace with the default tick of 2 s may have.
abbrev pub limits_in : Shape → Limits
limits_in shape = limits_of (of_seconds 2) shape.cpus

-- `made_groups shape number`: the events that create the groups with numbers below `number`.
abbrev pub made_groups : Shape → ℕ → List Event
made_groups shape number = map (λ i. at_start (made_group i)) (range_with_len 0 number)

-- ---- the invariant while a trace is generated

-- `AreLive shape tasks`: every task of the shape is live, and every live task is on a processor of
-- the shape.
pub record AreLive (shape : Shape) (tasks : Tasks) : Type 0 where
  pub live : (pid : ℕ) → 1 ≤ pid → pid ≤ task_count shape → IsSome (task_of tasks pid)
  pub within : (pid : ℕ) → IfSome (task_of tasks pid) (λ task. task.cpu.0 < shape.cpus)

-- `IsGenerating shape count w`: the invariant of the world `w` (the tasks and groups) after the
-- events that create the groups and tasks of a shape, and `count` more events. All tasks of the
-- shape are live, and `w.lines` counts all events so far. The time of the last event is at most
-- `count` times 2 ms, and the trace hasn't ended.
pub record IsGenerating (shape : Shape) (count : ℕ) (w : World) : Type 0 where
  pub tasks : AreLive shape w.tasks
  pub lines : w.lines ≡ first_count shape + count
  pub last : w.last ≤ 2000000 * count
  pub going : w.ended ≡ false

-- ---- laws

-- The law of generated texts: each generated text is the text of the generated trace. This trace
-- has version 1 and is accepted with the default tick.
abbrev pub GeneratedIsTrace : Type 0
GeneratedIsTrace = (shape : Shape) → IsShape shape
    → IsTrace (accepts_with (One ∷ []) (of_seconds 2)) (gen_text shape) (generated shape)

-- The law of the number of events: a generated trace has one event for each group and each task,
-- then the requested number of further events, and the end.
abbrev pub GeneratedCount : Type 0
GeneratedCount = (shape : Shape) → length (generated shape).events ≡ event_count shape
