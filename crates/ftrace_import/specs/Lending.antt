-- Defines the state and the invariant of the iterator that lends the events of an import one by
-- one. The state is the current event and the list of remaining events.
use Rattle.std.specs.Prelude.{◌≡◌, ℕ, ◌+◌, ◌≤◌, List, [], ◌∷◌, length, drop, Bool, true, false}
use Rattle.psi_base.specs.declared.event.Act.{Act}
use Rattle.psi_base.specs.declared.event.Cpu.{Cpu}
use Rattle.psi_base.specs.declared.event.Event.{Event}
use Rattle.psi_base.specs.declared.event.Pid.{Pid}
use Rattle.import_spec.specs.Events.{made}
use Rattle.ftrace_import.specs.declared.taking.Gathering.{Gathering}
use Rattle.ftrace_import.specs.Gathers.{whole_events}

-- The state of the iterator: the current event (meaningless before the first call), and the
-- remaining events, including the end of the trace.
pub record Lending : Type 0 where
  pub event : Event
  pub left : List Event

-- `shown makes making other`: the current event. The iterator stores an event that creates a task
-- in `making`, and any other event in `other`. `makes` says which of the two is current.
abbrev pub shown : Bool → Event → Event → Event
shown true making other = making
shown false making other = other

-- `lending g at makes making other`: the state of the iterator after `at` of the events of the
-- import `g` were lent. The current event is `making` if `makes` is true, and `other` if it is
-- false.
abbrev pub lending : Gathering → ℕ → Bool → Event → Event → Lending
lending g at makes making other = record { event = shown makes making other; left = drop at (whole_events g) }

-- `GoesOn old new result`: the effect of advancing. If `result` is true, the first remaining event
-- becomes the current event. If it is false, no event remains.
abbrev pub GoesOn : Lending → Lending → Bool → Type 0
GoesOn old new true = old.left ≡ new.event ∷ new.left
GoesOn old new false = (old.left ≡ []) × (new.left ≡ [])

-- The act creates a task in the root group.
abbrev pub IsMade : Act → Type 0
IsMade what = (pid : Pid) × (cpu : Cpu) × (what ≡ made pid cpu)

-- `IsLending g at making`: the invariant of the iterator. The number of lent events `at` is at most
-- the number of all events, and `making` creates a task in the root group.
pub record IsLending (g : Gathering) (at : ℕ) (making : Event) : Type 0 where
  pub place : at ≤ length g.kept.items + 1
  pub makes : IsMade making.act
