-- Laws that follow from the definitions of groups, of stall time and of traces.
use Rattle.std.specs.Prelude.{◌≡◌, ◌≢◌, ◌↔◌, ◌⊎◌, ℕ, ◌+◌, ◌-◌, ◌≤◌, ◌<◌, ◌==◌, ◌||◌, true, if◌then◌else◌, List, [], ◌∷◌, ◌++◌, length, slice_index, slice_index_or, Option, None, Some, Ok, Err}
use Rattle.psi_base.specs.declared.event.Cause.{Cause}
use Rattle.psi_base.specs.declared.event.Event.{Event}
use Rattle.psi_base.specs.declared.event.State.{State}
use Rattle.psi_spec.specs.declared.machine.GroupLife.{GroupLife}
use Rattle.psi_spec.specs.Fields.{IsAmong}
use Rattle.psi_spec.specs.Grammar.{Verb, Version}
use Rattle.psi_spec.specs.World.{World, Limits, root, first_world, after_event, after}
use Rattle.psi_spec.specs.Refusal.{AreLegal, cause_of}
use Rattle.psi_spec.specs.LegalGroups.{AreGroups, AreOlder, leads_to, new_parents}
use Rattle.psi_spec.specs.Stall.{holds, irq_from, irq_time, is_under, parents_of, stall}
use Rattle.psi_spec.specs.Trace.{Accepts, AllFit, AreKnown, IsAccepted, IsCpuCount, Trace, first_line, first_rest, limits_of, line_event, refused, rest_cause, text_of, trace_of}

-- ---- laws of groups

-- The list that contains only the root satisfies the invariant of groups.
abbrev pub AreGroupsFirst : Type 0
AreGroupsFirst = AreGroups (root ∷ [])

-- A legal event preserves the invariant of groups.
abbrev pub AreGroupsKept : Type 0
AreGroupsKept =
    (limits : Limits) (w : World) (event : Event) → cause_of limits w event ≡ None → AreGroups w.groups
    → AreGroups (after_event w event).groups

-- An event doesn't change the parents of existing groups: it only appends the parents of new
-- groups.
abbrev pub ParentsKept : Type 0
ParentsKept = (w : World) (event : Event) → parents_of (after_event w event).groups ≡ parents_of w.groups ++ new_parents w.groups event.act

-- Groups that are created later don't change the ancestors of earlier groups.
abbrev pub ClimbsKept : Type 0
ClimbsKept =
    (parents more : List (Option ℕ)) (low high : ℕ) → AreOlder parents → low < length parents
    → is_under (parents ++ more) low high ≡ is_under parents low high

-- Group `low` is group `high` or a descendant of it if and only if `low` equals `high`, or the
-- parent of `low` is `high` or a descendant of `high`. Groups are identified by their slots.
abbrev pub UnderByStep : Type 0
UnderByStep =
    (parents : List (Option ℕ)) (low high : ℕ) → AreOlder parents
    → is_under parents low high ≡ (low == high || leads_to parents (slice_index_or parents low None) high)

-- The slot of an ancestor is at most the slot of its descendant.
abbrev pub AncestorsAreOlder : Type 0
AncestorsAreOlder = (parents : List (Option ℕ)) (low high : ℕ) → AreOlder parents → is_under parents low high ≡ true → high ≤ low

-- Each group is the root or a descendant of the root.
abbrev pub RootIsAbove : Type 0
RootIsAbove = (groups : List GroupLife) (slot : ℕ) → AreGroups groups → slot < length groups → is_under (parents_of groups) slot 0 ≡ true

-- ---- laws of stall time and interrupt time

-- If an event is appended, the stall time up to `at` is the stall time up to the event, plus the
-- time from the event to `at` if the group is in the state after the event.
abbrev pub GrowsByEvent : Type 0
GrowsByEvent = (state : State) (cpu slot : ℕ) (events : List Event) (event : Event) (at : ℕ) →
    stall state cpu slot (events ++ event ∷ []) at ≡ stall state cpu slot events event.at
    + (if holds state cpu slot (after (events ++ event ∷ [])) then at - event.at else 0)

-- After the last event, stall time grows with time if the group is in the state after the event. If
-- the group isn't in the state, stall time is constant.
abbrev pub GrowsWithTime : Type 0
GrowsWithTime = (state : State) (cpu slot : ℕ) (events : List Event) (event : Event) (at later : ℕ) → event.at ≤ at → at ≤ later →
    stall state cpu slot (events ++ event ∷ []) later
    ≡ stall state cpu slot (events ++ event ∷ []) at + (if holds state cpu slot (after (events ++ event ∷ [])) then later - at else 0)

-- Appending an event to a trace increases a group's interrupt time by the time that the event adds
-- (`irq_from`).
abbrev pub IrqByEvent : Type 0
IrqByEvent = (cpu slot : ℕ) (events : List Event) (event : Event) →
    irq_time cpu slot (events ++ event ∷ []) ≡ irq_time cpu slot events + irq_from cpu slot (after events) (Some event)

-- ---- laws of traces

-- `bytes` is the text of an acceptable trace: the version and the verbs are accepted, and the
-- events are legal. This definition doesn't refer to a parser.
pub record IsTrace (accepts : Accepts) (bytes : List ℕ) (trace : Trace) : Type 0 where
  pub text : bytes ≡ text_of trace
  pub version : IsAmong trace.version accepts.versions
  pub cpus : IsCpuCount trace.cpus
  pub known : AreKnown (accepts.verbs trace.version) trace.events
  pub accepted : IsAccepted (limits_of accepts.tick trace.cpus) trace.events

-- The parser returns a trace if and only if the bytes are the text of this trace and the trace is
-- acceptable (`IsTrace`).
abbrev pub Accepted : Type 0
Accepted = (accepts : Accepts) (bytes : List ℕ) (trace : Trace) → (trace_of accepts bytes ≡ Ok trace) ↔ IsTrace accepts bytes trace

-- The bytes contain no newline (byte 10).
abbrev pub NoNewline : List ℕ → Type 0
NoNewline bytes = (k : ℕ) → k < length bytes → slice_index bytes k ≢ 10

-- The input `rest` begins with the line `line`, which is followed by a newline.
abbrev pub IsFirstLine : List ℕ → List ℕ → Type 0
IsFirstLine rest line = NoNewline line × ((suffix : List ℕ) × (rest ≡ line ++ 10 ∷ suffix))

-- The input `rest` is an incomplete last line: it contains no newline.
abbrev pub IsRest : List ℕ → Type 0
IsRest rest = NoNewline rest

-- `why` is the cause for which the first line of the input `rest` is rejected. The line is an event
-- line, or an incomplete last line. `w` is the world (the tasks and groups) before the line.
abbrev pub IsLineCause : List Verb → Limits → World → List ℕ → Cause → Type 0
IsLineCause verbs limits w rest why =
    ((line : List ℕ) × IsFirstLine rest line × (line_event verbs limits w line ≡ Err why)) ⊎ (IsRest rest × (rest_cause w rest ≡ Some why))

-- `why` is the cause for which the first line of the whole input is rejected. This line must be a
-- header.
abbrev pub IsFirstLineCause : List Version → List ℕ → Cause → Type 0
IsFirstLineCause versions rest why =
    ((line : List ℕ) × IsFirstLine rest line × (first_line versions line ≡ Err why)) ⊎ (IsRest rest × (first_rest rest ≡ why))

-- The first bad line comes after the header. The lines before it are a header and legal events, and
-- the line is rejected with cause `why` after those events.
pub record IsRefusedLater (accepts : Accepts) (bytes : List ℕ) (line : ℕ) (why : Cause) : Type 0 where
  pub version : Version
  pub cpus : ℕ
  pub prefix : List Event
  pub rest : List ℕ
  pub bytes_are : bytes ≡ text_of (record { version = version; cpus = cpus; events = prefix }) ++ rest
  pub version_is : IsAmong version accepts.versions
  pub counted : IsCpuCount cpus
  pub fit : AllFit prefix
  pub known : AreKnown (accepts.verbs version) prefix
  pub legal : AreLegal (limits_of accepts.tick cpus) first_world prefix
  pub line_is : line ≡ length prefix + 2
  pub has : IsLineCause (accepts.verbs version) (limits_of accepts.tick cpus) (after prefix) rest why

-- `bytes` is rejected at line number `line` with cause `why`. This definition doesn't refer to a
-- parser.
abbrev pub IsRefused : Accepts → List ℕ → ℕ → Cause → Type 0
IsRefused accepts bytes line why = ((line ≡ 1) × IsFirstLineCause accepts.versions bytes why) ⊎ IsRefusedLater accepts bytes line why

-- The parser reports a line number and a cause if and only if that line is the first bad line of
-- the bytes, and that cause is the first that applies to the line.
abbrev pub FirstRefused : Type 0
FirstRefused =
    (accepts : Accepts) (bytes : List ℕ) (line : ℕ) (why : Cause)
    → (trace_of accepts bytes ≡ Err (refused line why)) ↔ IsRefused accepts bytes line why
