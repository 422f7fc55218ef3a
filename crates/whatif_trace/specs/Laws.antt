-- States laws about a trace from which the tasks of a killed group are removed.
use Rattle.std.specs.Prelude.{◌≡◌, ℕ, ◌+◌, ◌<◌, ◌≤◌, List, ◌++◌, length, true, None}
use Rattle.psi_base.specs.declared.event.Event.{Event}
use Rattle.psi_spec.specs.World.{Limits, after, after_from, most_cpus, most_events, task_of, up_to}
use Rattle.psi_spec.specs.Trace.{IsAccepted}
use Rattle.whatif_spec.specs.Without.{suffix, exits_from, is_pid_among, members, rest_without, without}
use Rattle.whatif_trace.specs.Rest.{IsWithout, dead_later_on}

-- If a trace is accepted, the trace without the tasks of a killed group is also accepted, unless it
-- has too many events.
abbrev pub WithoutIsAccepted : Type 0
WithoutIsAccepted =
    (limits : Limits) (events : List Event) (at victim : ℕ) → limits.cpus ≤ most_cpus → IsAccepted limits events
    → length (without events at victim) ≤ most_events → IsAccepted limits (without events at victim)

-- For a kill before the end of an accepted trace, if not too many events remain: after the events
-- by which the killed group's tasks exit, none of these tasks is live.
abbrev pub ExitsLeaveNone : Type 0
ExitsLeaveNone =
    (limits : Limits) (events : List Event) (at victim : ℕ) → IsAccepted limits events → at < (after events).last
    → length (without events at victim) ≤ most_events →
    (pid : ℕ) → is_pid_among (members (after (up_to events at)) victim) pid ≡ true →
    task_of (after (up_to events at ++ exits_from (at + 1) (after (up_to events at))
    (members (after (up_to events at)) victim))).tasks pid ≡ None

-- Compares the scheduler states (`World`) of the new and the original trace, after each prefix of
-- the events that follow the exits. The state of the new trace is the state of the original trace
-- without the tasks that are dead after that prefix. Only the number of lines and the time of the
-- last event may differ. The kill must be before the end of an accepted trace, and the result must
-- not have too many events.
abbrev pub WorldsWithout : Type 0
WorldsWithout =
    (limits : Limits) (events : List Event) (at victim : ℕ) → IsAccepted limits events → at < (after events).last
    → length (without events at victim) ≤ most_events →
    (some more : List Event) → suffix events at ≡ some ++ more →
    IsWithout (dead_later_on (members (after (up_to events at)) victim) (after (up_to events at)) some) (after (up_to events at ++ some))
    (after_from (after (up_to events at ++ exits_from (at + 1) (after (up_to events at)) (members (after (up_to events at)) victim)))
    (rest_without (members (after (up_to events at)) victim) (after (up_to events at)) some))
