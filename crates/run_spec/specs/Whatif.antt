-- Defines the trace that `whatif` replays. Each round of `whatif` removes the victim of one kill
-- from the trace. The trace that remains after all rounds is replayed.
use Rattle.std.specs.Prelude.{ℕ, zero, suc, List, length, nat_lt, if◌then◌else◌, Option, None, Some, Result, Ok, Err, slice_get}
use Rattle.std.specs.List.{flat_map, range_with_len}
use Rattle.psi_spec.specs.World.{most_events}
use Rattle.psi_spec.specs.Trace.{Trace}
use Rattle.ruleset_json.specs.declared.types.Rule.{Rule}
use Rattle.kill_spec.specs.declared.kill.Kill.{Kill}
use Rattle.whatif_spec.specs.Without.{trace_without}
use Rattle.run_spec.specs.Replay.{Timing, kills_in, tick_count}

-- The maximum number of rounds. Each round removes the victim of one kill.
abbrev pub most_rounds : ℕ
most_rounds = 64

-- `kills_by trace timing rules count`: the kills at the first `count` ticks, in the order of ticks,
-- rulesets and actions.
abbrev pub kills_by : Trace → Timing → List Rule → ℕ → List Kill
kills_by trace timing rules count = flat_map (kills_in trace timing rules) (range_with_len 1 count)

-- `all_kills trace timing rules`: all kills in a replay of `trace`, in order.
abbrev pub all_kills : Trace → Timing → List Rule → List Kill
all_kills trace timing rules = kills_by trace timing rules (tick_count trace timing)

-- `without_kill trace kill`: the trace in which the tasks of the killed group and of its
-- descendants exit right after the time of the kill. The trace is unchanged if `kill` is `None`.
abbrev pub without_kill : Trace → Option Kill → Trace
without_kill trace None = trace
without_kill trace (Some kill) = trace_without trace kill.at kill.victim.0

-- `bounded_trace trace`: the trace if it has at most 4,000,000 events. Otherwise the result is
-- `Err` with the number of its events.
abbrev pub bounded_trace : Trace → Result Trace ℕ
bounded_trace trace = if nat_lt most_events (length trace.events) then Err (length trace.events) else Ok trace

-- `round timing rules number trace`: one round of `whatif`, which removes the victim of kill number
-- `number` (from 0) from the trace. The trace is unchanged if there is no such kill. The result is
-- `Err` with the number of events if too many events remain.
abbrev pub round : Timing → List Rule → ℕ → Trace → Result Trace ℕ
round timing rules number trace = bounded_trace (without_kill trace (slice_get (all_kills trace timing rules) number))

-- `then_round timing rules number left`: round number `number` (from 0), applied to the result of
-- the earlier rounds. If an earlier round ended with `Err`, the result is the same `Err`.
abbrev pub then_round : Timing → List Rule → ℕ → Result Trace ℕ → Result Trace ℕ
then_round timing rules number (Err events) = Err events
then_round timing rules number (Ok trace) = round timing rules number trace

-- `after_rounds trace timing rules count`: the trace after `count` rounds. The first round removes
-- the victim of the first kill. The second round removes the victim of the second kill in the
-- remaining trace, and so on. If a round leaves more events than a trace may have, the result is
-- `Err` with that number of events.
unfoldable pub after_rounds : Trace → Timing → List Rule → ℕ → Result Trace ℕ
after_rounds trace timing rules zero = Ok trace
after_rounds trace timing rules (suc count) = then_round timing rules count (after_rounds trace timing rules count)

-- `last_trace trace timing rules`: the trace after all 64 rounds, or `Err` with the number of
-- events if a round left too many events.
abbrev pub last_trace : Trace → Timing → List Rule → Result Trace ℕ
last_trace trace timing rules = after_rounds trace timing rules most_rounds
