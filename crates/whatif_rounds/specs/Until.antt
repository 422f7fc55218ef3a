-- States that removing the tasks of a killed group from a trace doesn't change what a replay prints
-- up to the kill.
use Rattle.std.specs.Prelude.{◌≡◌, ℕ, suc, ◌≤◌, List, length, Some, Ok, slice_get}
use Rattle.psi_spec.specs.World.{Limits, most_events}
use Rattle.psi_spec.specs.Trace.{IsAccepted, Trace}
use Rattle.pressure_spec.specs.Ticks.{tick_moment}
use Rattle.ruleset_json.specs.declared.types.Rule.{Rule}
use Rattle.kill_spec.specs.declared.kill.Kill.{Kill}
use Rattle.run_spec.specs.Replay.{Beside, Timing, tick_count, tick_text, ticks_text}
use Rattle.run_spec.specs.Whatif.{after_rounds, all_kills}
use Rattle.whatif_spec.specs.Without.{trace_without, without}

-- The trace without the killed group's tasks has as many ticks as the original trace. Each tick up
-- to and including the time of the kill prints the same lines.
abbrev pub SameUntilKill : Type 0
SameUntilKill =
    (limits : Limits) (trace : Trace) (timing : Timing) (beside : Beside) (at victim : ℕ) → IsAccepted limits trace.events
    → length (without trace.events at victim) ≤ most_events →
    (tick_count (trace_without trace at victim) timing ≡ tick_count trace timing)
    × ((i : ℕ) → tick_moment timing.length i ≤ at
    → tick_text (trace_without trace at victim) timing beside i ≡ tick_text trace timing beside i)

-- A round removes the victims of the kill with the index `number` from the result of the previous
-- rounds. The round doesn't change the number of ticks. Each tick up to and including the tick of
-- the kill prints the same lines as before the round.
abbrev pub SameUntilRound : Type 0
SameUntilRound = (limits : Limits) (trace left next : Trace) (timing : Timing) (rules : List Rule) (beside : Beside) (number : ℕ)
    (kill : Kill) → IsAccepted limits left.events → after_rounds trace timing rules number ≡ Ok left
    → slice_get (all_kills left timing rules) number ≡ Some kill → after_rounds trace timing rules (suc number) ≡ Ok next
    → (tick_count next timing ≡ tick_count left timing)
    × ((count : ℕ) → tick_moment timing.length count ≤ kill.at
    → ticks_text next timing beside count ≡ ticks_text left timing beside count)
