-- Laws about the evaluations of a trace. They relate each tick to the previous tick.
use Rattle.std.specs.Prelude.{◌≡◌, ℕ, ◌+◌, ◌<◌, List, [], ◌∷◌, true, false}
use Rattle.psi_spec.specs.Trace.{IsAccepted, Trace, limits_of}
use Rattle.pressure_spec.specs.Ticks.{is_evaluation}
use Rattle.ruleset_json.specs.declared.types.Rule.{Rule}
use Rattle.kill_spec.specs.LegalReadings.{AreReadings}
use Rattle.kill_spec.specs.Kills.{kills}
use Rattle.run_spec.specs.Replay.{Timing, kills_in, lives_of}
use Rattle.replay_rules.specs.Judged.{read_at, readings_of}

-- A tick at which the rules aren't evaluated adds no reading to the list of readings.
abbrev pub ReadingsStay : Type 0
ReadingsStay = (trace : Trace) (timing : Timing) (i : ℕ) →
    is_evaluation timing.interval timing.length (i + 1) ≡ false →
    readings_of trace timing (i + 1) ≡ readings_of trace timing i

-- A tick at which the rules are evaluated adds one reading to the list of readings.
abbrev pub OneReadingMore : Type 0
OneReadingMore = (trace : Trace) (timing : Timing) (i : ℕ) →
    is_evaluation timing.interval timing.length (i + 1) ≡ true →
    readings_of trace timing (i + 1) ≡ read_at trace timing (i + 1) ∷ readings_of trace timing i

-- A tick at which the rules aren't evaluated has no kills.
abbrev pub NoKillsBetween : Type 0
NoKillsBetween = (trace : Trace) (timing : Timing) (rules : List Rule) (i : ℕ) →
    is_evaluation timing.interval timing.length i ≡ false → kills_in trace timing rules i ≡ []

-- The kills at an evaluation depend only on the rules, the groups, the reading and the previous
-- readings: kill_spec defines them.
abbrev pub KillsAtReading : Type 0
KillsAtReading = (trace : Trace) (timing : Timing) (rules : List Rule) (i : ℕ) →
    is_evaluation timing.interval timing.length (i + 1) ≡ true →
    kills_in trace timing rules (i + 1)
    ≡ kills (lives_of trace) rules (read_at trace timing (i + 1)) (readings_of trace timing i)

-- Without rules there are no kills.
abbrev pub NoneWithoutRules : Type 0
NoneWithoutRules = (trace : Trace) (timing : Timing) (i : ℕ) → kills_in trace timing [] i ≡ []

-- The readings of an accepted trace are well formed: each has the live groups in the order of their
-- paths, all values are in range, and each reading is later than the previous readings.
abbrev pub ReadingsAreReadings : Type 0
ReadingsAreReadings = (trace : Trace) (timing : Timing) (i : ℕ) →
    IsAccepted (limits_of timing.length trace.cpus) trace.events → 0 < timing.length →
    AreReadings (lives_of trace) (readings_of trace timing i)
