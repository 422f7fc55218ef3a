-- Defines the state of a judge after some ticks of a replay. A judge decides at each tick which
-- groups the rules kill.
use Rattle.std.specs.Prelude.{◌≡◌, ℕ, ◌+◌, List, [], Bool, if◌then◌else◌}
use Rattle.std.specs.Prelude.{Option, None, Some}
use Rattle.psi_base.specs.declared.event.Slot.{Slot}
use Rattle.psi_spec.specs.LegalGroups.{IsPathOrder}
use Rattle.psi_spec.specs.Trace.{Trace}
use Rattle.pressure_spec.specs.Ticks.{tick_moment}
use Rattle.ruleset_json.specs.declared.types.Rule.{Rule}
use Rattle.ruleset_json.specs.declared.types.Rules.{Rules}
use Rattle.kill_spec.specs.declared.kill.Kill.{Kill}
use Rattle.kill_spec.specs.Readings.{Reading}
use Rattle.kill_spec.specs.Evaluations.{reading_at, readings_until}
use Rattle.run_spec.specs.Replay.{Timing, kills_in, lives_of}
use Rattle.proc_plan.specs.Plans.{PlansView}
use Rattle.tick_engine.specs.Engine.{EngineView}
use Rattle.detectors.specs.Views.{ReadingView}
use Rattle.detectors.specs.Stands.{newest_moment}
use Rattle.kill_engine.specs.Killers.{KillerView, Represents}
use Rattle.side_watch.specs.Watch.{HasFollowed, SideView}
use Rattle.group_tree.specs.Tree.{numbers_of}
use Rattle.replay_rules.specs.Planned.{HasTicked, IsPlanned}

-- ---- the state of a judge

-- An evaluator of rules. `killer` has the state of the rules, and `reading` has the values of the
-- current evaluation. `watch` has the latest values of memory, preferences and tasks that the trace
-- reports.
pub record EvaluatorView : Type 0 where
  pub killer : KillerView
  pub watch : SideView
  pub reading : ReadingView

-- A judge: the time between evaluations (ns), an evaluator if there are rules, and whether the
-- rules were evaluated at the last tick.
pub record JudgeView : Type 0 where
  pub interval : ℕ
  pub evaluator : Option EvaluatorView
  pub evaluated : Bool

-- Builds a judge from its parts.
abbrev pub judge_of : ℕ → Option EvaluatorView → Bool → JudgeView
judge_of interval evaluator evaluated = record {
  interval = interval;
  evaluator = evaluator;
  evaluated = evaluated;
}

-- The kills of the last evaluation. Empty without an evaluator.
abbrev pub known_last : Option EvaluatorView → List Kill
known_last None = []
known_last (Some evaluator) = evaluator.killer.found

-- The kills of the judge at the last tick. Empty if the rules weren't evaluated at that tick.
abbrev pub judge_kills : JudgeView → List Kill
judge_kills judge = if judge.evaluated then known_last judge.evaluator else []

-- The rulesets of a rules file. Empty if there is no rules file.
abbrev pub rules_of_options : Option Rules → List Rule
rules_of_options None = []
rules_of_options (Some maybe_rules) = maybe_rules.rules

-- ---- which state follows from the trace

-- The reading of the trace at tick `i`: the time, the host's memory and the values of the live
-- groups.
abbrev pub read_at : Trace → Timing → ℕ → Reading
read_at trace timing i = reading_at trace.cpus trace.events timing.length i

-- The readings at the evaluations among the first `i` ticks of the trace, newest first.
abbrev pub readings_of : Trace → Timing → ℕ → List Reading
readings_of trace timing i = readings_until trace.cpus trace.events timing.length timing.interval i

-- `HasRead evaluator trace rules readings` holds if the evaluator of `rules` has taken `readings`
-- (newest first) of the trace. The state of its rules is the state after these readings. Its values
-- of memory, preferences and tasks are the values after all events up to the newest reading.
pub record HasRead (evaluator : EvaluatorView) (trace : Trace) (rules : List Rule)
    (readings : List Reading) : Type 0 where
  pub killer : Represents evaluator.killer (lives_of trace) rules readings
  pub watch : HasFollowed trace.events (newest_moment readings) evaluator.watch
  pub lives : evaluator.reading.lives ≡ lives_of trace

-- `HasReadAll` holds if the evaluator has taken `readings` (`HasRead`), or if there is no evaluator
-- and the list of rules is empty.
abbrev pub HasReadAll : Option EvaluatorView → Trace → List Rule → List Reading → Type 0
HasReadAll None trace rules readings = rules ≡ []
HasReadAll (Some evaluator) trace rules readings = HasRead evaluator trace rules readings

-- The judge has taken the first `i` ticks of the trace. The time between evaluations is the
-- interval of `timing`, the readings of all evaluations among these ticks were taken, and the kills
-- are the kills at tick `i`.
pub record HasJudged (judge : JudgeView) (trace : Trace) (timing : Timing) (rules : List Rule) (i : ℕ)
    : Type 0 where
  pub interval : judge.interval ≡ timing.interval
  pub read : HasReadAll judge.evaluator trace rules (readings_of trace timing i)
  pub kills : judge_kills judge ≡ kills_in trace timing rules i

-- `Rests old new`: the effect of a tick without an evaluation on a judge. The evaluator doesn't
-- change, and there are no kills.
pub record Rests (old new : JudgeView) : Type 0 where
  pub evaluator : new.evaluator ≡ old.evaluator
  pub kills : judge_kills new ≡ []

-- ---- one tick

-- The preconditions for creating a judge. `plans` represents the trace, which may be replayed with
-- `timing`, and `interval` (ns) is the time between evaluations.
pub record IsToBegin (plans : PlansView) (trace : Trace) (timing : Timing) (interval : ℕ)
    : Type 0 where
  pub planned : IsPlanned plans trace timing
  pub interval_is : interval ≡ timing.interval

-- The preconditions of an evaluation at tick i + 1, whose time is `at` (ns). The engine has taken
-- this tick, and the evaluator has taken the readings up to tick `i`. `order` has all slots, sorted
-- by the paths of their groups.
pub record IsToEvaluate (evaluator : EvaluatorView) (plans : PlansView) (engine : EngineView)
    (order : List Slot) (trace : Trace) (timing : Timing) (rules : List Rule) (i at : ℕ) : Type 0 where
  pub planned : IsPlanned plans trace timing
  pub at_is : at ≡ tick_moment timing.length (i + 1)
  pub ticked : HasTicked engine trace timing (i + 1)
  pub by_path : IsPathOrder plans.lives (numbers_of order)
  pub read : HasRead evaluator trace rules (readings_of trace timing i)

-- The preconditions of a decision at tick i + 1, whose time is `at` (ns), for ticks of `length` ns.
-- The engine has taken this tick, and the judge has taken the first `i` ticks. `order` has all
-- slots, sorted by the paths of their groups.
pub record IsToJudge (judge : JudgeView) (plans : PlansView) (engine : EngineView)
    (order : List Slot) (trace : Trace) (timing : Timing) (rules : List Rule) (i at length : ℕ)
    : Type 0 where
  pub planned : IsPlanned plans trace timing
  pub at_is : at ≡ tick_moment timing.length (i + 1)
  pub length_is : length ≡ timing.length
  pub ticked : HasTicked engine trace timing (i + 1)
  pub by_path : IsPathOrder plans.lives (numbers_of order)
  pub judged : HasJudged judge trace timing rules i
