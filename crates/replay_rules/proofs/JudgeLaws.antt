-- Proves how the state of a judge changes from tick to tick.
use Rattle.std.proofs.Common.{◌≡◌, ℕ, zero, suc, ◌+◌, ◌-◌, ◌*◌, ◌<◌, List, [], ◌∷◌, map}
use Rattle.std.proofs.Common.{refl, sym, ap, subst, ◌∙◌, arith, Bool, true, false}
use Rattle.std.specs.Prelude.{◌/◌, nat_lt, None, Some, if◌then◌else◌}
use Rattle.psi_base.specs.declared.event.Slot.{Slot}
use Rattle.psi_spec.specs.Trace.{Trace}
use Rattle.pressure_spec.specs.Ticks.{is_evaluation, tick_moment}
use Rattle.ruleset_json.specs.declared.types.Rule.{Rule}
use Rattle.kill_spec.specs.declared.kill.Kill.{Kill}
use Rattle.kill_spec.specs.Readings.{Reading}
use Rattle.kill_spec.specs.Evaluations.{evaluations, reading_at, readings_until}
use Rattle.kill_spec.specs.Kills as deciding
use Rattle.run_spec.specs.Replay.{Timing, kills_in, lives_of}
use Rattle.proc_plan.specs.Plans.{PlansView}
use Rattle.tick_engine.specs.Engine.{EngineView}
use Rattle.replay_rules.specs.Judged.{EvaluatorView, HasJudged, HasRead, HasReadAll, IsToEvaluate}
use Rattle.replay_rules.specs.Judged.{IsToJudge, JudgeView, Rests, judge_kills, readings_of, known_last}
use Rattle.replay_rules.specs.Laws.{KillsAtReading, NoKillsBetween, NoneWithoutRules}
use Rattle.replay_rules.specs.Laws.{OneReadingMore, ReadingsStay}

-- ---- times

-- Each tick is one tick length later than the previous tick.
pub tick_later : (length tick : ℕ) → 0 < tick →
    tick_moment length tick ≡ tick_moment length (tick - 1) + length
tick_later length zero some = absurd (let no : ⊥ = omega (arith, some) in no)
tick_later length (suc tick) some =
    let back : suc tick - 1 ≡ tick = omega arith in
    let more : suc tick * length ≡ tick * length + length = grind arith in
    more ∙ ap (λ n. n * length + length) (sym back)

-- ---- readings

-- The readings at the ticks with these numbers.
abbrev all_at : Trace → Timing → List ℕ → List Reading
all_at trace timing numbers = map (reading_at trace.cpus trace.events timing.length) numbers

-- The readings after the next tick, depending on whether that tick is an evaluation.
one_more : (trace : Trace) (timing : Timing) (i : ℕ) (b : Bool) →
    is_evaluation timing.interval timing.length (suc i) ≡ b →
    readings_of trace timing (suc i)
    ≡ all_at trace timing
    (if b then suc i ∷ evaluations timing.interval timing.length i
    else evaluations timing.interval timing.length i)
unfolding readings_until
one_more trace timing i b is =
    ap (λ test. all_at trace timing (if test then suc i ∷ evaluations timing.interval timing.length i
    else evaluations timing.interval timing.length i)) is

counted : (i : ℕ) → i + 1 ≡ suc i
counted i = omega arith

pub readings_stay : ReadingsStay
unfolding readings_until
readings_stay trace timing i none =
    subst (λ n. is_evaluation timing.interval timing.length n ≡ false →
    readings_of trace timing n ≡ readings_of trace timing i)
    (sym (counted i)) (one_more trace timing i false) none

pub one_reading_more : OneReadingMore
unfolding readings_until
one_reading_more trace timing i due =
    subst (λ n. is_evaluation timing.interval timing.length n ≡ true →
    readings_of trace timing n
    ≡ reading_at trace.cpus trace.events timing.length n ∷ readings_of trace timing i)
    (sym (counted i)) (one_more trace timing i true) due

-- ---- kills

-- The kills at a tick, depending on whether that tick is an evaluation.
abbrev kills_where : Trace → Timing → List Rule → ℕ → Bool → List Kill
kills_where trace timing rules i test =
    if test
    then deciding.kills (lives_of trace) rules
    (reading_at trace.cpus trace.events timing.length i) (readings_of trace timing (i - 1))
    else []

pub no_kills_between : NoKillsBetween
no_kills_between trace timing rules i none = ap (kills_where trace timing rules i) none

none_either : (b : Bool) → ◌≡◌ {A = List Kill} (if b then [] else []) []
none_either true = refl
none_either false = refl

pub none_without_rules : NoneWithoutRules
unfolding deciding.kills
none_without_rules trace timing i = none_either (is_evaluation timing.interval timing.length i)

pub kills_at_reading : KillsAtReading
kills_at_reading trace timing rules i due =
    let this : Reading = reading_at trace.cpus trace.events timing.length (i + 1) in
    let back : i + 1 - 1 ≡ i = omega arith in
    ap (kills_where trace timing rules (i + 1)) due
    ∙ ap (λ n. deciding.kills (lives_of trace) rules this (readings_of trace timing n)) back

-- ---- one tick

-- A judge computes correctly which ticks are evaluations.
pub same_schedule : (judge : JudgeView) (plans : PlansView) (engine : EngineView)
    (order : List Slot) (trace : Trace) (timing : Timing) (rules : List Rule) (i at length : ℕ) →
    IsToJudge judge plans engine order trace timing rules i at length →
    is_evaluation judge.interval length (i + 1) ≡ is_evaluation timing.interval timing.length (i + 1)
same_schedule judge plans engine order trace timing rules i at length is =
    ap (λ interval. is_evaluation interval length (i + 1)) is.judged.interval
    ∙ ap (λ length. is_evaluation timing.interval length (i + 1)) is.length_is

-- The time that is passed to the judge is the time of the tick.
pub moment_is : (judge : JudgeView) (plans : PlansView) (engine : EngineView)
    (order : List Slot) (trace : Trace) (timing : Timing) (rules : List Rule) (i at length : ℕ) →
    IsToJudge judge plans engine order trace timing rules i at length →
    at ≡ tick_moment length (i + 1)
moment_is judge plans engine order trace timing rules i at length is =
    is.at_is ∙ ap (λ length. tick_moment length (i + 1)) (sym is.length_is)

-- The preconditions of a decision imply the preconditions of an evaluation at the next tick.
pub to_evaluate : (judge : JudgeView) (evaluator : EvaluatorView) (plans : PlansView)
    (engine : EngineView) (order : List Slot) (trace : Trace) (timing : Timing) (rules : List Rule)
    (i at length : ℕ) →
    IsToJudge judge plans engine order trace timing rules i at length →
    judge.evaluator ≡ Some evaluator →
    IsToEvaluate evaluator plans engine order trace timing rules i at
to_evaluate judge evaluator plans engine order trace timing rules i at length is kept =
    record {
      planned = is.planned;
      at_is = is.at_is;
      ticked = is.ticked;
      by_path = is.by_path;
      read = subst (λ e. HasReadAll e trace rules (readings_of trace timing i)) kept is.judged.read;
    }

-- A judge without an evaluator has no kills.
shows_none : (judge : JudgeView) → judge.evaluator ≡ None → judge_kills judge ≡ []
shows_none judge none =
    ap (λ e. if judge.evaluated then known_last e else []) none ∙ none_either judge.evaluated

-- A judge that didn't evaluate the rules at the last tick has no kills.
shows_no_old : (judge : JudgeView) → judge.evaluated ≡ false → judge_kills judge ≡ []
shows_no_old judge none = ap (λ b. if b then known_last judge.evaluator else []) none

-- A judge without an evaluator has no rules, so it has decided at any number of ticks.
pub judged_none : (judge : JudgeView) (trace : Trace) (timing : Timing) (rules : List Rule)
    (i number : ℕ) → judge.evaluator ≡ None →
    HasJudged judge trace timing rules i → HasJudged judge trace timing rules number
judged_none judge trace timing rules i number none is =
    let now = readings_of trace timing number in
    let empty : rules ≡ [] =
    subst (λ e. HasReadAll e trace rules (readings_of trace timing i)) none is.read in
    let unkilled : kills_in trace timing rules number ≡ [] =
    ap (λ r. kills_in trace timing r number) empty ∙ none_without_rules trace timing number in
    record {
      interval = is.interval;
      read = subst (λ e. HasReadAll e trace rules now) (sym none) empty;
      kills = shows_none judge none ∙ sym unkilled;
    }

-- A tick without an evaluation doesn't change the judge, except that there are no kills.
pub judged_same : (old new : JudgeView) (trace : Trace) (timing : Timing) (rules : List Rule)
    (i : ℕ) →
    new.interval ≡ old.interval → new.evaluator ≡ old.evaluator → new.evaluated ≡ false →
    is_evaluation timing.interval timing.length (i + 1) ≡ false →
    HasJudged old trace timing rules i → HasJudged new trace timing rules (i + 1)
judged_same old new trace timing rules i interval kept evaluated none is =
    let now = readings_of trace timing (i + 1) in
    let same = subst (HasReadAll old.evaluator trace rules) (sym (readings_stay trace timing i none))
    is.read in
    record {
      interval = interval ∙ is.interval;
      read = subst (λ e. HasReadAll e trace rules now) (sym kept) same;
      kills = shows_no_old new evaluated ∙ sym (no_kills_between trace timing rules (i + 1) none);
    }

-- After an evaluation, the evaluator has taken one more reading, and the judge has the kills at
-- that reading.
pub judged_next : (old new : JudgeView) (evaluator : EvaluatorView) (trace : Trace) (timing : Timing)
    (rules : List Rule) (i : ℕ) →
    new.interval ≡ old.interval → new.evaluator ≡ Some evaluator → new.evaluated ≡ true →
    is_evaluation timing.interval timing.length (i + 1) ≡ true →
    HasRead evaluator trace rules
    (reading_at trace.cpus trace.events timing.length (i + 1) ∷ readings_of trace timing i) →
    HasJudged old trace timing rules i → HasJudged new trace timing rules (i + 1)
judged_next old new evaluator trace timing rules i interval kept on due read is =
    let now = readings_of trace timing (i + 1) in
    let all : HasReadAll (Some evaluator) trace rules now =
    subst (HasReadAll (Some evaluator) trace rules) (sym (one_reading_more trace timing i due)) read in
    let reported : judge_kills new ≡ evaluator.killer.found =
    ap (λ b. if b then known_last new.evaluator else []) on ∙ ap known_last kept in
    record {
      interval = interval ∙ is.interval;
      read = subst (λ e. HasReadAll e trace rules now) (sym kept) all;
      kills = reported ∙ read.killer.found ∙ sym (kills_at_reading trace timing rules i due);
    }

-- ---- between evaluations

-- A tick doesn't change a judge without an evaluator, and there are no kills.
pub rests_none : (judge : JudgeView) → judge.evaluator ≡ None → Rests judge judge
rests_none judge none = record { evaluator = refl; kills = shows_none judge none }

-- A tick without an evaluation doesn't change the evaluator, and there are no kills.
pub rests : (old new : JudgeView) →
    new.evaluator ≡ old.evaluator → new.evaluated ≡ false → Rests old new
rests old new same none = record { evaluator = same; kills = shows_no_old new none }

-- ---- before the first tick

not_below_itself : (n : ℕ) → nat_lt n n ≡ false
not_below_itself n = grind arith

nothing_read : (trace : Trace) (timing : Timing) → readings_of trace timing 0 ≡ []
unfolding readings_until
nothing_read trace timing = refl

-- A new judge has decided at no tick.
pub judged_first : (judge : JudgeView) (trace : Trace) (timing : Timing) (rules : List Rule) →
    judge.interval ≡ timing.interval → judge.evaluated ≡ false →
    HasReadAll judge.evaluator trace rules [] → HasJudged judge trace timing rules 0
judged_first judge trace timing rules interval evaluated read =
    let none : is_evaluation timing.interval timing.length 0 ≡ false =
    not_below_itself (tick_moment timing.length 0 / timing.interval) in
    record {
      interval = interval;
      read = subst (HasReadAll judge.evaluator trace rules) (sym (nothing_read trace timing)) read;
      kills = shows_no_old judge evaluated ∙ sym (no_kills_between trace timing rules 0 none);
    }
