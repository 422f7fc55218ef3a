-- Proves how one more tick changes a replay.
use Rattle.std.proofs.Common.{◌≡◌, ℕ, zero, suc, ◌+◌, ◌-◌, ◌*◌, ◌<◌, ◌≤◌, ◌^◌, List, [], ◌∷◌, ◌++◌, length, sym, ap, ◌∙◌, subst, arith}
use Rattle.std.specs.Prelude.{Bool, Err, IsErr, true, Ok, Option, Result}
use Rattle.std.specs.List.{range_with_len}
use Rattle.std.proofs.Math.Nat.{mul-le-mul_left}
use Rattle.std.proofs.lemmas.List.FromFn.{length-range_with_len}
use Rattle.std.proofs.lemmas.List.Sums.{length-filter, count_by-le-length}
use Rattle.psi_spec.specs.Collected.{triggers_of}
use Rattle.psi_spec.specs.Trace.{Trace, limits_of}
use Rattle.psi_spec.specs.Within.{last_moment}
use Rattle.plan_laws.proofs.MomentsTriggers.{triggers_are_within}
use Rattle.pressure_spec.specs.Samples.{fired_at, fires_by_number}
use Rattle.pressure_spec.specs.Ticks.{table_until, tick_moment, tick_of, ticks_of}
use Rattle.pressure_spec.specs.NextTick.{IsNextTick}
use Rattle.run_spec.specs.Replay.{Timing, fired_in, kills_in, lives_of, signals_until, tick_count, tick_text, with_rules}
use Rattle.run_laws.proofs.OneMore.{kills_more, signals_more, ticks_more}
use Rattle.run_laws.proofs.Following.{ticks_follow}
use Rattle.proc_plan.specs.Plans.{PlansView}
use Rattle.aggregate.specs.Table.{HasSizes}
use Rattle.tick_engine.specs.Engine.{EngineTakes, EngineView, Represents}
use Rattle.tick_engine.specs.Tables.{tick_at}
use Rattle.replay_workers.specs.Crew.{CrewView, IsTableAt}
use Rattle.replay_workers.proofs.Tables.{table_is_of_events}
use Rattle.std.specs.Io.KnownBytes.{Appends}
use Rattle.outside.specs.Outside.{AppendsPrefix}
use Rattle.outside.proofs.Grows.{Appends-then}
use Rattle.psi_base.specs.declared.event.Slot.{Slot}
use Rattle.psi_spec.specs.LegalGroups.{IsPathOrder}
use Rattle.replay_ticks.specs.declared.replay.TickFault.{TickFault}
use Rattle.ruleset_json.specs.declared.types.Rule.{Rule}
use Rattle.kill_spec.specs.declared.kill.Kill.{Kill}
use Rattle.group_tree.specs.Tree.{numbers_of}
use Rattle.replay_rules.specs.Planned.{HasTicked, IsPlanned}
use Rattle.replay_rules.specs.Judged.{HasJudged, IsToJudge, JudgeView, judge_kills}
use Rattle.replay_ticks.specs.Replays.{AreInTime, HasPlaces, IsAhead, IsReady, IsLiveTick, IsReplay, IsTickSampled, IsToGo, IsToPut, IsToSample, IsWatching, Passes, ReplayView, TickGives, tick_lines, watches_text}
use Rattle.replay_ticks.proofs.Pieces.{prefix_of_both, prefix_then}
use Rattle.replay_ticks.proofs.PutLaws.{lines_split}
use Rattle.run_spec.specs.Live.{IsLiveText}
use Rattle.replay_ticks.proofs.AheadLaws.{moment_early}

-- ---- one tick

-- The table that the worker pool fills is the table of the tick.
pub tick_is : (plans : PlansView) (trace : Trace) (timing : Timing) (n at : ℕ) (table : List (List (List ℕ))) → IsPlanned plans trace timing → at ≡ tick_moment timing.length n → IsTableAt table plans at
    → tick_at at table ≡ tick_of trace.cpus trace.events timing.length n
tick_is plans trace timing n at table planned moment is =
    let filled : table ≡ table_until trace.cpus trace.events at = table_is_of_events (limits_of timing.length trace.cpus) trace.cpus trace.events plans table at planned.accepted.legal planned.represents is in
    ap (tick_at at) filled ∙ ap (λ m. tick_at m (table_until trace.cpus trace.events m)) moment

-- The tick is a legal successor of the engine's last tick.
pub tick_next : (plans : PlansView) (engine : EngineView) (trace : Trace) (timing : Timing) (i at : ℕ) (table : List (List (List ℕ))) → IsPlanned plans trace timing → i < tick_count trace timing → at ≡ tick_moment timing.length (i + 1)
    → HasTicked engine trace timing i → IsTableAt table plans at → IsNextTick engine.last (tick_at at table)
tick_next plans engine trace timing i at table planned left moment stands is =
    let same = tick_is plans trace timing (i + 1) at table planned moment is in
    let early = moment_early plans trace timing (i + 1) planned (omega (arith, left)) in
    let next = ticks_follow (limits_of timing.length trace.cpus) trace.cpus trace.events timing.length i planned.accepted.legal planned.counted.1 planned.some planned.short early in
    rw (stands.last, same) next

-- The table has the sizes of the engine.
pub tick_fits : (plans : PlansView) (engine : EngineView) (trace : Trace) (timing : Timing) (i : ℕ) (table : List (List (List ℕ))) → IsPlanned plans trace timing → HasTicked engine trace timing i → HasPlaces plans table
    → HasSizes engine.cpus (length engine.groups) table
tick_fits plans engine trace timing i table planned stands sizes =
    let cpus : length plans.plans ≡ engine.cpus = planned.represents.each ∙ sym stands.cpus_are in
    let slots : length plans.lives ≡ length engine.groups = ap length planned.represents.lives ∙ sym stands.slots in
    subst (λ n. HasSizes n (length engine.groups) table) cpus (subst (λ n. HasSizes (length plans.plans) n table) slots sizes)

-- An engine that took the tick is in the state after the tick.
pub tick_taken : (plans : PlansView) (engine new : EngineView) (trace : Trace) (timing : Timing) (i at : ℕ) (table : List (List (List ℕ))) → IsPlanned plans trace timing → at ≡ tick_moment timing.length (i + 1)
    → HasTicked engine trace timing i → IsTableAt table plans at → EngineTakes engine (tick_at at table) new → HasTicked new trace timing (i + 1)
tick_taken plans engine new trace timing i at table planned moment stands is takes =
    let same = tick_is plans trace timing (i + 1) at table planned moment is in
    let after_it = takes trace.cpus (lives_of trace) (triggers_of trace.events) (ticks_of trace.cpus trace.events timing.length i) stands in
    subst (Represents new trace.cpus (lives_of trace) (triggers_of trace.events)) (ap (λ t. ticks_of trace.cpus trace.events timing.length i ++ t ∷ []) same ∙ sym (ticks_more trace.cpus trace.events timing.length i)) after_it

-- If the worker pool filled the table of the next tick and the engine took it, the next tick is
-- sampled.
pub is_sampled : (plans : PlansView) (crew : CrewView) (rows : List (List (List ℕ))) (engine new : EngineView) (trace : Trace) (timing : Timing) (i at : ℕ) → IsPlanned plans trace timing → at ≡ tick_moment timing.length (i + 1)
    → HasTicked engine trace timing i → IsAhead plans crew trace timing (i + 1) → IsTableAt rows plans at → EngineTakes engine (tick_at at rows) new → IsTickSampled plans crew rows new trace timing (i + 1)
is_sampled plans crew rows engine new trace timing i at planned moment stands ahead is takes = record {
  ahead = ahead;
  sizes = is.sizes;
  ticked = tick_taken plans engine new trace timing i at rows planned moment stands is takes;
}

-- ---- signals

fired_few : (plans : PlansView) (trace : Trace) (timing : Timing) (n : ℕ) → IsPlanned plans trace timing → length (fired_in trace timing n) ≤ 256
unfolding fired_at
fired_few plans trace timing n planned =
    let few = (triggers_are_within (limits_of timing.length trace.cpus) trace.events planned.accepted.legal).few in
    let test = fires_by_number trace.cpus (lives_of trace) (triggers_of trace.events) (ticks_of trace.cpus trace.events timing.length (n - 1)) (tick_of trace.cpus trace.events timing.length n) in
    let numbers = range_with_len 0 (length (triggers_of trace.events)) in
    let passed = length-filter test numbers in
    let most = count_by-le-length test numbers in
    let many : length numbers ≡ length (triggers_of trace.events) = length-range_with_len 0 (length (triggers_of trace.events)) in
    omega (arith, few, passed, most, many)

signals_few : (plans : PlansView) (trace : Trace) (timing : Timing) (n : ℕ) → IsPlanned plans trace timing → signals_until trace timing n ≤ 256 * n
signals_few plans trace timing zero planned = omega arith
signals_few plans trace timing (suc n) planned =
    let next : suc n ≡ n + 1 = omega arith in
    let before = signals_few plans trace timing n planned in
    let more = signals_more trace timing n in
    let one = fired_few plans trace timing (n + 1) planned in
    subst (λ k. signals_until trace timing k ≤ 256 * k) (sym next) (let all : signals_until trace timing (n + 1) ≤ 256 * (n + 1) = omega (arith, before, more, one) in all)

-- The engine has the triggers that fire at the last tick.
pub fired_is : (engine : EngineView) (trace : Trace) (timing : Timing) (i : ℕ) → HasTicked engine trace timing (i + 1) → engine.fired ≡ fired_in trace timing (i + 1)
fired_is engine trace timing i stands =
    let same : i + 1 - 1 ≡ i = omega arith in
    let fired = stands.fired (ticks_of trace.cpus trace.events timing.length i) (tick_of trace.cpus trace.events timing.length (i + 1)) (ticks_more trace.cpus trace.events timing.length i) in
    rw same fired

-- The triggers that fire at the tick increase the number of signals.
pub signals_are : (engine : EngineView) (trace : Trace) (timing : Timing) (i signals : ℕ) → HasTicked engine trace timing (i + 1) → signals ≡ signals_until trace timing i → signals + length engine.fired ≡ signals_until trace timing (i + 1)
signals_are engine trace timing i signals stands so_far =
    let fired = ap length (fired_is engine trace timing i stands) in
    let more = signals_more trace timing i in
    omega (arith, fired, more, so_far)

-- The number of ticks is at most the number of ns in the longest trace.
pub ticks_few : (plans : PlansView) (trace : Trace) (timing : Timing) (n : ℕ) → IsPlanned plans trace timing → n ≤ tick_count trace timing → n ≤ last_moment
ticks_few plans trace timing n planned within =
    let early = moment_early plans trace timing n planned within in
    let many : n * 1 ≤ n * timing.length = mul-le-mul_left n (let one : 1 ≤ timing.length = omega (arith, planned.some) in one) in
    omega (arith, early, many)

-- The number of signals fits in 64 bits.
pub signals_fit : (plans : PlansView) (engine : EngineView) (trace : Trace) (timing : Timing) (i signals : ℕ) → IsPlanned plans trace timing → i < tick_count trace timing → HasTicked engine trace timing (i + 1) → signals ≡ signals_until trace timing i
    → signals + length engine.fired < 2 ^ 64
signals_fit plans engine trace timing i signals planned left stands so_far =
    let all = signals_are engine trace timing i signals stands so_far in
    let few = signals_few plans trace timing (i + 1) planned in
    let ticks = ticks_few plans trace timing (i + 1) planned (omega (arith, left)) in
    omega (arith, all, few, ticks)

-- ---- the whole replay

-- The replay after its next tick was sampled.
abbrev pub ticked_replay : ReplayView → CrewView → List (List (List ℕ)) → EngineView → JudgeView → ReplayView
ticked_replay old crew rows engine judge = record {
  plans = old.plans;
  crew = crew;
  rows = rows;
  engine = engine;
  judge = judge;
  order = old.order;
  run_timing = old.run_timing;
  live = old.live;
  made = old.made + 1;
  signals = old.signals + length engine.fired;
  kills = old.kills + length (judge_kills judge);
}

-- If not all ticks have been replayed, there is a next tick.
pub one_left : (replay : ReplayView) (trace : Trace) (timing : Timing) (rules : List Rule) (i : ℕ) → IsReplay replay trace timing rules i → (replay.made ≡ replay.run_timing.last → ⊥) → i < tick_count trace timing
one_left replay trace timing rules i is open_ =
    let made = is.made in
    let within = is.within in
    let last = is.paced.last in
    let other : i ≡ tick_count trace timing → ⊥ = λ same. open_ (made ∙ same ∙ sym last) in
    grind (arith, within, other)

-- If there is a next tick, not all ticks have been replayed.
pub still_open : (replay : ReplayView) (trace : Trace) (timing : Timing) (rules : List Rule) (i : ℕ) → IsReplay replay trace timing rules i → i < tick_count trace timing → replay.made ≡ replay.run_timing.last → ⊥
still_open replay trace timing rules i is left all =
    let made = is.made in
    let last = is.paced.last in
    omega (arith, left, all, made, last)

-- The time of the next tick by `run_timing` is its time by `timing`.
pub moment_is : (replay : ReplayView) (trace : Trace) (timing : Timing) (rules : List Rule) (i : ℕ) → IsReplay replay trace timing rules i → tick_moment replay.run_timing.length (replay.made + 1) ≡ tick_moment timing.length (i + 1)
moment_is replay trace timing rules i is =
    ap (λ length. tick_moment length (replay.made + 1)) is.paced.length ∙ ap (λ n. tick_moment timing.length (n + 1)) is.made

-- The time of the next tick fits in 64 bits.
pub moment_fits : (replay : ReplayView) (trace : Trace) (timing : Timing) (rules : List Rule) (i : ℕ) → IsReplay replay trace timing rules i → (replay.made ≡ replay.run_timing.last → ⊥) → tick_moment replay.run_timing.length (replay.made + 1) < 2 ^ 64
moment_fits replay trace timing rules i is open_ =
    let left = one_left replay trace timing rules i is open_ in
    let early = moment_early replay.plans trace timing (i + 1) is.planned (omega (arith, left)) in
    let same = moment_is replay trace timing rules i is in
    omega (arith, early, same)

-- The preconditions for advancing the worker pool by further ticks hold.
pub to_go : (replay : ReplayView) (trace : Trace) (timing : Timing) (rules : List Rule) (i : ℕ) → IsReplay replay trace timing rules i → (replay.made ≡ replay.run_timing.last → ⊥) → IsToGo replay.crew.plans replay.crew replay.run_timing trace timing replay.made
to_go replay trace timing rules i is open_ =
    let left = one_left replay trace timing rules i is open_ in
    subst (λ plans. IsToGo plans replay.crew replay.run_timing trace timing replay.made) (sym is.ahead.same)
    (record {
      planned = is.planned;
      paced = is.paced;
      left = subst (λ n. n < tick_count trace timing) (sym is.made) left;
      ahead = subst (IsAhead replay.plans replay.crew trace timing) (sym is.made) is.ahead;
    })

-- The preconditions for sampling the next tick hold.
pub to_sample : (replay : ReplayView) (crew : CrewView) (trace : Trace) (timing : Timing) (rules : List Rule) (i at : ℕ) → IsReplay replay trace timing rules i → (replay.made ≡ replay.run_timing.last → ⊥) → at ≡ tick_moment replay.run_timing.length (replay.made + 1)
    → IsReady replay.crew.plans crew trace timing replay.made → IsToSample crew.plans crew replay.rows replay.engine trace timing i at
to_sample replay crew trace timing rules i at is open_ moment ready =
    let own : crew.plans ≡ replay.plans = ready.ahead.same ∙ is.ahead.same in
    subst (λ plans. IsToSample plans crew replay.rows replay.engine trace timing i at) (sym own)
    (record {
      planned = is.planned;
      left = one_left replay trace timing rules i is open_;
      at_is = moment ∙ moment_is replay trace timing rules i is;
      ready = subst (λ plans. IsReady plans crew trace timing i) is.ahead.same (subst (IsReady replay.crew.plans crew trace timing) is.made ready);
      sizes = is.sizes;
      ticked = is.engine;
    })

-- The next tick was sampled with the plans of the replay.
pub sampled_is : (replay : ReplayView) (crew new : CrewView) (rows : List (List (List ℕ))) (engine : EngineView) (trace : Trace) (timing : Timing) (rules : List Rule) (i : ℕ) → IsReplay replay trace timing rules i → IsReady replay.crew.plans crew trace timing replay.made
    → IsTickSampled crew.plans new rows engine trace timing (i + 1) → IsTickSampled replay.plans new rows engine trace timing (i + 1)
sampled_is replay crew new rows engine trace timing rules i is ready sampled =
    subst (λ plans. IsTickSampled plans new rows engine trace timing (i + 1)) (ready.ahead.same ∙ is.ahead.same) sampled

-- The preconditions for writing the lines of the last tick hold.
pub to_put : (replay : ReplayView) (order : List Slot) (trace : Trace) (timing : Timing) (rules : List Rule) (i at : ℕ) → IsReplay replay trace timing rules (i + 1) → order ≡ replay.order → at ≡ tick_moment timing.length (i + 1)
    → IsToPut replay.plans replay.engine order replay.run_timing trace timing replay.made at
to_put replay order trace timing rules i at is ordered moment =
    let made = is.made in
    record {
      planned = is.planned;
      paced = is.paced;
      some = omega (arith, made);
      at_is = moment ∙ ap (tick_moment timing.length) (sym made);
      ticked = subst (HasTicked replay.engine trace timing) (sym made) is.engine;
      by_path = subst (λ slots. IsPathOrder replay.plans.lives (numbers_of slots)) (sym ordered) is.order;
    }

-- The number of signals after the next tick fits in 64 bits.
pub count_fits : (replay : ReplayView) (crew : CrewView) (rows : List (List (List ℕ))) (engine : EngineView) (trace : Trace) (timing : Timing) (rules : List Rule) (i : ℕ) → IsReplay replay trace timing rules i → (replay.made ≡ replay.run_timing.last → ⊥)
    → IsTickSampled replay.plans crew rows engine trace timing (i + 1) → replay.signals + length engine.fired < 2 ^ 64
count_fits replay crew rows engine trace timing rules i is open_ sampled =
    signals_fit replay.plans engine trace timing i replay.signals is.planned (one_left replay trace timing rules i is open_) sampled.ticked is.signals

-- The preconditions for evaluating the rules at the next tick hold.
pub to_judge : (replay : ReplayView) (crew : CrewView) (rows : List (List (List ℕ))) (engine : EngineView) (order : List Slot) (trace : Trace) (timing : Timing) (rules : List Rule) (i at : ℕ) → IsReplay replay trace timing rules i
    → at ≡ tick_moment replay.run_timing.length (replay.made + 1) → order ≡ replay.order → IsTickSampled replay.plans crew rows engine trace timing (i + 1) → IsToJudge replay.judge replay.plans engine order trace timing rules i at replay.run_timing.length
to_judge replay crew rows engine order trace timing rules i at is moment ordered sampled = record {
  planned = is.planned;
  at_is = moment ∙ moment_is replay trace timing rules i is;
  length_is = is.paced.length;
  ticked = sampled.ticked;
  by_path = subst (λ slots. IsPathOrder replay.plans.lives (numbers_of slots)) (sym ordered) is.order;
  judged = is.judge;
}

-- The judge has the kills at the tick.
pub kills_are : (judge : JudgeView) (trace : Trace) (timing : Timing) (rules : List Rule) (number : ℕ) (found : List Kill) → HasJudged judge trace timing rules number → found ≡ judge_kills judge → found ≡ kills_in trace timing rules number
kills_are judge trace timing rules number found judged same = same ∙ judged.kills

-- The replay is in the state after one more tick.
pub is_ticked : (replay : ReplayView) (crew : CrewView) (rows : List (List (List ℕ))) (engine : EngineView) (judge : JudgeView) (trace : Trace) (timing : Timing) (rules : List Rule) (i : ℕ) → IsReplay replay trace timing rules i
    → (replay.made ≡ replay.run_timing.last → ⊥) → IsTickSampled replay.plans crew rows engine trace timing (i + 1) → IsWatching crew replay.live trace timing (i + 1)
    → HasJudged judge trace timing rules (i + 1) → IsReplay (ticked_replay replay crew rows engine judge) trace timing rules (i + 1)
is_ticked replay crew rows engine judge trace timing rules i is open_ sampled watching judged =
    let left = one_left replay trace timing rules i is open_ in
    let more = kills_more trace timing rules i in
    let found = ap length judged.kills in
    record {
      planned = is.planned;
      paced = is.paced;
      made = ap (λ n. n + 1) is.made;
      within = omega (arith, left);
      ahead = sampled.ahead;
      watching = watching;
      sizes = sampled.sizes;
      engine = sampled.ticked;
      judge = judged;
      fit = is.fit;
      order = is.order;
      signals = signals_are engine trace timing i replay.signals sampled.ticked is.signals;
      kills = omega (arith, more, found, is.kills);
    }

-- The kills of the replay are the kills at its last tick.
pub kills_made : (replay : ReplayView) (trace : Trace) (timing : Timing) (rules : List Rule) (i : ℕ) (found : List Kill) → IsReplay replay trace timing rules (i + 1) → found ≡ judge_kills replay.judge → found ≡ kills_in trace timing rules replay.made
kills_made replay trace timing rules i found is same = same ∙ is.judge.kills ∙ ap (kills_in trace timing rules) (sym is.made)

-- The lines of the replay's last tick are the lines of tick i + 1.
pub text_is : (replay : ReplayView) (trace : Trace) (timing : Timing) (rules : List Rule) (i : ℕ) → IsReplay replay trace timing rules (i + 1) → tick_text trace timing (with_rules rules) replay.made ≡ tick_text trace timing (with_rules rules) (i + 1)
text_is replay trace timing rules i is = ap (tick_text trace timing (with_rules rules)) is.made

-- If `pass` returns true, the next tick was replayed.
pub passed : (trace : Trace) (timing : Timing) (rules : List Rule) (i : ℕ) (old new : ReplayView) (result : Bool) → Passes trace timing rules i old new result → result ≡ true → (i < tick_count trace timing) × IsReplay new trace timing rules (i + 1) × IsLiveTick old.crew new.crew trace timing (i + 1)
passed trace timing rules i old new result maybe_rules made = subst (Passes trace timing rules i old new) made maybe_rules

-- The watched path and the number of samples are those of the options.
pub to_watch : (replay : ReplayView) (trace : Trace) (timing : Timing) (rules : List Rule) (i : ℕ) → IsReplay replay trace timing rules i → IsWatching replay.crew replay.live trace timing replay.made
to_watch replay trace timing rules i is = subst (IsWatching replay.crew replay.live trace timing) (sym is.made) is.watching

-- The time of the last tick by `run_timing` is its time by `timing`.
pub made_moment : (replay : ReplayView) (trace : Trace) (timing : Timing) (rules : List Rule) (i : ℕ) → IsReplay replay trace timing rules (i + 1) → tick_moment replay.run_timing.length replay.made ≡ tick_moment timing.length (i + 1)
made_moment replay trace timing rules i is = ap (λ length. tick_moment length replay.made) is.paced.length ∙ ap (tick_moment timing.length) is.made

-- The time of the last tick fits in 64 bits.
pub made_fits : (replay : ReplayView) (trace : Trace) (timing : Timing) (rules : List Rule) (i : ℕ) → IsReplay replay trace timing rules (i + 1) → tick_moment replay.run_timing.length replay.made < 2 ^ 64
made_fits replay trace timing rules i is =
    let early = moment_early replay.plans trace timing (i + 1) is.planned is.within in
    let same = made_moment replay trace timing rules i is in
    omega (arith, early, same)

-- The lines of the worker pool's samples are the lines of the samples at the last tick.
pub live_is : (replay : ReplayView) (trace : Trace) (timing : Timing) (rules : List Rule) (i at cpus : ℕ) → IsReplay replay trace timing rules (i + 1) → at ≡ tick_moment timing.length (i + 1) → cpus ≡ length replay.plans.plans
    → watches_text at cpus replay.crew.watches ≡ watches_text (tick_moment timing.length (i + 1)) trace.cpus replay.crew.watches
live_is replay trace timing rules i at cpus is moment many =
    ap (λ m. watches_text m cpus replay.crew.watches) moment ∙ ap (λ n. watches_text (tick_moment timing.length (i + 1)) n replay.crew.watches) (many ∙ is.planned.represents.each)

-- The clocks of the worker pool's samples can be advanced to the last tick.
pub live_in_time : (replay : ReplayView) (trace : Trace) (timing : Timing) (rules : List Rule) (i at cpus : ℕ) → IsReplay replay trace timing rules (i + 1) → at ≡ tick_moment timing.length (i + 1) → cpus ≡ length replay.plans.plans
    → AreInTime trace.cpus replay.crew.watches (tick_moment timing.length (i + 1)) → AreInTime cpus replay.crew.watches at
live_in_time replay trace timing rules i at cpus is moment many are =
    subst (AreInTime cpus replay.crew.watches) (sym moment) (subst (λ n. AreInTime n replay.crew.watches (tick_moment timing.length (i + 1))) (sym (many ∙ is.planned.represents.each)) are)

-- The `live` lines, followed by the other lines, are the lines of the tick.
pub lines_put : (trace : Trace) (timing : Timing) (rules : List Rule) (i : ℕ) (live : List ℕ) (had mid has : Option (List ℕ)) → Appends had mid live → Appends mid has (tick_text trace timing (with_rules rules) i) → Appends had has (tick_lines trace timing rules i live)
lines_put trace timing rules i live had mid has first rest =
    subst (Appends had has) (lines_split trace timing rules i live) (Appends-then had mid has live (tick_text trace timing (with_rules rules) i) first rest)

-- If writing the `live` lines fails, a prefix of the tick's lines was written.
pub live_prefix : (trace : Trace) (timing : Timing) (rules : List Rule) (i : ℕ) (live : List ℕ) (had has : Option (List ℕ)) → AppendsPrefix had has live → AppendsPrefix had has (tick_lines trace timing rules i live)
live_prefix trace timing rules i live had has prefix =
    subst (AppendsPrefix had has) (lines_split trace timing rules i live) (prefix_of_both had has live (tick_text trace timing (with_rules rules) i) prefix)

-- If writing the other lines fails, a prefix of the tick's lines was written.
pub lines_prefix : (trace : Trace) (timing : Timing) (rules : List Rule) (i : ℕ) (live : List ℕ) (had mid has : Option (List ℕ)) → Appends had mid live → AppendsPrefix mid has (tick_text trace timing (with_rules rules) i) → AppendsPrefix had has (tick_lines trace timing rules i live)
lines_prefix trace timing rules i live had mid has first rest =
    subst (AppendsPrefix had has) (lines_split trace timing rules i live) (prefix_then had mid has live (tick_text trace timing (with_rules rules) i) first rest)

-- If the call fails, the output is a prefix of the next tick's lines.
pub gives_prefix : (trace : Trace) (timing : Timing) (rules : List Rule) (i : ℕ) (old new : ReplayView) (live : List ℕ) (had has : Option (List ℕ)) (result : Result Bool TickFault) → IsErr result → i < tick_count trace timing
    → IsLiveText trace timing.length timing.watch (i + 1) live → AppendsPrefix had has (tick_lines trace timing rules (i + 1) live) → TickGives trace timing rules i old new had has result
gives_prefix trace timing rules i old new live had has (Ok x) failed left is_live prefix = absurd (let no : ⊥ = cc in no)
gives_prefix trace timing rules i old new live had has (Err fault) failed left is_live prefix = (left, (live, is_live, prefix))
