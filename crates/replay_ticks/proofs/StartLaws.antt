-- Proves that a newly made replay is a replay of its trace before its first tick.
use Rattle.std.proofs.Common.{◌≡◌, ℕ, ◌*◌, ◌≤◌, ◌<◌, List, [], length, get_or, refl, sym, subst, arith}
use Rattle.std.specs.Prelude.{All, IfSome, Option, None, Some}
use Rattle.psi_base.specs.declared.event.TriggerSpec.{TriggerSpec}
use Rattle.psi_spec.specs.declared.machine.GroupLife.{GroupLife}
use Rattle.psi_spec.specs.LegalGroups.{IsPathOrder}
use Rattle.psi_spec.specs.Collected.{triggers_of}
use Rattle.psi_spec.specs.Within.{AreTriggersWithin, IsTriggerWithin}
use Rattle.psi_spec.specs.Trace.{Trace, limits_of}
use Rattle.psi_spec.specs.Within.{last_moment, longest_tick}
use Rattle.psi_spec.specs.World.{after}
use Rattle.plan_laws.specs.Moments.{IsLife}
use Rattle.plan_laws.proofs.PlanStates.{legal_after}
use Rattle.plan_laws.proofs.MomentsLives.{lives_are_in_order}
use Rattle.plan_laws.proofs.MomentsTriggers.{triggers_are_within}
use Rattle.pressure_spec.specs.Ticks.{ticks_of}
use Rattle.run_spec.specs.Replay.{Timing, lives_of}
use Rattle.proc_plan.specs.Plans.{PlansView}
use Rattle.aggregate.specs.Table.{new_table}
use Rattle.aggregate.proofs.TableLaws.{keeps_sizes}
use Rattle.tick_engine.specs.Engine.{EngineView, IsLifeWithin, Represents}
use Rattle.replay_workers.specs.Crew.{AreOnPlans, clocks_at}
use Rattle.ruleset_json.specs.declared.types.Rule.{Rule}
use Rattle.ruleset_json.specs.RuleRanges.{FitsRules}
use Rattle.group_tree.specs.Tree.{numbers_of}
use Rattle.replay_rules.specs.Planned.{HasTicked, IsPlanned}
use Rattle.replay_rules.specs.Judged.{HasJudged}
use Rattle.replay_ticks.specs.Replays.{IsPaced, IsReplay, IsWatching, ReplayView}

-- ---- lives and triggers

gone_within : (last latest made : ℕ) (gone : Option ℕ) → last ≤ latest → IfSome gone (λ gone. (made ≤ gone) × (gone ≤ last)) → IfSome gone (λ gone. gone ≤ latest)
gone_within last latest made None early is = is
gone_within last latest made (Some gone) early is = omega (arith, early, is.1)

life_within : (last latest : ℕ) (life : GroupLife) → last ≤ latest → IsLife last life → IsLifeWithin latest life
life_within last latest life early is = record {
  made = omega (arith, early, is.made);
  gone = gone_within last latest life.made life.gone early is.gone;
}

-- The latest time in a trace is at most the latest possible time.
pub latest_within : (length : ℕ) → length ≤ longest_tick → 1000000 * length ≤ last_moment
latest_within length short = omega (arith, short)

-- The creation and removal times of the groups of a planned trace are at most the latest possible
-- time.
pub lives_within : (plans : PlansView) (trace : Trace) (timing : Timing) → IsPlanned plans trace timing → All (λ life. IsLifeWithin last_moment life) plans.lives
lives_within plans trace timing planned =
    let limits = limits_of timing.length trace.cpus in
    let legal = planned.accepted.legal in
    let lives = lives_are_in_order limits trace.events legal in
    let early : (after trace.events).last ≤ last_moment = omega (arith, (legal_after limits trace.events legal).early, latest_within timing.length planned.short) in
    subst (All (λ life. IsLifeWithin last_moment life)) (sym planned.represents.lives)
    (λ k d below. life_within (after trace.events).last last_moment (get_or (after trace.events).groups k d) early (lives.each k d below))

trigger_within : (latest last slots : ℕ) (trigger : TriggerSpec) → latest ≤ last → IsTriggerWithin latest slots trigger → IsTriggerWithin last slots trigger
trigger_within latest last slots trigger early is = record {
  early = omega (arith, early, is.early);
  slot = is.slot;
  window = is.window;
}

triggers_later : (latest last slots : ℕ) (triggers : List TriggerSpec) → latest ≤ last → AreTriggersWithin latest slots triggers → AreTriggersWithin last slots triggers
triggers_later latest last slots triggers early are = record {
  few = are.few;
  each = λ k d below. trigger_within latest last slots (get_or triggers k d) early (are.each k d below);
}

-- The number of triggers of a planned trace is within its limit, and each trigger is in range.
pub triggers_within : (plans : PlansView) (trace : Trace) (timing : Timing) → IsPlanned plans trace timing → AreTriggersWithin last_moment (length plans.lives) plans.triggers
triggers_within plans trace timing planned =
    let limits = limits_of timing.length trace.cpus in
    let set = triggers_later limits.latest last_moment (length (after trace.events).groups) (triggers_of trace.events) (latest_within timing.length planned.short) (triggers_are_within limits trace.events planned.accepted.legal) in
    rw (planned.represents.lives, planned.represents.triggers) set

-- ---- before the first tick

no_ticks : (engine : EngineView) (trace : Trace) (timing : Timing) → Represents engine trace.cpus (lives_of trace) (triggers_of trace.events) [] → HasTicked engine trace timing 0
unfolding ticks_of
no_ticks engine trace timing stands = stands

-- A new engine has taken no tick of its trace.
pub engine_new : (plans : PlansView) (engine : EngineView) (trace : Trace) (timing : Timing) → IsPlanned plans trace timing → Represents engine (length plans.plans) plans.lives plans.triggers [] → HasTicked engine trace timing 0
engine_new plans engine trace timing planned stands =
    let cpus = subst (λ cpus. Represents engine cpus plans.lives plans.triggers []) planned.represents.each stands in
    let lives = subst (λ lives. Represents engine trace.cpus lives plans.triggers []) planned.represents.lives cpus in
    no_ticks engine trace timing (subst (λ triggers. Represents engine trace.cpus (lives_of trace) triggers []) planned.represents.triggers lives)

-- The newly made components form a replay of their trace before its first tick.
pub replay_new : (replay : ReplayView) (trace : Trace) (timing : Timing) (rules : List Rule) → IsPlanned replay.plans trace timing →
    replay.crew.plans ≡ replay.plans → AreOnPlans replay.crew.plans replay.crew.clocks → replay.crew.ready ≡ [] →
    ((cpu : ℕ) → cpu < length replay.crew.plans.plans → (clocks_at replay.crew.clocks cpu).made ≡ 0) →
    replay.rows ≡ new_table (length replay.plans.plans) (length replay.plans.lives) →
    Represents replay.engine (length replay.plans.plans) replay.plans.lives replay.plans.triggers [] →
    IsPathOrder replay.plans.lives (numbers_of replay.order) → IsPaced replay.run_timing trace timing → HasJudged replay.judge trace timing rules 0 → FitsRules rules → IsWatching replay.crew replay.live trace timing 0 → replay.made ≡ 0 → replay.signals ≡ 0 → replay.kills ≡ 0 → IsReplay replay trace timing rules 0
replay_new replay trace timing rules planned same on none fresh rows stands order paced judged fits watching made signals kills =
    let here = subst (λ plans. AreOnPlans plans replay.crew.clocks) same on in
    record {
      planned = planned;
      paced = paced;
      made = made;
      within = omega arith;
      ahead = record {
        same = same;
        ready = rw none refl;
        within = rw none (omega arith);
        not_past = record {
          on_plans = here;
          not_past = λ cpu below. omega (arith, fresh cpu (omega (arith, below, on.each)));
        };
      };
      watching = watching;
      sizes = rw rows (keeps_sizes.new (length replay.plans.plans) (length replay.plans.lives));
      engine = engine_new replay.plans replay.engine trace timing planned stands;
      judge = judged;
      fit = fits;
      order = order;
      signals = signals;
      kills = kills;
    }
