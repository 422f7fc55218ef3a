-- Relates the state of the engine to the ticks with which it has been updated. An engine
-- *represents* a list of ticks if updating a new engine with these ticks leads to its state.
use Rattle.std.specs.Prelude.{◌≡◌, ℕ, ◌<◌, ◌≤◌, List, [], ◌∷◌, ◌++◌, length, map, nat_le, Bool, if◌then◌else◌, None, Some, All, IfSome}
use Rattle.std.specs.List.{list_any}
use Rattle.psi_base.specs.declared.event.TriggerSpec.{TriggerSpec}
use Rattle.psi_spec.specs.declared.machine.GroupLife.{GroupLife}
use Rattle.psi_spec.specs.Within.{IsTriggerWithin}
use Rattle.psi_spec.specs.Within.{last_moment}
use Rattle.psi_spec.specs.World.{most_groups}
use Rattle.pressure_spec.specs.Average.{AverageState}
use Rattle.pressure_spec.specs.Ticks.{Tick}
use Rattle.pressure_spec.specs.NextTick.{AreNextTicks, last_tick, no_tick}
use Rattle.pressure_spec.specs.Samples.{fired_at, group_averages, history_of, life_of, totals_after, trigger_over}
use Rattle.aggregate.specs.Table.{HasSizes}
use Rattle.tick_engine.specs.declared.group.Group.{Group}
use Rattle.tick_engine.specs.declared.watch.TriggerWatch.{TriggerWatch}
use Rattle.tick_engine.specs.Step.{AreGroupsWithin, engine_group}

-- The state of the engine: the number of processors, the last tick, the state of each group and of
-- each trigger, and the indexes of the triggers that fired at the last tick.
pub record EngineView : Type 0 where
  pub cpus : ℕ
  pub last : Tick
  pub groups : List Group
  pub watches : List TriggerWatch
  pub fired : List ℕ

-- `seen_as cpus last groups watches fired`: the state of an engine with these parts.
abbrev pub seen_as : ℕ → Tick → List Group → List TriggerWatch → List ℕ → EngineView
seen_as cpus last groups watches fired = record { cpus = cpus; last = last; groups = groups; watches = watches; fired = fired }

-- `totals_in engine slot`: the engine's totals (ns) of the group in slot `slot`.
abbrev pub totals_in : EngineView → ℕ → List ℕ
totals_in engine slot = (engine_group engine.groups slot).totals

-- `averages_in engine slot`: the engine's averages of the group in slot `slot`.
abbrev pub averages_in : EngineView → ℕ → AverageState
averages_in engine slot = (engine_group engine.groups slot).averages

-- ---- the list of ticks that an engine represents

-- `group_after cpus lives ticks slot`: the specified state of the group in slot `slot` after the
-- ticks `ticks`. `lives` are all groups, by slot.
abbrev pub group_after : ℕ → List GroupLife → List Tick → ℕ → Group
group_after cpus lives ticks slot =
    record {
      made = (life_of lives slot).made;
      gone = (life_of lives slot).gone;
      totals = totals_after cpus lives ticks slot;
      averages = group_averages cpus lives ticks slot;
    }

-- `has_begun ticks trigger`: whether a trigger is active after `ticks`. It is active if at least
-- one tick is at or after the time of the line that sets the trigger.
abbrev pub has_begun : List Tick → TriggerSpec → Bool
has_begun ticks trigger = list_any (λ (tick : Tick). nat_le trigger.at tick.at) ticks

-- `watch_after cpus lives ticks trigger`: the specified state of a trigger after the ticks `ticks`.
-- `lives` are all groups, by slot.
abbrev pub watch_after : ℕ → List GroupLife → List Tick → TriggerSpec → TriggerWatch
watch_after cpus lives ticks trigger =
    record {
      spec = trigger;
      trigger = if has_begun ticks trigger
          then Some (trigger_over trigger (history_of cpus lives ticks trigger.slot.0)) else None;
    }

-- `Represents engine cpus lives triggers ticks`: the engine has the state after `ticks`, for `cpus`
-- processors, the groups `lives` and these triggers. Each tick is a legal successor of the tick
-- before it. The state has each group and each trigger after `ticks`, the last tick, and the
-- triggers that fired at the last tick.
pub record Represents (engine : EngineView) (cpus : ℕ) (lives : List GroupLife) (triggers : List TriggerSpec)
    (ticks : List Tick) : Type 0 where
  pub ordered : AreNextTicks (no_tick cpus (length lives)) ticks
  pub cpus_are : engine.cpus ≡ cpus
  pub last : engine.last ≡ last_tick (no_tick cpus (length lives)) ticks
  pub slots : length engine.groups ≡ length lives
  pub groups : (slot : ℕ) → slot < length lives → engine_group engine.groups slot ≡ group_after cpus lives ticks slot
  pub watches : engine.watches ≡ map (watch_after cpus lives ticks) triggers
  pub fired : (prefix : List Tick) (tick : Tick) → ticks ≡ prefix ++ tick ∷ [] → engine.fired ≡ fired_at cpus lives triggers prefix tick
  pub unfired : ticks ≡ [] → engine.fired ≡ []

-- `EngineTakes old tick new`: updating the engine `old` with `tick` leads to `new`. That is, if
-- `old` represents `ticks`, then `new` represents `ticks` followed by `tick`.
abbrev pub EngineTakes : EngineView → Tick → EngineView → Type 0
EngineTakes old tick new = (cpus : ℕ) (lives : List GroupLife) (triggers : List TriggerSpec) (ticks : List Tick) →
    Represents old cpus lives triggers ticks → Represents new cpus lives triggers (ticks ++ tick ∷ [])

-- ---- the invariant of the engine

-- `AreWatchesWithin slots watches`: each trigger is legal for a trace with `slots` groups.
abbrev pub AreWatchesWithin : ℕ → List TriggerWatch → Type 0
AreWatchesWithin slots watches = All (λ watch. IsTriggerWithin last_moment slots watch.spec) watches

-- The invariant of the engine. The numbers of processors, groups and triggers are within their
-- limits. The table of the last tick has the right size. The total of each state is at most the
-- time of the last tick, and the total of interrupt time is at most the sum of the group's
-- interrupt times on all processors (`AreGroupsWithin`). The triggers are legal.
pub record IsEngine (engine : EngineView) : Type 0 where
  pub few_cpus : engine.cpus ≤ 64
  pub few_groups : length engine.groups ≤ most_groups
  pub few_watches : length engine.watches ≤ 256
  pub sizes : HasSizes engine.cpus (length engine.groups) engine.last.table
  pub early : engine.last.at ≤ last_moment
  pub totals : AreGroupsWithin engine.last engine.groups
  pub watches : AreWatchesWithin (length engine.groups) engine.watches

-- `IsRoom count capacity`: `count` elements fit into a list with this capacity.
pub record IsRoom (count capacity : ℕ) : Type 0 where
  pub room : count ≤ capacity

-- `IsLifeWithin latest life`: the group was created at or before `latest` (ns). If it was removed,
-- the removal was also at or before `latest`.
pub record IsLifeWithin (latest : ℕ) (life : GroupLife) : Type 0 where
  pub made : life.made ≤ latest
  pub gone : IfSome life.gone (λ gone. gone ≤ latest)

-- ---- laws of the engine

-- The totals that the engine returns for a group are the specified totals after the ticks that the
-- engine represents.
abbrev pub ShowsTotals : Type 0
ShowsTotals = (engine : EngineView) (cpus : ℕ) (lives : List GroupLife) (triggers : List TriggerSpec) (ticks : List Tick) (slot : ℕ) →
    Represents engine cpus lives triggers ticks → slot < length lives → totals_in engine slot ≡ totals_after cpus lives ticks slot

-- The averages that the engine returns for a group are the specified averages after the ticks that
-- the engine represents.
abbrev pub ShowsAverages : Type 0
ShowsAverages = (engine : EngineView) (cpus : ℕ) (lives : List GroupLife) (triggers : List TriggerSpec) (ticks : List Tick) (slot : ℕ) →
    Represents engine cpus lives triggers ticks → slot < length lives → averages_in engine slot ≡ group_averages cpus lives ticks slot

-- The triggers that the engine returns as fired are the triggers that the specification says fire
-- at the last tick that the engine represents.
abbrev pub ShowsFired : Type 0
ShowsFired = (engine : EngineView) (cpus : ℕ) (lives : List GroupLife) (triggers : List TriggerSpec) (prefix : List Tick) (tick : Tick) →
    Represents engine cpus lives triggers (prefix ++ tick ∷ []) → engine.fired ≡ fired_at cpus lives triggers prefix tick

-- The engine's last tick is the last of the ticks that the engine represents.
abbrev pub ShowsLast : Type 0
ShowsLast = (engine : EngineView) (cpus : ℕ) (lives : List GroupLife) (triggers : List TriggerSpec) (prefix : List Tick) (tick : Tick) →
    Represents engine cpus lives triggers (prefix ++ tick ∷ []) → engine.last ≡ tick
