-- Defines the scope of a choice (the groups that an action may choose from), and the measure by
-- which an action orders groups.
use Rattle.std.specs.Prelude.{◌≡◌, ℕ, length, ◌-◌, ◌&&◌, ◌==◌, List, Option, None, Some, Bool, true}
use Rattle.std.specs.Prelude.{nat_lt, slice_index_or}
use Rattle.psi_base.specs.declared.event.Slot.{Slot}
use Rattle.psi_spec.specs.declared.machine.GroupLife.{GroupLife}
use Rattle.psi_spec.specs.Stall.{parents_of}
use Rattle.path_match.specs.Match.{is_match}
use Rattle.ruleset_json.specs.declared.types.Action.{Action}
use Rattle.ruleset_json.specs.declared.types.Action.TheVariants as action
use Rattle.ruleset_json.specs.Ranges.{FitsAction}
use Rattle.kill_spec.specs.declared.reading.GroupReading.{GroupReading}
use Rattle.kill_spec.specs.declared.reading.HostReading.{HostReading}
use Rattle.kill_spec.specs.Readings.{Reading, path_of}
use Rattle.kill_spec.specs.Victims.{action_patterns, candidates, children, is_at_least, names_slot}
use Rattle.kill_spec.specs.Victims.{memory_in_use, pressure_measure, rank_of}
use Rattle.detectors.specs.Views.{ReadingView}
use Rattle.victim_rank.specs.Pasts.{Kept}

-- ---- scopes

-- A scope. `lives` has all groups that the trace ever creates, and `act` is the action. If `above`
-- is a slot, the action chooses among the children of that slot's group. If `above` is `None`, it
-- chooses among its candidates: the populated groups that its patterns match.
pub record ScopeView : Type 0 where
  pub lives : List GroupLife
  pub act : Action
  pub above : Option Slot

-- `among lives act above now`: the groups of the reading `now` that are in the scope with the
-- fields `lives`, `act` and `above`.
abbrev pub among : List GroupLife → Action → Option Slot → Reading → List GroupReading
among lives act None now = candidates lives (action_patterns act) now
among lives act (Some above) now = children lives above.0 now

-- `is_in_scope lives act above group`: whether `group` is in the scope with the fields `lives`,
-- `act` and `above`.
abbrev pub is_in_scope : List GroupLife → Action → Option Slot → GroupReading → Bool
is_in_scope lives act None group = group.populated && is_match (action_patterns act) (path_of lives group)
is_in_scope lives act (Some above) group =
    group.populated && names_slot above.0 (slice_index_or (parents_of lives) group.slot.0 None)

-- Whether `group` is in the scope `scope`.
abbrev pub is_in_view : ScopeView → GroupReading → Bool
is_in_view scope group = is_in_scope scope.lives scope.act scope.above group

-- Whether `group` is in the scope and its preference has the rank `best_rank`.
abbrev pub is_in_rank : ScopeView → ℕ → GroupReading → Bool
is_in_rank scope best_rank group = is_in_view scope group && rank_of group == best_rank

-- The precondition of a choice: the scope, the reading and the stored past belong to the same
-- trace, and the action's numbers are in range.
pub record IsUse (scope : ScopeView) (reading : ReadingView) (kept : Kept) : Type 0 where
  pub fits : FitsAction scope.act
  pub lives : reading.lives ≡ scope.lives
  pub slots : length kept.sizes ≡ length scope.lives

-- The action chooses by size or growth.
abbrev pub IsSizes : Action → Type 0
IsSizes (action.SizeOrGrowth cgroup size_threshold percentile ratio after) = Unit {0}
IsSizes (action.SwapUsage cgroup threshold after) = ⊥
IsSizes (action.Pressure cgroup resource after) = ⊥
IsSizes (action.PgScan cgroup after) = ⊥

-- ---- measures

-- The increase of the scan count `scan` over the earlier count, or 0 if there is no earlier count.
abbrev pub above_count : ℕ → Option ℕ → ℕ
above_count scan None = 0
above_count scan (Some before) = scan - before

-- The increase of the group's scan count over its stored count.
abbrev pub rise_from : Kept → GroupReading → ℕ
rise_from kept group = above_count group.scan (slice_index_or kept.scans group.slot.0 None)

-- The measure by which the action orders groups. Groups with a greater measure are chosen first.
abbrev pub measure_of : Action → Kept → GroupReading → ℕ
measure_of (action.SizeOrGrowth cgroup size_threshold percentile ratio after) kept group =
    memory_in_use group
measure_of (action.SwapUsage cgroup threshold after) kept group = group.swap
measure_of (action.Pressure cgroup resource after) kept group = pressure_measure resource group
measure_of (action.PgScan cgroup after) kept group = rise_from kept group

-- Whether the action may choose `group`.
abbrev pub is_eligible : Action → HostReading → Kept → GroupReading → Bool
is_eligible (action.SizeOrGrowth cgroup size_threshold percentile ratio after) host kept group =
    true
is_eligible (action.SwapUsage cgroup threshold after) host kept group =
    is_at_least threshold host group.swap
is_eligible (action.Pressure cgroup resource after) host kept group =
    nat_lt 0 (pressure_measure resource group)
is_eligible (action.PgScan cgroup after) host kept group = nat_lt 0 (rise_from kept group)
